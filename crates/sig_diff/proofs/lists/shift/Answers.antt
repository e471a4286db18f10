use Rattle.std.proofs.Common.{◌≡◌, suc, ◌+◌, ◌-◌, length, drop, arith}
use borrow.Rule.Slice.PartMut.{mid_of}
use Rattle.std.proofs.lemmas.List.{length-take, length-drop}
use Rattle.sig_diff.proofs.Rotated.{moved_later, moved_earlier}
use Rattle.sig_diff.proofs.lists.shift.Goals as goal

pub returns-then-old_index-new_index : goal.returns-then-old_index-new_index
returns-then-old_index-new_index g c =
    let count : c.args.new_index + 1 - c.args.old_index ≡ suc (c.args.new_index - c.args.old_index) = omega (arith, c.if-old_index-new_index.true) in
    let place : c.args.old_index + (c.args.new_index - c.args.old_index) ≡ c.args.new_index = omega (arith, c.if-old_index-new_index.true) in
    let later = rw place at (moved_later c.args.items.now c.args.old_index (c.args.new_index - c.args.old_index) (rw place c.requires.new_index)) in
    rw (c.rotate_left.ensures.after, count) later

pub returns-else-old_index-new_index : goal.returns-else-old_index-new_index
returns-else-old_index-new_index g c =
    let count : c.args.old_index + 1 - c.args.new_index ≡ suc (c.args.old_index - c.args.new_index) = omega (arith, c.if-old_index-new_index.false) in
    let place : c.args.new_index + (c.args.old_index - c.args.new_index) ≡ c.args.old_index = omega (arith, c.if-old_index-new_index.false) in
    let between : length (mid_of c.args.new_index (suc (c.args.old_index - c.args.new_index)) c.args.items.now) - 1 ≡ c.args.old_index - c.args.new_index = omega (arith, length-take (suc (c.args.old_index - c.args.new_index)) (drop c.args.new_index c.args.items.now), length-drop c.args.new_index c.args.items.now, c.requires.old_index, c.requires.new_index) in
    let earlier = rw place at (moved_earlier c.args.items.now c.args.new_index (c.args.old_index - c.args.new_index) (rw place c.requires.old_index)) in
    rw (c.rotate_right.ensures.after, count, between) earlier
