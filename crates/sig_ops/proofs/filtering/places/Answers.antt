use Rattle.std.proofs.Common.{refl}
use Rattle.std.proofs.lemmas.List.{take_rest}
use Rattle.sig_ops.proofs.Places.{passing_before_behind, passing_behind_left_out}
use Rattle.sig_ops.proofs.filtering.places.Goals as goal

pub returns-then-new_index-old_index-clause-old_place :
    goal.returns-then-new_index-old_index-clause-old_place
returns-then-new_index-old_index-clause-old_place g c =
    let behind = passing_before_behind (g.P.Tester.passes c.args.tester.now) c.args.items.now c.args.new_index c.args.old_index c.if-new_index-old_index.true in
    rw (c.passing_before-before.ensures.result, c.passing_before-between.ensures.result, take_rest, behind) refl

pub returns-else-new_index-old_index-clause-new_place :
    goal.returns-else-new_index-old_index-clause-new_place
returns-else-new_index-old_index-clause-new_place g c =
    let behind = passing_behind_left_out (g.P.Tester.passes c.args.tester.now) c.args.items.now c.args.old_index c.args.new_index c.requires.old_index c.if-new_index-old_index.false in
    rw (c.passing_before-before-else-new_index-old_index.ensures.result, c.passing_before.ensures.result, take_rest, behind) refl
