use Rattle.std.proofs.Common.{rules, ◌≡◌, suc, ◌+◌, ◌≤◌, pos, get_or, w64, to_z, of_z, if◌then◌else◌, append_assoc, drop-cons, arith}
use Rattle.sig_diff.specs.Choosing.{is_let_in}
use Rattle.sig_bank.proofs.filtering.flip_class.Goals.{then-passes, else-passes}
use Rattle.sig_bank.proofs.filtering.flip_class.Goals as goal

pub items-preserved : goal.items-preserved
items-preserved c =
    let item = get_or c.args.items.now c.items.item-index (pos 0) in
    let same : to_z w64 (of_z w64 item) ≡ item = search rules in
    let passes : c.call-passes.result ≡ is_let_in c.args.signals.now item = rw same at c.call-passes.ensures in
    let class = rw same at c.class_of.ensures.result in
    let place : c.if-passes.place ≡ (if c.call-passes.result then c.items.place + 1 else c.items.place) =
    elim c.if-passes.branch [ then-passes w ↦ rw (w.if-passes.true) w.place-is | else-passes w ↦ rw (w.if-passes.false) w.place-is ] in
    let near : c.if-passes.place ≤ c.items.place + 1 =
    elim c.if-passes.branch [ then-passes w ↦ omega (arith, w.place-is) | else-passes w ↦ omega (arith, w.place-is) ] in
    let given = rw (same, class, passes) at c.in_ok-flip.ensures in
    let rest = rw (drop-cons c.args.items.now c.items.item-index (pos 0) c.items-test.true) at c.items.invariant.0 in
    let next : c.items.item-index + 1 ≡ suc c.items.item-index = omega arith in
    (rw (given, append_assoc, next, place, passes) rest, omega (arith, near, c.items.invariant.1))
