use Rattle.std.proofs.Common.{rules, ◌≡◌, suc, ◌+◌, pos, get_or, w64, to_z, of_z, append_assoc, drop-cons, arith}
use Rattle.sig_bank.proofs.mapping.change_class.Goals as goal

pub items-preserved : goal.items-preserved
items-preserved c =
    let item = get_or c.args.items.now c.items.item-index (pos 0) in
    let same : to_z w64 (of_z w64 item) ≡ item = search rules in
    let given = rw same at c.in_ok-change.ensures in
    let rest = rw (drop-cons c.args.items.now c.items.item-index (pos 0) c.items-test.true) at c.items.invariant.0 in
    let next : c.items.item-index + 1 ≡ suc c.items.item-index = omega arith in
    (rw (given, append_assoc, next) rest, omega (arith, c.items.invariant.1))
