use Rattle.std.proofs.Common.{rules, ◌≡◌, suc, ◌+◌, pos, get_or, w64, to_z, of_z, append_assoc, drop-cons, arith}
use Rattle.sig_flat.proofs.flattening.joined.Goals as goal

pub elements-preserved : goal.elements-preserved
elements-preserved c =
    let element = get_or c.args.outer.now c.elements.element-index (pos 0) in
    let same : to_z w64 (of_z w64 element) ≡ element = search rules in
    let block = rw same at c.list_for.ensures in
    let rest = rw (drop-cons c.args.outer.now c.elements.element-index (pos 0) c.elements-test.true) at c.elements.invariant in
    let next : c.elements.element-index + 1 ≡ suc c.elements.element-index = omega arith in
    rw (c.in_ok-extend_from_slice.ensures.items, block, append_assoc, next) rest
