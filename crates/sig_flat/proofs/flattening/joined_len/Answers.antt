use Rattle.std.proofs.Common.{rules, ◌≡◌, pos, get_or, w64, to_z, of_z, ap, length, arith}
use Rattle.sig_diff.specs.Choosing.{list_for}
use Rattle.sig_flat.proofs.Standing.{joined_more}
use Rattle.sig_flat.proofs.flattening.joined_len.Goals as goal

pub overflow_cast-len : goal.overflow_cast-len
overflow_cast-len c =
    let element = get_or c.args.outer.now c.elements.element-index (pos 0) in
    let same : to_z w64 (of_z w64 element) ≡ element = search rules in
    let block = ap length (rw same at c.list_for.ensures) in
    omega (arith, block, c.elements.invariant, c.requires, joined_more (list_for c.args.parts.now) c.args.outer.now c.elements.element-index c.elements-test.true)

pub elements-preserved : goal.elements-preserved
elements-preserved c =
    let element = get_or c.args.outer.now c.elements.element-index (pos 0) in
    let same : to_z w64 (of_z w64 element) ≡ element = search rules in
    let block = ap length (rw same at c.list_for.ensures) in
    omega (arith, block, c.elements.invariant, joined_more (list_for c.args.parts.now) c.args.outer.now c.elements.element-index c.elements-test.true)
