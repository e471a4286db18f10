use Rattle.std.proofs.Common.{rules, ◌≡◌, refl, suc, ◌+◌, ◌++◌, ◌==◌, [], pos, get_or, length, if◌then◌else◌, w64, to_z, of_z, ap, append_assoc, drop-cons, arith}
use Rattle.std.proofs.lemmas.Bool.{eq-eqb, ne_eqb}
use Rattle.std.proofs.lemmas.List.{append-nil}
use Rattle.sig_diff.specs.Choosing.{list_for}
use Rattle.sig_diff.specs.Numbers.{class_of}
use Rattle.sig_flat.specs.Flattening.{block_gives}
use Rattle.sig_flat.proofs.Standing.{joined_more}
use Rattle.sig_flat.proofs.flattening.give_blocks.Goals.{then-class_of-child+in_ok-give_block, else-class_of-child}
use Rattle.sig_flat.proofs.flattening.give_blocks.Goals as goal

pub overflow_cast-place : goal.overflow_cast-place
overflow_cast-place c =
    let element = get_or c.args.outer.now c.elements.element-index (pos 0) in
    let same : to_z w64 (of_z w64 element) ≡ element = search rules in
    let block = ap length (rw same at c.list_for.ensures) in
    omega (arith, block, c.elements.invariant.1, c.requires.short, joined_more (list_for c.args.parts.now) c.args.outer.now c.elements.element-index c.elements-test.true)

pub overflow_add-place : goal.overflow_add-place
overflow_add-place c =
    let element = get_or c.args.outer.now c.elements.element-index (pos 0) in
    let same : to_z w64 (of_z w64 element) ≡ element = search rules in
    let block = ap length (rw same at c.list_for.ensures) in
    omega (arith, block, c.elements.invariant.1, c.requires.short, joined_more (list_for c.args.parts.now) c.args.outer.now c.elements.element-index c.elements-test.true)

pub elements-preserved : goal.elements-preserved
elements-preserved c =
    let element = get_or c.args.outer.now c.elements.element-index (pos 0) in
    let same : to_z w64 (of_z w64 element) ≡ element = search rules in
    let block = rw same at c.list_for.ensures in
    let class = rw same at c.class_of.ensures.result in
    let step = drop-cons c.args.outer.now c.elements.element-index (pos 0) c.elements-test.true in
    let next : c.elements.element-index + 1 ≡ suc c.elements.element-index = omega arith in
    let given : c.if-class_of-child.given ≡ c.elements.given ++ (if class_of (length c.args.parts.now) element == c.args.child then block_gives c.args.old_len c.elements.place c.args.diff.now else []) =
    elim c.if-class_of-child.branch [
      | then-class_of-child+in_ok-give_block w ↦ rw (w.given-is, w.in_ok-give_block.ensures, ← class, eq-eqb _ _ w.if-class_of-child.true) refl
      | else-class_of-child w ↦ rw (w.given-is, ← class, ne_eqb _ _ w.if-class_of-child.false, append-nil) refl
    ] in (
      rw (given, append_assoc, next, block) (rw step at c.elements.invariant.0),
      omega (arith, ap length block, c.elements.invariant.1, joined_more (list_for c.args.parts.now) c.args.outer.now c.elements.element-index c.elements-test.true),
    )
