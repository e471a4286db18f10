use Rattle.std.proofs.Common.{◌∙◌, subst, sym, ap, arith}
use Rattle.sig_ops.specs.Enumerating.{Enumeration, enumerate_gives}
use Rattle.sig_ops.specs.laws.Enumerating.{EnumerateStep, few_made_by_step}
use Rattle.sig_ops.specs.TagIndex.{reindexed}
use Rattle.sig_ops.proofs.TagIndexes.{index_taken}
use Rattle.sig_ops.proofs.enumerating.EnumerateOp.take.Goals as goal

pub reindex-requires-clause-short : goal.reindex-requires-clause-short
reindex-requires-clause-short c = few_made_by_step c.args.self.now c.args.diff.now c.requires.step

pub overflow_add-self : goal.overflow_add-self
overflow_add-self c =
    let step = subst (λ (op : Enumeration). EnumerateStep op c.args.diff.now) (sym c.self.view_is) c.requires.step in
    omega (arith, step.tags, c.made-made.ensures, few_made_by_step c.args.self.now c.args.diff.now c.requires.step)

pub invariant_of-self-2 : goal.invariant_of-self-2
invariant_of-self-2 c =
    let op : Enumeration = record { elements = c.self.inside.elements; next = c.self.inside.next } in
    let step = subst (λ (op : Enumeration). EnumerateStep op c.args.diff.now) (sym c.self.view_is) c.requires.step in
    let gives = c.requires.given ∙ ap (λ (op : Enumeration). enumerate_gives op c.args.diff.now) (sym c.self.view_is) in
    index_taken op c.self.inside.index.items c.self.invariant c.args.diff.now c.args.given.now c.apply.new.list c.made-made.result c.len-len.result c.reindex.new.index.items step gives
    (c.in_ok-apply.ensures.ok) c.made-made.ensures c.len-len.ensures (c.reindex.ensures ∙ ap (reindexed c.self.inside.next c.len-len.result c.args.diff.now) c.in_ok-reserve.ensures.items)
