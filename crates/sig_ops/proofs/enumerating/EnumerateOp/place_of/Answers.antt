use Rattle.std.proofs.Common.{rules, Some, ap, ◌∙◌}
use Rattle.std.proofs.lemmas.List.Sorted.{answers_always}
use Rattle.sig_ops.specs.declared.enumerating.TagPlace.{TagPlace}
use Rattle.sig_ops.proofs.TagIndexes.{found_place, no_place}
use Rattle.sig_ops.proofs.enumerating.EnumerateOp.place_of.Goals as goal

pub returns-in-Ok : goal.returns-in-Ok
returns-in-Ok c =
    let equal = c.in-Ok.ensures.position (λ (entry : TagPlace). entry.tag) (answers_always _ _ _ (λ f a r after called. search rules)) c.index.result.now in
    let found = found_place c.self.inside.elements c.self.inside.next c.self.inside.index.items c.args.tag c.self.invariant c.in-Ok.at c.index.result.now
    (rw c.deref.ensures.value at c.in-Ok.ensures.bound) (rw c.deref.ensures.value at equal) in
    rw (← c.self.view_is) (ap (λ (entry : TagPlace). Some entry.place) c.index.ensures ∙ found)

pub returns-in-Err : goal.returns-in-Err
returns-in-Err c =
    let ends = c.in-Err.ensures.position (λ (entry : TagPlace). entry.tag) (answers_always _ _ _ (λ f a r after called. search rules)) in
    rw (← c.self.view_is) (no_place c.self.inside.elements c.self.inside.next c.self.inside.index.items c.args.tag c.self.invariant c.in-Err.field-0 (rw c.deref.ensures.value at ends))
