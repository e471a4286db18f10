use Rattle.std.proofs.Common.{◌≡◌, ◌∙◌, ◌∷◌, [], List, ◌++◌, length, sym, ap, subst, append_assoc, length-append, zero-add, arith}
use Rattle.std.proofs.lemmas.List.{length_push}
use Rattle.std.specs.Vec.Iter.{into_iter_items}
use Rattle.sig_hub.proofs.Started.{are_new, started_more, its_number, its_seat, its_sources, other_drafts}
use Rattle.sig_hub.specs.Hubs.{new_pass}
use Rattle.sig_hub.specs.Passes.{Pass, AreThoseToLeave}
use Rattle.sig_hub.specs.declared.starting.Draft.{Draft}
use Rattle.sig_hub.proofs.hub.Hub.writer_passes.Goals as goal

pub station-requires-clause-seat : goal.station-requires-clause-seat
station-requires-clause-seat c =
    let so_far = c.drafts.invariant in its_seat c.args.self.now _ _ _ _ _ _ c.in-Some.draft c.in-Some-next.seat so_far.starting so_far.drafts c.in-Some-next.ensures.cases.0 c.in-Some.ensures.steps.0

pub invariant_of-push : goal.invariant_of-push
invariant_of-push c =
    let so_far = c.drafts.invariant in
    subst (λ (pass : Pass). AreThoseToLeave pass c.in-Some.draft.sources.items) (sym c.station.ensures)
    (its_sources c.args.self.now _ _ _ _ _ _ c.in-Some.draft c.in-Some-next.seat so_far.starting so_far.drafts c.in-Some-next.ensures.cases.0 c.in-Some.ensures.steps.0)

pub drafts-preserved : goal.drafts-preserved
drafts-preserved c =
    let so_far = c.drafts.invariant in
    let pushed = c.in_ok-push-in-Some-next.ensures.items in
    let next = c.in-Some-next.ensures.cases.0 in
    let draft = c.in-Some.ensures.steps.0 in
    let number = its_number c.args.self.now _ _ _ _ _ _ c.in-Some.draft c.in-Some-next.seat so_far.starting so_far.drafts next draft in
    record {
      starting = started_more c.args.self.now 0 _ _ _ _ _ c.in-Some-next.seat _ so_far.starting next (c.station.ensures ∙ ap (new_pass c.args.self.now) (number ∙ sym (zero-add (length c.drafts.passes.items)))) pushed;
      parts = append_assoc c.drafts.yielded (c.in-Some.draft ∷ []) (into_iter_items c.next.new.self) ∙ ap (λ (back : List Draft). c.drafts.yielded ++ back) (sym draft) ∙ so_far.parts;
      drafts = other_drafts c.args.self.now _ _ _ _ _ _ c.in-Some.draft c.in-Some-next.seat so_far.starting so_far.drafts next draft _ _ pushed;
      counted = omega (arith, ap length pushed, length_push c.drafts.passes.items c.station.result, length_push c.drafts.yielded c.in-Some.draft, so_far.counted);
    }

pub returns-clause-passes : goal.returns-clause-passes
returns-clause-passes c =
    let so_far = c.drafts.invariant in
    let all : length c.drafts.passes.items ≡ length c.args.drafts.items =
    omega (arith, so_far.counted, ap length so_far.parts, length-append c.drafts.yielded (into_iter_items c.drafts.draft-iterator), c.drafts.draft-iterator.rest.ok.0, c.in-None.ensures.steps.0) in
    rw c.from_vec.ensures (are_new c.args.self.now _ _ _ so_far.starting.passes_are all)
