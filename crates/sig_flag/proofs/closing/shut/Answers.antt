use Rattle.std.proofs.Common.{◌∙◌, sym}
use Rattle.std.proofs.lemmas.List.{length-map}
use Rattle.std.specs.Mem.Slots.{slots_counts}
use Rattle.sig_flag.proofs.Closes.{shut_without, shut_with, counted_without, counted_with, heard_without, heard_with}
use Rattle.sig_flag.proofs.Laid.{leaves_of}
use Rattle.sig_flag.proofs.Gathers.{none_left, view_of_all}
use Rattle.sig_flag.specs.Opening.{layout_of}
use Rattle.sig_flag.proofs.closing.shut.Goals as goal

pub returns-in-None-clause-slots : goal.returns-in-None-clause-slots
returns-in-None-clause-slots g c =
    let states = c.args.table.shared.key.states.value in
    let counted = sym (slots_counts c.close.result.slots).0 ∙ c.close.ensures.counts.1 ∙ c.requires.slots ∙ sym (length-map states g.V.Kept.plan) in
    shut_without _ _ (layout_of g.V.Kept.plan c.args.table.shared.key) c.args.seats _ _ (none_left _ _ c.in-None.ensures.last c.in-None.ensures.rest) c.requires.all counted c.close.ensures.values.2

pub returns-in-Some-clause-slots : goal.returns-in-Some-clause-slots
returns-in-Some-clause-slots g c =
    let states = c.args.table.shared.key.states.value in
    let counted = sym (slots_counts c.close_with.result.slots).0 ∙ c.close_with.ensures.counts.1 ∙ c.requires.slots ∙ sym (length-map states g.V.Kept.plan) in
    shut_with _ _ (layout_of g.V.Kept.plan c.args.table.shared.key) _ c.args.seats _ _ _ (view_of_all _ _ _ _ _ c.requires.rest c.in-Some.ensures.last c.gather.ensures.accounts) c.requires.all c.requires.no_turn counted c.close_with.ensures.values.2

pub returns-in-None-clause-heard : goal.returns-in-None-clause-heard
returns-in-None-clause-heard g c = heard_without _ _ _ c.args.seats _ _ (none_left _ _ c.in-None.ensures.last c.in-None.ensures.rest)

pub returns-in-Some-clause-heard : goal.returns-in-Some-clause-heard
returns-in-Some-clause-heard g c =
    let states = c.args.table.shared.key.states.value in
    let counted = sym (slots_counts c.close_with.result.slots).0 ∙ c.close_with.ensures.counts.1 ∙ c.requires.slots ∙ sym (length-map states g.V.Kept.plan) in
    heard_with _ _ (layout_of g.V.Kept.plan c.args.table.shared.key) _ c.args.seats _ _ _ (view_of_all _ _ _ _ _ c.requires.rest c.in-Some.ensures.last c.gather.ensures.accounts) c.requires.all c.requires.no_turn counted
    (leaves_of g.V.Kept.plan c.args.table.shared.key c.requires.leaves) c.close_with.ensures.values.2

pub returns-in-None-clause-counted : goal.returns-in-None-clause-counted
returns-in-None-clause-counted g c =
    counted_without _ _ (layout_of g.V.Kept.plan c.args.table.shared.key) c.args.seats _ _ (none_left _ _ c.in-None.ensures.last c.in-None.ensures.rest) c.requires.all c.close.ensures.values.2

pub returns-in-Some-clause-counted : goal.returns-in-Some-clause-counted
returns-in-Some-clause-counted g c =
    counted_with _ _ (layout_of g.V.Kept.plan c.args.table.shared.key) _ c.args.seats _ _ _ (view_of_all _ _ _ _ _ c.requires.rest c.in-Some.ensures.last c.gather.ensures.accounts) c.requires.all c.close_with.ensures.values.2
