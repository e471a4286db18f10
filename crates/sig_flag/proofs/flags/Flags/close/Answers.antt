use Rattle.std.proofs.Common.{◌∙◌, ◌≤◌, length, ap, subst, arith}
use Rattle.std.specs.Mem.Slots.{slots_counts, slots_items}
use Rattle.sig_flag.proofs.Closes.{home_of, ends, ends_heard, ends_ready, reads_ready}
use Rattle.sig_flag.proofs.Laid.{leaves_back}
use Rattle.sig_flag.specs.Layouts.{words_of}
use Rattle.sig_flag.specs.Machines.{Machine, IsEnd, IsHeard, IsReadyList}
use Rattle.sig_flag.specs.Opening.{layout_of}
use Rattle.sig_flag.proofs.flags.Flags.close.Goals as goal

pub shut-closed-requires-clause-all : goal.shut-closed-requires-clause-all
shut-closed-requires-clause-all g c = omega (arith, c.requires.all, ap (λ (m : Machine). m.layout.seats) c.self.view_is)

pub take_all-requires-clause-home : goal.take_all-requires-clause-home
take_all-requires-clause-home g c = home_of _ _ (layout_of g.V.Kept.plan c.self.inside.table.shared.key) _ _ c.shut-closed.ensures.slots

pub returns-clause-states : goal.returns-clause-states
returns-clause-states g c =
    subst (λ (m : Machine). IsEnd g.V.Kept.plan g.V.Kept.history m c.args.seats c.from_vec.result) c.self.view_is
    (rw c.from_vec.ensures (ends _ _ (layout_of g.V.Kept.plan c.self.inside.table.shared.key) _ c.args.seats _ _ _ c.shut-closed.ensures.slots (slots_counts c.shut-closed.result.slots).0 c.take_all.ensures))

pub shut-closed-requires-clause-leaves : goal.shut-closed-requires-clause-leaves
shut-closed-requires-clause-leaves g c = leaves_back g.V.Kept.plan c.self.inside.table.shared.key c.self.invariant.0.leaves

pub returns-clause-ready : goal.returns-clause-ready
returns-clause-ready g c =
    let key = c.self.inside.table.shared.key in
    let layout = layout_of g.V.Kept.plan key in
    let ready = reads_ready layout _ _ _ _ _ (c.slot_count.ensures ∙ c.self.invariant.0.of_slots) (c.len.ensures ∙ ap length c.self.invariant.1) c.self.invariant.2 c.ready_tasks-ready.ensures in
    let wide : words_of layout ≤ length (slots_items c.shut-closed.result.words) = omega (arith, c.self.invariant.0.of_words, c.shut-closed.ensures.words, (slots_counts c.shut-closed.result.words).0) in
    subst (λ (m : Machine). IsReadyList m.layout c.args.seats c.from_vec-2.result) c.self.view_is
    (rw c.from_vec-2.ensures (ends_ready layout c.args.seats _ _ wide c.shut-closed.ensures.counted ready))

pub returns-clause-heard : goal.returns-clause-heard
returns-clause-heard g c =
    let key = c.self.inside.table.shared.key in
    let layout = layout_of g.V.Kept.plan key in
    let ready = reads_ready layout _ _ _ _ _ (c.slot_count.ensures ∙ c.self.invariant.0.of_slots) (c.len.ensures ∙ ap length c.self.invariant.1) c.self.invariant.2 c.ready_tasks-ready.ensures in
    subst (λ (m : Machine). IsHeard g.V.Kept.plan g.V.Kept.history m.layout c.args.seats c.from_vec.result c.from_vec-2.result) c.self.view_is
    (rw (c.from_vec.ensures, c.from_vec-2.ensures) (ends_heard _ _ layout c.args.seats _ _ _ _ _ c.self.invariant.0.leaves c.shut-closed.ensures.heard c.take_all.ensures ready))
