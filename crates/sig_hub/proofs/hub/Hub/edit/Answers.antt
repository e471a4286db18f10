use Rattle.std.proofs.Common.{◌∙◌, sym, ap, subst}
use Rattle.sig_hub.proofs.StillIn.{listed_at}
use Rattle.sig_hub.specs.Hubs.{HubState}
use Rattle.sig_hub.specs.Passes.{HasTold, AreThoseToLeave, pass_of}
use Rattle.sig_hub.specs.declared.passes.WriterPass.TheInside.{Inside}
use Rattle.sig_hub.proofs.hub.Hub.edit.Goals as goal

pub invariant_of-pass : goal.invariant_of-pass
invariant_of-pass g c =
    let done = c.edit_in_turn.ensures in
    let no_leave = rw (← c.in_ok-edit.ensures) at c.requires.no_leave in
    subst (λ (inside : Inside). AreThoseToLeave (pass_of c.pass-inside.inside.0.0.of.value c.edit_in_turn.new.seat) inside.sources.items) (sym c.pass-inside.view_is)
    (listed_at _ c.self.inside.flags c.args.self.now.machine c.pass-inside.inside.0.0.seat c.edit_in_turn.new.seat _ c.args.pass.now _ c.pass-inside.inside.0.0.number _ _ c.edit_in_turn.result (ap (λ (inside : Inside). inside.station) c.pass-inside.view_is) c.pass.view_is (ap (λ (hub : HubState). hub.machine) c.self.view_is) c.requires.hub
    c.pass.invariant c.requires.writes no_leave done.same done.ok done.err)

pub returns-in_err-edit-clause-told : goal.returns-in_err-edit-clause-told
returns-in_err-edit-clause-told g c =
    let nothing = c.pass-inside.invariant.rests.nothing in
    subst HasTold (ap (λ (inside : Inside). inside.station) c.pass-inside.view_is ∙ c.pass.view_is) (record { no_ring = nothing.no_ring; no_tell = nothing.no_tell })
