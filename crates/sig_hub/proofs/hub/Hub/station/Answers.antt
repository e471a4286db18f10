use Rattle.std.proofs.Common.{◌∙◌, sym, ap, subst}
use Rattle.sig_flag.specs.Machines.{Machine}
use Rattle.sig_hub.proofs.Started.{station_new}
use Rattle.sig_hub.specs.Hubs.{HubState}
use Rattle.sig_hub.specs.Passes.{IsStation}
use Rattle.sig_hub.proofs.hub.Hub.station.Goals as goal

pub invariant_of-result : goal.invariant_of-result
invariant_of-result c =
    let its_machine = ap (λ (hub : HubState). hub.machine) c.self.view_is in
    subst (λ (machine : Machine). IsStation machine c.args.seat c.args.number) (sym (c.of.ensures ∙ its_machine))
    (station_new c.args.self.now c.args.number c.args.seat c.requires.seat c.requires.plans)
