use Rattle.sig_hub.specs.Passes.{IsOf}
use Rattle.trials.proofs.hubs.push_all.Given as goal

abbrev pub invariant-pushes : goal.invariant-pushes
invariant-pushes g l = IsOf l.hub.machine l.pass
