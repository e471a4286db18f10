use Rattle.std.proofs.Common.{◌≡◌, map}
use Rattle.sig_hist.specs.Plain.{source_of}
use Rattle.sig_hub.proofs.starting.states_of.Given as goal

abbrev pub invariant-plans : goal.invariant-plans
invariant-plans l = l.states.items ≡ map source_of l.yielded
