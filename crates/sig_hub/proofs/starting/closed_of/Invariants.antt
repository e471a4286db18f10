use Rattle.std.proofs.Common.{◌≡◌, map, take}
use Rattle.sig_hub.specs.Starting.{has_closed}
use Rattle.sig_hub.proofs.starting.closed_of.Given as goal

abbrev pub invariant-states : goal.invariant-states
invariant-states l = l.closed.items ≡ map has_closed (take l.state-index l.states)
