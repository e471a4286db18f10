use Rattle.std.proofs.Common.{◌≡◌, vec_capacity}
use Rattle.sig_hub.proofs.Gathered.{AreMoved}
use Rattle.sig_hub.proofs.ending.with_pollers.Given as goal

abbrev pub invariant-pollers : goal.invariant-pollers
invariant-pollers l = AreMoved l.fn.pollers l.yielded l.pass-iterator.rest.items l.initial.seats.items l.seats.items × (vec_capacity l.seats ≡ vec_capacity l.initial.seats)
