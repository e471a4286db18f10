use Rattle.std.proofs.Common.{◌≡◌, vec_capacity}
use Rattle.sig_hub.proofs.Gathered.{AreMoved}
use Rattle.sig_hub.proofs.ending.with_left.Given as goal

abbrev pub invariant-left : goal.invariant-left
invariant-left l = AreMoved l.fn.left l.yielded l.pass-iterator.rest.items l.initial.seats.items l.seats.items × (vec_capacity l.seats ≡ vec_capacity l.initial.seats)
