use Rattle.sig_hub.specs.Turns.{IsTrying}
use Rattle.sig_hub.proofs.turns.wait_for_turn.Given as goal

abbrev pub invariant-tries : goal.invariant-tries
invariant-tries g l = IsTrying l.initial.seat l.seat
