use Rattle.sig_hub.proofs.InTurn.{not_tried, sits_still, rests_still}
use Rattle.sig_hub.proofs.turns.wait_for_turn.Goals as goal

pub tries-init : goal.tries-init
tries-init g c = not_tried _ _ c.requires.seat c.requires.no_turn

pub take-requires-clause-seat : goal.take-requires-clause-seat
take-requires-clause-seat g c = sits_still _ _ _ c.requires.seat c.tries.invariant

pub take-requires-clause-no_turn : goal.take-requires-clause-no_turn
take-requires-clause-no_turn g c = rests_still _ _ c.requires.no_turn c.tries.invariant
