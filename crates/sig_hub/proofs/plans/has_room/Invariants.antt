use Rattle.sig_hub.proofs.Fair.{IsAdding}
use Rattle.sig_hub.proofs.plans.has_room.Given as goal

abbrev pub invariant-allow : goal.invariant-allow
invariant-allow l = IsAdding l.allow l.allowance-index l.room
