use Rattle.sig_hub.proofs.Fair.{AreDistinctBefore}
use Rattle.sig_hub.proofs.plans.are_distinct.Given as goal

abbrev pub invariant-allow : goal.invariant-allow
invariant-allow l = AreDistinctBefore l.allow l.place
