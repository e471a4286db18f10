use Rattle.std.proofs.Common.{vec_capacity}
use Rattle.sig_hub.proofs.Listed.{IsListing}
use Rattle.sig_hub.proofs.ending.ready_tasks.Given as goal

abbrev pub invariant-tasks : goal.invariant-tasks
invariant-tasks l = IsListing l.ready l.task l.told.items (vec_capacity l.told)
