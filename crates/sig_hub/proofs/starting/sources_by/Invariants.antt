use Rattle.std.proofs.Common.{◌≤◌, length}
use Rattle.sig_hub.specs.Starting.{AreWritten}
use Rattle.sig_hub.proofs.starting.sources_by.Given as goal

abbrev pub invariant-plans : goal.invariant-plans
invariant-plans l = AreWritten l.plans l.number l.source l.sources.items × (l.source ≤ length l.plans)
