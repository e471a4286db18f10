use Rattle.std.proofs.Common.{◌≡◌, ◌++◌, drop, map}
use Rattle.sig_script.specs.Schedules.{event_limit}
use Rattle.sig_script.proofs.schedules.event_limits.Given as goal

abbrev pub invariant-writers : goal.invariant-writers
invariant-writers l = l.limits ++ map event_limit (drop l.writer-index l.writers) ≡ map event_limit l.writers
