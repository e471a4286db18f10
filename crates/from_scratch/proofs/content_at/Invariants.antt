use Rattle.std.proofs.Common.{◌≤◌}
use Rattle.sig_hist.specs.Changes.{size_of}
use Rattle.from_scratch.proofs.content_at.Given as goal

abbrev pub invariant-entries : goal.invariant-entries
invariant-entries l = size_of l.content ≤ l.plan.cap
