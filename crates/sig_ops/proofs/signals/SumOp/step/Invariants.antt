use Rattle.std.proofs.Common.{length}
use Rattle.sig_diff.proofs.Following.{Followed}
use Rattle.sig_diff.specs.Differences.{applied}
use Rattle.sig_diff.specs.Replaying.{list_takes}
use Rattle.sig_ops.proofs.signals.SumOp.step.Given as goal

abbrev pub invariant-diffs : goal.invariant-diffs
invariant-diffs l = Followed list_takes applied length 65536 l.fn.self l.diff-items l.self l.diff-index
