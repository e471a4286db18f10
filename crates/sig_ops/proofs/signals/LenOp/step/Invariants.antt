use Rattle.sig_diff.proofs.Following.{Followed}
use Rattle.sig_diff.specs.Differences.{is_lawful}
use Rattle.sig_ops.specs.Sizes.{resized}
use Rattle.sig_ops.proofs.signals.LenOp.step.Given as goal

abbrev pub invariant-diffs : goal.invariant-diffs
invariant-diffs l = Followed is_lawful resized (λ size. size) 65536 l.fn.self l.diff-items l.len l.diff-index
