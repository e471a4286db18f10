use Rattle.std.proofs.Common.{◌≡◌, [], length, ◌-◌, ◌^◌}
use Rattle.sig_diff.proofs.Following.{Followed}
use Rattle.sig_diff.specs.Differences.{applied}
use Rattle.sig_diff.specs.Replaying.{list_takes}
use Rattle.sig_diff.proofs.replaying.replay.Given as goal

abbrev pub invariant-diffs : goal.invariant-diffs
invariant-diffs g l = Followed list_takes applied length (2 ^ 32 - 1) [] l.diff-items l.items l.diff-index × (l.at ≡ l.diff-index)
