use Rattle.std.proofs.Common.{◌≡◌, [], length, ◌-◌, ◌^◌}
use Rattle.sig_diff.proofs.Following.{Followed}
use Rattle.sig_diff.specs.MapDifferences.{map_is_lawful, map_applied}
use Rattle.sig_diff.proofs.replaying.map_replay.Given as goal

abbrev pub invariant-diffs : goal.invariant-diffs
invariant-diffs g l = Followed map_is_lawful map_applied length (2 ^ 32 - 1) [] l.diff-items l.map l.diff-index × (l.at ≡ l.diff-index)
