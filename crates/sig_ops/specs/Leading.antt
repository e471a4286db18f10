-- Differences that lead from one list to another, and from one map to another.
use Rattle.std.specs.Prelude.{◌≡◌, ℕ, ◌≤◌, ℤ, List, length}
use Rattle.sig_diff.specs.declared.differences.VecDiff.{VecDiff}
use Rattle.sig_diff.specs.declared.map_differences.MapDiff.{MapDiff}
use Rattle.sig_diff.specs.Replaying.{AreLawful, StaysShort, replayed, MapAreLawful, MapStaysShort, map_replayed}

-- each difference is lawful at its turn, their replay on the first list is the second, and no list between is longer than the
-- longer of the two
pub record LeadsTo {T : Type 0} (before : List T) (diffs : List (VecDiff T)) (after : List T) : Type 0 where
  pub lawful : AreLawful before diffs
  pub replay : replayed before diffs ≡ after
  pub short : (most : ℕ) → length before ≤ most → length after ≤ most → StaysShort most before diffs

-- and so from a map to a map
pub record MapLeadsTo {V : Type 0} (before : List (ℤ × V)) (diffs : List (MapDiff V)) (after : List (ℤ × V)) : Type 0 where
  pub lawful : MapAreLawful before diffs
  pub replay : map_replayed before diffs ≡ after
  pub short : (most : ℕ) → length before ≤ most → length after ≤ most → MapStaysShort most before diffs
