use Rattle.std.proofs.Common.{◌≡◌, ◌++◌, ◌≤◌, drop, length}
use Rattle.sig_diff.specs.Replaying.{MapAreLawful, MapStaysShort, map_replayed}
use Rattle.sig_maps.specs.Tables.{entries_gives}
use Rattle.sig_rows.specs.Flow.{of_map}
use Rattle.sig_nodes.proofs.maps.pairs.Given as goal

abbrev pub invariant-diffs : goal.invariant-diffs
invariant-diffs l =
    (l.given ++ of_map entries_gives l.op (drop l.diff-index l.diffs) ≡ of_map entries_gives l.initial.op l.diffs)
    × (map_replayed l.op (drop l.diff-index l.diffs) ≡ map_replayed l.initial.op l.diffs)
    × MapAreLawful l.op (drop l.diff-index l.diffs)
    × (length l.op ≤ 65536)
    × MapStaysShort 65536 l.op (drop l.diff-index l.diffs)
