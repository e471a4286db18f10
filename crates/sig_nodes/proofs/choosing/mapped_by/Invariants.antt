use Rattle.std.proofs.Common.{◌≡◌, ◌++◌, drop}
use Rattle.std.specs.List.{flat_map}
use Rattle.sig_diff.specs.Choosing.{raised_by}
use Rattle.sig_diff.specs.Replaying.{AreLawful, replayed}
use Rattle.sig_ops.specs.Tables.{map_gives}
use Rattle.sig_nodes.proofs.choosing.mapped_by.Given as goal

abbrev pub invariant-diffs : goal.invariant-diffs
invariant-diffs l =
    (l.given ++ flat_map (map_gives (raised_by l.op.signals)) (drop l.diff-index l.diffs) ≡ flat_map (map_gives (raised_by l.initial.op.signals)) l.diffs)
    × (replayed l.op.items (drop l.diff-index l.diffs) ≡ replayed l.initial.op.items l.diffs)
    × AreLawful l.op.items (drop l.diff-index l.diffs)
    × (l.op.signals ≡ l.initial.op.signals)
