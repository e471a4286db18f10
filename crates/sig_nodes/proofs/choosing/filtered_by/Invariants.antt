use Rattle.std.proofs.Common.{◌≡◌, ◌++◌, drop}
use Rattle.sig_diff.specs.Choosing.{is_let_in}
use Rattle.sig_diff.specs.Replaying.{AreLawful, replayed}
use Rattle.sig_ops.specs.Tables.{filter_gives}
use Rattle.sig_rows.specs.Flow.{through}
use Rattle.sig_rows.specs.Joins.{Goes}
use Rattle.sig_nodes.proofs.choosing.filtered_by.Given as goal

abbrev pub invariant-diffs : goal.invariant-diffs
invariant-diffs l =
    (l.given ++ through (filter_gives (is_let_in l.op.signals)) l.op.items (drop l.diff-index l.diffs) ≡ through (filter_gives (is_let_in l.initial.op.signals)) l.initial.op.items l.diffs)
    × (replayed l.op.items (drop l.diff-index l.diffs) ≡ replayed l.initial.op.items l.diffs)
    × AreLawful l.op.items (drop l.diff-index l.diffs)
    × Goes 65536 l.op.items (drop l.diff-index l.diffs)
    × (l.op.signals ≡ l.initial.op.signals)
