use Rattle.std.proofs.Common.{◌≡◌, drop}
use Rattle.sig_diff.specs.Replaying.{AreLawful, replayed}
use Rattle.sig_run.proofs.showing.apply_all.Given as goal

abbrev pub invariant-diffs : goal.invariant-diffs
invariant-diffs g l = AreLawful l.items (drop l.diff-index l.diff-items) × (replayed l.items (drop l.diff-index l.diff-items) ≡ replayed l.initial.items l.diff-items)
