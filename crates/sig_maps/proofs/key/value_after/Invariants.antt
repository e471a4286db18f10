use Rattle.std.proofs.Common.{◌≡◌, drop}
use Rattle.sig_maps.specs.Keys.{value_after}
use Rattle.sig_maps.proofs.key.value_after.Given as goal

abbrev pub invariant-diffs : goal.invariant-diffs
invariant-diffs l = value_after l.key l.present (drop l.diff-index l.diffs) ≡ value_after l.key l.fn.value l.diffs
