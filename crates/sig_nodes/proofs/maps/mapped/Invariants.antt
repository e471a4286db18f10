use Rattle.std.proofs.Common.{◌≡◌, ◌++◌, drop}
use Rattle.std.specs.List.{flat_map}
use Rattle.sig_expr.specs.Functions.{image}
use Rattle.sig_maps.specs.Tables.{map_value_gives}
use Rattle.sig_nodes.proofs.maps.mapped.Given as goal

abbrev pub invariant-diffs : goal.invariant-diffs
invariant-diffs l =
    (l.given ++ flat_map (map_value_gives (image l.op)) (drop l.diff-index l.diffs) ≡ flat_map (map_value_gives (image l.initial.op)) l.diffs)
    × (l.op ≡ l.initial.op)
