use Rattle.std.proofs.Common.{◌≡◌, ◌+◌, ◌-◌, ◌*◌, ◌^◌, ◌<◌, drop, min}
use Rattle.serde_json.specs.View.{items_view}
use Rattle.sig_script.specs.Walks.{leaf_count, leaves_in}
use Rattle.sig_script.proofs.leaves.+leaves.Given as goal

abbrev pub decreases-leaf_count : goal.decreases-leaf_count
decreases-leaf_count l = 4 * l.levels

abbrev pub decreases-list_leaves : goal.decreases-list_leaves
decreases-list_leaves l = 4 * l.levels + 1

abbrev pub decreases-field_leaves : goal.decreases-field_leaves
decreases-field_leaves l = 4 * l.levels + 2

abbrev pub decreases-fields_leaves : goal.decreases-fields_leaves
decreases-fields_leaves l = 4 * l.levels + 3

abbrev pub invariant-list_leaves-values : goal.invariant-list_leaves-values
invariant-list_leaves-values l =
    (l.count < 2 ^ 64)
    × (min (l.count + leaves_in (leaf_count l.levels) l.class (items_view (drop l.value-index l.values))) (2 ^ 64 - 1) ≡ min (leaves_in (leaf_count l.levels) l.class (items_view l.values)) (2 ^ 64 - 1))
