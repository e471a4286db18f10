-- What a view gives is the same on ways that are alike.
use Rattle.std.proofs.Common.{◌≡◌, List, [], ◌∷◌, ap, ap₂}
use Rattle.sig_expr.specs.Leaves.{map_leaves, sig_leaves, vec_leaves}
use Rattle.sig_expr.specs.Trees.{ViewTree, signal_view, vector_view, map_view, entries_view, tagged_view}
use Rattle.sig_maps.specs.Tables.{entries_gives}
use Rattle.sig_rows.proofs.Along.{AlikeOn, AreAlike, old_map, same_list_flow, same_map_flow, same_value_flow}
use Rattle.sig_hist.specs.Ways.{Way}
use Rattle.sig_rows.specs.Flow.{flow, of_map}
use Rattle.sig_rows.specs.declared.rows.Body.TheVariants as body

module _ {L : Type 0} (way other : L → Way) (alike : (leaf : L) → AreAlike (way leaf) (other leaf)) where
  all_alike : (labels : List L) → AlikeOn way other labels
  all_alike [] = tt
  all_alike (l ∷ labels) = (alike l, all_alike labels)

  pub same_flow : (view : ViewTree L) → flow way view ≡ flow other view
  same_flow (signal_view e) = ap body.Signal (same_value_flow way other e (all_alike (sig_leaves e)))
  same_flow (vector_view e) = ap body.Vector (same_list_flow way other e (all_alike (vec_leaves e)))
  same_flow (map_view m) = ap body.Map (same_map_flow way other m (all_alike (map_leaves m)))
  same_flow (entries_view m) = ap body.Pairs (ap₂ (of_map entries_gives) (old_map way other m (all_alike (map_leaves m))) (same_map_flow way other m (all_alike (map_leaves m))))
  same_flow (tagged_view e) = ap body.Vector (same_list_flow way other e (all_alike (vec_leaves e)))
