-- Expressions as trees, whose leaves are the numbers of their sources.
use Rattle.std.specs.Prelude.{ℕ, List, [], ◌∷◌}
use Rattle.sig_expr.specs.Trees.{MapTree, map_source, mapped_values, SigTree, cell, mapped_signal, deduped, switched, length_of, total_of, at_key, VecTree, vector, mapped, filtered, filtered_by, mapped_by, sorted, joined, flattened, picked, keys_in, values_in, SigTrees, no_signals, more_signals, VecTrees, no_lists, more_lists, ViewTree, signal_view, vector_view, map_view, entries_view, tagged_view}
use Rattle.sig_expr.specs.declared.expressions.SigExpr.{SigExpr, SigExpr-F, fold-SigExpr}
use Rattle.sig_expr.specs.declared.expressions.VecExpr.{VecExpr, VecExpr-F, fold-VecExpr}
use Rattle.sig_expr.specs.declared.expressions.MapExpr.{MapExpr, MapExpr-F, fold-MapExpr}
use Rattle.sig_expr.specs.declared.expressions.View.{View}
use Rattle.sig_expr.specs.declared.expressions.View.TheVariants.{Signal, Vector, Map, Entries, Enumerate}

abbrev pub map_step : MapExpr-F (MapTree ℕ) → MapTree ℕ
map_step (MapExpr-F.Map source) = map_source source
map_step (MapExpr-F.MapValue f m) = mapped_values f m

abbrev pub map_tree : MapExpr → MapTree ℕ
map_tree = fold-MapExpr (MapTree ℕ) map_step

abbrev pub sig_trees : List (SigTree ℕ) → SigTrees ℕ
sig_trees [] = no_signals
sig_trees (e ∷ bank) = more_signals e (sig_trees bank)

abbrev pub vec_trees : List (VecTree ℕ) → VecTrees ℕ
vec_trees [] = no_lists
vec_trees (e ∷ bank) = more_lists e (vec_trees bank)

abbrev pub sig_step : SigExpr-F (SigTree ℕ) (VecTree ℕ) → SigTree ℕ
sig_step (SigExpr-F.Cell source) = cell source
sig_step (SigExpr-F.SigExpr::Map f e) = mapped_signal f e
sig_step (SigExpr-F.Dedupe e) = deduped e
sig_step (SigExpr-F.Switch e bank) = switched e (sig_trees bank)
sig_step (SigExpr-F.Len e) = length_of e
sig_step (SigExpr-F.Sum e) = total_of e
sig_step (SigExpr-F.Key key default m) = at_key key default (map_tree m)

abbrev pub vec_step : VecExpr-F (SigTree ℕ) (VecTree ℕ) → VecTree ℕ
vec_step (VecExpr-F.Vector source) = vector source
vec_step (VecExpr-F.VecExpr::Map f e) = mapped f e
vec_step (VecExpr-F.Filter p e) = filtered p e
vec_step (VecExpr-F.FilterBy e bank) = filtered_by e (sig_trees bank)
vec_step (VecExpr-F.MapBy e bank) = mapped_by e (sig_trees bank)
vec_step (VecExpr-F.Sorted f e) = sorted f e
vec_step (VecExpr-F.Concat a b) = joined a b
vec_step (VecExpr-F.Flatten e bank) = flattened e (vec_trees bank)
vec_step (VecExpr-F.Pick e bank) = picked e (vec_trees bank)
vec_step (VecExpr-F.Keys m) = keys_in (map_tree m)
vec_step (VecExpr-F.Values m) = values_in (map_tree m)

abbrev pub sig_tree : SigExpr → SigTree ℕ
sig_tree = fold-SigExpr (SigTree ℕ) (VecTree ℕ) sig_step vec_step

abbrev pub vec_tree : VecExpr → VecTree ℕ
vec_tree = fold-VecExpr (SigTree ℕ) (VecTree ℕ) sig_step vec_step

abbrev pub view_tree : View → ViewTree ℕ
view_tree (Signal e) = signal_view (sig_tree e)
view_tree (Vector e) = vector_view (vec_tree e)
view_tree (Map m) = map_view (map_tree m)
view_tree (Entries m) = entries_view (map_tree m)
view_tree (Enumerate e) = tagged_view (vec_tree e)
