-- What a map that is started is for its lists: it has one leaf, and its entries are few.
use Rattle.std.proofs.Common.{◌≡◌, ℕ, ◌+◌, ◌<◌, ◌≤◌, ℤ, List, length, arith, le_trans, rules}
use Rattle.sig_diff.specs.declared.contents.Content.{Content}
use Rattle.sig_expr.proofs.Bounded.{map_within}
use Rattle.sig_expr.proofs.Numbered.{length_map_leaves}
use Rattle.sig_expr.specs.Bounds.{map_bound}
use Rattle.sig_expr.specs.Leaves.{map_leaves}
use Rattle.sig_expr.specs.Shapes.{map_tree, sig_tree, vec_tree}
use Rattle.sig_expr.specs.Trees.{MapTree, at_key, keys_in, values_in}
use Rattle.sig_expr.specs.declared.expressions.MapExpr.{MapExpr}
use Rattle.sig_expr.specs.declared.expressions.SigExpr
use Rattle.sig_expr.specs.declared.expressions.SigExpr.{SigExpr}
use Rattle.sig_expr.specs.declared.expressions.VecExpr
use Rattle.sig_expr.specs.declared.expressions.VecExpr.{VecExpr}
use Rattle.sig_nodes.specs.Starting.{IsMapStarted, leaf_length}

pub leaf_within : (m : MapTree ℕ) (leaf count : ℕ) → leaf + length (map_leaves m) ≤ count → leaf < count
leaf_within m leaf count room = omega (arith, room, length_map_leaves m)

pub has_leaf : (m : MapTree ℕ) (count : ℕ) → length (map_leaves m) ≤ count → 0 < count
has_leaf m count room = omega (arith, room, length_map_leaves m)

pub started_few : (s : ℕ → Content) (tree m : MapTree ℕ) (entries : List (ℤ × ℤ)) → IsMapStarted s tree m entries → map_bound (leaf_length s) tree ≤ 65536 → length entries ≤ 65536
started_few s tree m entries started few = rw started.entries_are (le_trans (map_within s (leaf_length s) (λ leaf. omega arith) tree) few)

-- ---- the expressions that have a map below

keys_tree : (m : MapExpr) → vec_tree (VecExpr.Keys m) ≡ keys_in (map_tree m)
keys_tree m = search (rules, VecExpr.the_lemmas)

values_tree : (m : MapExpr) → vec_tree (VecExpr.Values m) ≡ values_in (map_tree m)
values_tree m = search (rules, VecExpr.the_lemmas)

key_tree : (key default : ℤ) (m : MapExpr) → sig_tree (SigExpr.Key key default m) ≡ at_key key default (map_tree m)
key_tree key default m = search (rules, SigExpr.the_lemmas)

pub keys_is : (e : VecExpr) (below m : MapExpr) → e ≡ VecExpr.Keys m → below ≡ m → vec_tree e ≡ keys_in (map_tree below)
keys_is e below m is at = rw (is, at) (keys_tree m)

pub values_is : (e : VecExpr) (below m : MapExpr) → e ≡ VecExpr.Values m → below ≡ m → vec_tree e ≡ values_in (map_tree below)
values_is e below m is at = rw (is, at) (values_tree m)

pub key_is : (e : SigExpr) (key default : ℤ) (below m : MapExpr) → e ≡ SigExpr.Key key default m → below ≡ m → sig_tree e ≡ at_key key default (map_tree below)
key_is e key default below m is at = rw (is, at) (key_tree key default m)
