-- No list is too long where it is started.
use Rattle.std.proofs.Common.{◌≡◌, ℕ, ◌+◌, ◌≤◌, ℤ, List, ◌++◌, length, map, rules, arith, length-append, le_trans}
use Rattle.std.specs.List.{flat_map}
use Rattle.sig_diff.specs.Choosing.{list_for}
use Rattle.sig_diff.specs.declared.contents.Content.{Content}
use Rattle.sig_expr.specs.Leaves.{number_vec, number_vecs, vec_leaves, vecs_leaves}
use Rattle.sig_expr.specs.Evaluation.{list_of, lists_of}
use Rattle.sig_expr.specs.Shapes.{sig_tree, vec_tree, vec_trees}
use Rattle.sig_expr.specs.Trees.{VecTree, VecTrees, flattened, joined, picked}
use Rattle.sig_expr.specs.declared.expressions.SigExpr.{SigExpr}
use Rattle.sig_expr.specs.declared.expressions.VecExpr
use Rattle.sig_expr.specs.declared.expressions.VecExpr.{VecExpr}
use Rattle.sig_expr.proofs.Bounded.{list_within}
use Rattle.sig_rows.proofs.Shortening.{bound_within}
use Rattle.sig_expr.specs.Lengths.{vec_longest, vecs_longest}
use Rattle.sig_nodes.specs.Starting.{leaf_length}

-- expressions as trees
pub concat_tree : (left right : VecExpr) → vec_tree (VecExpr.Concat left right) ≡ joined (vec_tree left) (vec_tree right)
concat_tree left right = search (rules, VecExpr.the_lemmas)

pub flatten_tree : (of : VecExpr) (bank : List VecExpr) → vec_tree (VecExpr.Flatten of bank) ≡ flattened (vec_tree of) (vec_trees (map vec_tree bank))
flatten_tree of bank = search (rules, VecExpr.the_lemmas)

pub pick_tree : (of : SigExpr) (bank : List VecExpr) → vec_tree (VecExpr.Pick of bank) ≡ picked (sig_tree of) (vec_trees (map vec_tree bank))
pick_tree of bank = search (rules, VecExpr.the_lemmas)

-- the leaves of a first part have their room
pub first_fits : (xs ys : List ℕ) (leaf count : ℕ) → leaf + length (xs ++ ys) ≤ count → leaf + length xs ≤ count
first_fits xs ys leaf count room = omega (arith, room, length-append xs ys)

module _ (s : ℕ → Content) where
  list_short : (e : VecTree ℕ) → vec_longest (leaf_length s) e ≤ 65536 → length (list_of s e) ≤ 65536
  list_short e few = le_trans (list_within s (leaf_length s) (λ leaf. omega arith) (λ leaf. omega arith) e) (le_trans (bound_within (leaf_length s) e) few)

  -- what is needed of a list that is started behind another, and of a bank behind a list
  pub concat_needs : (a b : VecTree ℕ) (leaf count : ℕ) (lefts : List ℤ) → leaf + length (vec_leaves (joined a b)) ≤ count → vec_longest (leaf_length s) (number_vec (joined a b) leaf) ≤ 65536 → lefts ≡ list_of s (number_vec a leaf) →
      let behind : ℕ = leaf + length (vec_leaves a) in
      (behind + length (vec_leaves b) ≤ count) × (vec_longest (leaf_length s) (number_vec b behind) ≤ 65536) × (length lefts + length (list_of s (number_vec b behind)) ≤ 65536)
  concat_needs a b leaf count lefts room few left = (
    omega (arith, room, length-append (vec_leaves a) (vec_leaves b)),
    omega (arith, few),
    rw (left, ← length-append) (list_short (joined (number_vec a leaf) (number_vec b (leaf + length (vec_leaves a)))) few),
  )

  pub flatten_needs : (e : VecTree ℕ) (bank : VecTrees ℕ) (leaf count : ℕ) (items : List ℤ) → leaf + length (vec_leaves (flattened e bank)) ≤ count → vec_longest (leaf_length s) (number_vec (flattened e bank) leaf) ≤ 65536 → items ≡ list_of s (number_vec e leaf) →
      let behind : ℕ = leaf + length (vec_leaves e) in
      (behind + length (vecs_leaves bank) ≤ count) × (vecs_longest (leaf_length s) (number_vecs bank behind) ≤ 65536) × (length (flat_map (list_for (lists_of s (number_vecs bank behind))) items) ≤ 65536)
  flatten_needs e bank leaf count items room few one = (
    omega (arith, room, length-append (vec_leaves e) (vecs_leaves bank)),
    omega (arith, few),
    rw one (list_short (flattened (number_vec e leaf) (number_vecs bank (leaf + length (vec_leaves e)))) few),
  )
