-- How long the longest list or map that is a part of an expression can get, where each source has a cap.
use Rattle.std.specs.Prelude.{ℕ, max}
use Rattle.sig_expr.specs.Bounds.{map_bound, vec_bound}
use Rattle.sig_expr.specs.Trees.{SigTree, cell, mapped_signal, deduped, switched, length_of, total_of, at_key, VecTree, vector, mapped, filtered, filtered_by, mapped_by, sorted, joined, flattened, picked, keys_in, values_in, SigTrees, no_signals, more_signals, VecTrees, no_lists, more_lists, ViewTree, signal_view, vector_view, map_view, entries_view, tagged_view}

module _ {L : Type 0} (cap : L → ℕ) where
  -- a list that isn't longer than its longest part, and one that can be
  abbrev mutual
    pub sig_longest : SigTree L → ℕ
    sig_longest (cell l) = 0
    sig_longest (mapped_signal f e) = sig_longest e
    sig_longest (deduped e) = sig_longest e
    sig_longest (switched e bank) = max (sig_longest e) (sigs_longest bank)
    sig_longest (length_of e) = vec_longest e
    sig_longest (total_of e) = vec_longest e
    sig_longest (at_key key default m) = map_bound cap m

    pub vec_longest : VecTree L → ℕ
    vec_longest (vector l) = cap l
    vec_longest (mapped f e) = vec_longest e
    vec_longest (filtered p e) = vec_longest e
    vec_longest (filtered_by e bank) = max (vec_longest e) (sigs_longest bank)
    vec_longest (mapped_by e bank) = max (vec_longest e) (sigs_longest bank)
    vec_longest (sorted f e) = vec_longest e
    vec_longest (joined a b) = max (vec_bound cap (joined a b)) (max (vec_longest a) (vec_longest b))
    vec_longest (flattened e bank) = max (vec_bound cap (flattened e bank)) (max (vec_longest e) (vecs_longest bank))
    vec_longest (picked e bank) = max (sig_longest e) (vecs_longest bank)
    vec_longest (keys_in m) = map_bound cap m
    vec_longest (values_in m) = map_bound cap m

    pub sigs_longest : SigTrees L → ℕ
    sigs_longest no_signals = 0
    sigs_longest (more_signals e bank) = max (sig_longest e) (sigs_longest bank)

    pub vecs_longest : VecTrees L → ℕ
    vecs_longest no_lists = 0
    vecs_longest (more_lists e bank) = max (vec_longest e) (vecs_longest bank)

  abbrev pub longest : ViewTree L → ℕ
  longest (signal_view e) = sig_longest e
  longest (vector_view e) = vec_longest e
  longest (map_view m) = map_bound cap m
  longest (entries_view m) = map_bound cap m
  longest (tagged_view e) = vec_longest e
