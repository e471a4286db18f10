-- The leaves of a view from left to right, and their numbers.
use Rattle.std.specs.Prelude.{ℕ, ◌+◌, List, [], ◌∷◌, ◌++◌, length}
use Rattle.sig_expr.specs.Trees.{MapTree, map_source, mapped_values, SigTree, cell, mapped_signal, deduped, switched, length_of, total_of, at_key, VecTree, vector, mapped, filtered, filtered_by, mapped_by, sorted, joined, flattened, picked, keys_in, values_in, SigTrees, no_signals, more_signals, VecTrees, no_lists, more_lists, ViewTree, signal_view, vector_view, map_view, entries_view, tagged_view}

module _ {L : Type 0} where
  abbrev pub map_leaves : MapTree L → List L
  map_leaves (map_source l) = l ∷ []
  map_leaves (mapped_values f m) = map_leaves m

  abbrev mutual
    pub sig_leaves : SigTree L → List L
    sig_leaves (cell l) = l ∷ []
    sig_leaves (mapped_signal f e) = sig_leaves e
    sig_leaves (deduped e) = sig_leaves e
    sig_leaves (switched e bank) = sig_leaves e ++ sigs_leaves bank
    sig_leaves (length_of e) = vec_leaves e
    sig_leaves (total_of e) = vec_leaves e
    sig_leaves (at_key key default m) = map_leaves m

    pub vec_leaves : VecTree L → List L
    vec_leaves (vector l) = l ∷ []
    vec_leaves (mapped f e) = vec_leaves e
    vec_leaves (filtered p e) = vec_leaves e
    vec_leaves (filtered_by e bank) = vec_leaves e ++ sigs_leaves bank
    vec_leaves (mapped_by e bank) = vec_leaves e ++ sigs_leaves bank
    vec_leaves (sorted f e) = vec_leaves e
    vec_leaves (joined a b) = vec_leaves a ++ vec_leaves b
    vec_leaves (flattened e bank) = vec_leaves e ++ vecs_leaves bank
    vec_leaves (picked e bank) = sig_leaves e ++ vecs_leaves bank
    vec_leaves (keys_in m) = map_leaves m
    vec_leaves (values_in m) = map_leaves m

    pub sigs_leaves : SigTrees L → List L
    sigs_leaves no_signals = []
    sigs_leaves (more_signals e bank) = sig_leaves e ++ sigs_leaves bank

    pub vecs_leaves : VecTrees L → List L
    vecs_leaves no_lists = []
    vecs_leaves (more_lists e bank) = vec_leaves e ++ vecs_leaves bank

  abbrev pub leaves : ViewTree L → List L
  leaves (signal_view e) = sig_leaves e
  leaves (vector_view e) = vec_leaves e
  leaves (map_view m) = map_leaves m
  leaves (entries_view m) = map_leaves m
  leaves (tagged_view e) = vec_leaves e

  -- the same trees with their leaves numbered from n on, from left to right
  abbrev pub number_map : MapTree L → ℕ → MapTree ℕ
  number_map (map_source l) n = map_source n
  number_map (mapped_values f m) n = mapped_values f (number_map m n)

  abbrev mutual
    pub number_sig : SigTree L → ℕ → SigTree ℕ
    number_sig (cell l) n = cell n
    number_sig (mapped_signal f e) n = mapped_signal f (number_sig e n)
    number_sig (deduped e) n = deduped (number_sig e n)
    number_sig (switched e bank) n = switched (number_sig e n) (number_sigs bank (n + length (sig_leaves e)))
    number_sig (length_of e) n = length_of (number_vec e n)
    number_sig (total_of e) n = total_of (number_vec e n)
    number_sig (at_key key default m) n = at_key key default (number_map m n)

    pub number_vec : VecTree L → ℕ → VecTree ℕ
    number_vec (vector l) n = vector n
    number_vec (mapped f e) n = mapped f (number_vec e n)
    number_vec (filtered p e) n = filtered p (number_vec e n)
    number_vec (filtered_by e bank) n = filtered_by (number_vec e n) (number_sigs bank (n + length (vec_leaves e)))
    number_vec (mapped_by e bank) n = mapped_by (number_vec e n) (number_sigs bank (n + length (vec_leaves e)))
    number_vec (sorted f e) n = sorted f (number_vec e n)
    number_vec (joined a b) n = joined (number_vec a n) (number_vec b (n + length (vec_leaves a)))
    number_vec (flattened e bank) n = flattened (number_vec e n) (number_vecs bank (n + length (vec_leaves e)))
    number_vec (picked e bank) n = picked (number_sig e n) (number_vecs bank (n + length (sig_leaves e)))
    number_vec (keys_in m) n = keys_in (number_map m n)
    number_vec (values_in m) n = values_in (number_map m n)

    pub number_sigs : SigTrees L → ℕ → SigTrees ℕ
    number_sigs no_signals n = no_signals
    number_sigs (more_signals e bank) n = more_signals (number_sig e n) (number_sigs bank (n + length (sig_leaves e)))

    pub number_vecs : VecTrees L → ℕ → VecTrees ℕ
    number_vecs no_lists n = no_lists
    number_vecs (more_lists e bank) n = more_lists (number_vec e n) (number_vecs bank (n + length (vec_leaves e)))

  -- the view with its leaves numbered from 0 on
  abbrev pub numbered : ViewTree L → ViewTree ℕ
  numbered (signal_view e) = signal_view (number_sig e 0)
  numbered (vector_view e) = vector_view (number_vec e 0)
  numbered (map_view m) = map_view (number_map m 0)
  numbered (entries_view m) = entries_view (number_map m 0)
  numbered (tagged_view e) = tagged_view (number_vec e 0)
