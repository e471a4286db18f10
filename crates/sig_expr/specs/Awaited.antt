-- The awaited leaves: all of them, but under a switch and a pick the chooser's and the chosen part's alone.
use Rattle.std.specs.Prelude.{◌≡◌, List, [], ◌∷◌, ◌++◌}
use Rattle.std.specs.List.{flat_map}
use Rattle.sig_diff.specs.declared.contents.Content.{Content}
use Rattle.sig_expr.specs.Leaves.{map_leaves}
use Rattle.sig_diff.specs.Choosing.{chosen}
use Rattle.sig_expr.specs.Evaluation.{value_of}
use Rattle.sig_expr.specs.Trees.{SigTree, cell, mapped_signal, deduped, switched, length_of, total_of, at_key, VecTree, vector, mapped, filtered, filtered_by, mapped_by, sorted, joined, flattened, picked, keys_in, values_in, SigTrees, no_signals, more_signals, VecTrees, no_lists, more_lists, ViewTree, signal_view, vector_view, map_view, entries_view, tagged_view}

-- the leaves of all parts of a bank
abbrev pub all_of : {L : Type 0} → List (List L) → List L
all_of parts = flat_map (λ labels. labels) parts

module _ {L : Type 0} (s : L → Content) where
  abbrev mutual
    pub sig_awaits : SigTree L → List L
    sig_awaits (cell l) = l ∷ []
    sig_awaits (mapped_signal f e) = sig_awaits e
    sig_awaits (deduped e) = sig_awaits e
    sig_awaits (switched e bank) = sig_awaits e ++ chosen (each_sig_awaits bank) (value_of s e) []
    sig_awaits (length_of e) = vec_awaits e
    sig_awaits (total_of e) = vec_awaits e
    sig_awaits (at_key key default m) = map_leaves m

    pub vec_awaits : VecTree L → List L
    vec_awaits (vector l) = l ∷ []
    vec_awaits (mapped f e) = vec_awaits e
    vec_awaits (filtered p e) = vec_awaits e
    vec_awaits (filtered_by e bank) = vec_awaits e ++ all_of (each_sig_awaits bank)
    vec_awaits (mapped_by e bank) = vec_awaits e ++ all_of (each_sig_awaits bank)
    vec_awaits (sorted f e) = vec_awaits e
    vec_awaits (joined a b) = vec_awaits a ++ vec_awaits b
    vec_awaits (flattened e bank) = vec_awaits e ++ all_of (each_vec_awaits bank)
    vec_awaits (picked e bank) = sig_awaits e ++ chosen (each_vec_awaits bank) (value_of s e) []
    vec_awaits (keys_in m) = map_leaves m
    vec_awaits (values_in m) = map_leaves m

    -- what each part of a bank awaits
    pub each_sig_awaits : SigTrees L → List (List L)
    each_sig_awaits no_signals = []
    each_sig_awaits (more_signals e bank) = sig_awaits e ∷ each_sig_awaits bank

    pub each_vec_awaits : VecTrees L → List (List L)
    each_vec_awaits no_lists = []
    each_vec_awaits (more_lists e bank) = vec_awaits e ∷ each_vec_awaits bank

  abbrev pub awaits : ViewTree L → List L
  awaits (signal_view e) = sig_awaits e
  awaits (vector_view e) = vec_awaits e
  awaits (map_view m) = map_leaves m
  awaits (entries_view m) = map_leaves m
  awaits (tagged_view e) = vec_awaits e

-- the contents agree on these leaves
abbrev pub Agree : {L : Type 0} → (L → Content) → (L → Content) → List L → Type 0
Agree s t [] = Unit {0}
Agree s t (l ∷ labels) = (s l ≡ t l) × Agree s t labels
