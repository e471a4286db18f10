-- How many leaves there are, and the numbers of the leaves of a bank's parts.
use Rattle.std.proofs.Common.{◌≡◌, ◌∙◌, ℕ, zero, suc, ◌+◌, ◌<◌, ◌≤◌, ℤ, pos, List, [], ◌∷◌, map, take, length, get_or, refl, ap, arith}
use Rattle.std.proofs.lemmas.List.{length-append}
use Rattle.sig_diff.proofs.Numbers.{class_of_below}
use Rattle.sig_diff.specs.Numbers.{class_of}
use Rattle.sig_diff.specs.declared.contents.Content.{Content}
use Rattle.sig_expr.specs.Leaves.{map_leaves, sig_leaves, vec_leaves, sigs_leaves, vecs_leaves, number_sig, number_vec, number_sigs, number_vecs}
use Rattle.sig_diff.specs.Choosing.{signal_for, list_for}
use Rattle.sig_expr.specs.Evaluation.{value_of, list_of, signals_of, lists_of}
use Rattle.sig_expr.specs.Shapes.{sig_trees, vec_trees}
use Rattle.sig_expr.specs.Trees.{MapTree, map_source, mapped_values, SigTree, VecTree}

-- a map has one leaf
pub length_map_leaves : {L : Type 0} (m : MapTree L) → length (map_leaves m) ≡ 1
length_map_leaves (map_source l) = refl
length_map_leaves (mapped_values f m) = length_map_leaves m

module _ {E : Type 0} (tree : E → SigTree ℕ) where
  -- how many leaves the signals of a bank have
  abbrev pub signal_leaf_count : List E → ℕ
  signal_leaf_count bank = length (sigs_leaves (sig_trees (map tree bank)))

  -- a bank's first signals have no more leaves than all of them
  pub signal_leaves_before : (bank : List E) (index : ℕ) → signal_leaf_count (take index bank) ≤ signal_leaf_count bank
  signal_leaves_before bank zero = omega arith
  signal_leaves_before [] (suc index) = omega arith
  signal_leaves_before (e ∷ bank) (suc index) = omega (arith, signal_leaves_before bank index, length-append {A = ℕ})

  -- a bank's first signals and the next one have no more leaves than all of them
  pub signal_leaves_through : (bank : List E) (index : ℕ) (part : E) → index < length bank → part ≡ get_or bank index part →
      signal_leaf_count (take index bank) + length (sig_leaves (tree part)) ≤ signal_leaf_count bank
  signal_leaves_through [] index part within is = absurd (omega arith)
  signal_leaves_through (e ∷ bank) zero part within is = rw is (omega (arith, length-append {A = ℕ}))
  signal_leaves_through (e ∷ bank) (suc index) part within is = omega (arith, signal_leaves_through bank index part (omega arith) is, length-append {A = ℕ})

  module _ (s : ℕ → Content) where
    length_signals : (bank : List E) (first : ℕ) → length (signals_of s (number_sigs (sig_trees (map tree bank)) first)) ≡ length bank
    length_signals [] first = refl
    length_signals (e ∷ bank) first = ap suc (length_signals bank (first + length (sig_leaves (tree e))))

    -- the value at a place of a numbered bank is that of the signal there, numbered behind the leaves of those before it
    pub signal_at : (bank : List E) (first index : ℕ) (d : E) (default : ℤ) → index < length bank →
        get_or (signals_of s (number_sigs (sig_trees (map tree bank)) first)) index default ≡ value_of s (number_sig (tree (get_or bank index d)) (first + signal_leaf_count (take index bank)))
    signal_at [] first index d default within = absurd (omega arith)
    signal_at (e ∷ bank) first zero d default within = let same : first ≡ first + 0 = omega arith in ap (λ n. value_of s (number_sig (tree e) n)) same
    signal_at (e ∷ bank) first (suc index) d default within =
        let same : (first + length (sig_leaves (tree e))) + signal_leaf_count (take index bank) ≡ first + signal_leaf_count (take (suc index) (e ∷ bank)) = omega (arith, length-append {A = ℕ}) in
        signal_at bank (first + length (sig_leaves (tree e))) index d default (omega arith) ∙ ap (λ n. value_of s (number_sig (tree (get_or bank index d)) n)) same

    -- the signal that a number chooses of a numbered bank
    pub chosen_signal : (bank : List E) (first : ℕ) (number : ℤ) (d : E) → 0 < length bank →
        signal_for (signals_of s (number_sigs (sig_trees (map tree bank)) first)) number ≡
        value_of s (number_sig (tree (get_or bank (class_of (length bank) number) d)) (first + signal_leaf_count (take (class_of (length bank) number) bank)))
    chosen_signal bank first number d some =
        rw (length_signals bank first) (signal_at bank first (class_of (length bank) number) d (pos 0) (class_of_below (length bank) number some))

module _ {E : Type 0} (tree : E → VecTree ℕ) where
  -- how many leaves the lists of a bank have
  abbrev pub list_leaf_count : List E → ℕ
  list_leaf_count bank = length (vecs_leaves (vec_trees (map tree bank)))

  -- a bank's first lists have no more leaves than all of them
  pub list_leaves_before : (bank : List E) (index : ℕ) → list_leaf_count (take index bank) ≤ list_leaf_count bank
  list_leaves_before bank zero = omega arith
  list_leaves_before [] (suc index) = omega arith
  list_leaves_before (e ∷ bank) (suc index) = omega (arith, list_leaves_before bank index, length-append {A = ℕ})

  -- a bank's first lists and the next one have no more leaves than all of them
  pub list_leaves_through : (bank : List E) (index : ℕ) (part : E) → index < length bank → part ≡ get_or bank index part →
      list_leaf_count (take index bank) + length (vec_leaves (tree part)) ≤ list_leaf_count bank
  list_leaves_through [] index part within is = absurd (omega arith)
  list_leaves_through (e ∷ bank) zero part within is = rw is (omega (arith, length-append {A = ℕ}))
  list_leaves_through (e ∷ bank) (suc index) part within is = omega (arith, list_leaves_through bank index part (omega arith) is, length-append {A = ℕ})

  module _ (s : ℕ → Content) where
    length_lists : (bank : List E) (first : ℕ) → length (lists_of s (number_vecs (vec_trees (map tree bank)) first)) ≡ length bank
    length_lists [] first = refl
    length_lists (e ∷ bank) first = ap suc (length_lists bank (first + length (vec_leaves (tree e))))

    -- the list at a place of a numbered bank is that of the list there, numbered behind the leaves of those before it
    pub list_at : (bank : List E) (first index : ℕ) (d : E) (default : List ℤ) → index < length bank →
        get_or (lists_of s (number_vecs (vec_trees (map tree bank)) first)) index default ≡ list_of s (number_vec (tree (get_or bank index d)) (first + list_leaf_count (take index bank)))
    list_at [] first index d default within = absurd (omega arith)
    list_at (e ∷ bank) first zero d default within = let same : first ≡ first + 0 = omega arith in ap (λ n. list_of s (number_vec (tree e) n)) same
    list_at (e ∷ bank) first (suc index) d default within =
        let same : (first + length (vec_leaves (tree e))) + list_leaf_count (take index bank) ≡ first + list_leaf_count (take (suc index) (e ∷ bank)) = omega (arith, length-append {A = ℕ}) in
        list_at bank (first + length (vec_leaves (tree e))) index d default (omega arith) ∙ ap (λ n. list_of s (number_vec (tree (get_or bank index d)) n)) same

    -- the list that a number chooses of a numbered bank
    pub chosen_list : (bank : List E) (first : ℕ) (number : ℤ) (d : E) → 0 < length bank →
        list_for (lists_of s (number_vecs (vec_trees (map tree bank)) first)) number ≡
        list_of s (number_vec (tree (get_or bank (class_of (length bank) number) d)) (first + list_leaf_count (take (class_of (length bank) number) bank)))
    chosen_list bank first number d some =
        rw (length_lists bank first) (list_at bank first (class_of (length bank) number) d [] (class_of_below (length bank) number some))

-- the leaves before the chosen signal of a bank, and its value
pub ruleset chosen_signals = (signal_leaves_before, signal_leaves_through, chosen_signal)

-- the same for the chosen list
pub ruleset chosen_lists = (list_leaves_before, list_leaves_through, chosen_list)
