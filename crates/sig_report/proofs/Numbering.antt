-- Whether a leaf of a numbered view is awaited is decided by the leaves before it.
use Rattle.std.proofs.Common.{◌≡◌, ◌∙◌, ℕ, zero, suc, ◌+◌, ◌<◌, ◌≤◌, ◌==◌, ℤ, List, [], ◌++◌, length, get_or, false, ◌||◌, ◌⊎◌, inl, inr, refl, sym, ap, ap₂, arith}
use Rattle.std.proofs.lemmas.Bool.{cases_lt, ne_eqb, or_parts}
use Rattle.std.proofs.lemmas.List.Folds.{list_any-append}
use Rattle.std.specs.List.{range_with_len}
use Rattle.sig_diff.specs.Choosing.{chosen}
use Rattle.sig_diff.specs.Numbers.{class_of}
use Rattle.sig_diff.specs.declared.contents.Content.{Content}
use Rattle.sig_expr.proofs.Awaiting.{IsAmong, none, kept, left_out, agree_among, length_each_sig, length_each_vec, sig_among, sig_same, vec_among}
use Rattle.sig_expr.specs.Awaited.{Agree, all_of, awaits, each_sig_awaits, each_vec_awaits, sig_awaits, vec_awaits}
use Rattle.sig_expr.specs.Leaves.{sig_leaves, vec_leaves, number_sig, number_vec, number_sigs, number_vecs, numbered}
use Rattle.sig_expr.specs.Evaluation.{value_of}
use Rattle.sig_expr.specs.Trees.{SigTree, cell, mapped_signal, deduped, switched, length_of, total_of, at_key, VecTree, vector, mapped, filtered, filtered_by, mapped_by, sorted, joined, flattened, picked, keys_in, values_in, SigTrees, no_signals, more_signals, VecTrees, no_lists, more_lists, ViewTree, signal_view, vector_view, map_view, entries_view, tagged_view}
use Rattle.sig_hist.specs.Sources.{is_among}
use Rattle.sig_rows.proofs.Numbering.{sig_numbers, vec_numbers}
use Rattle.sig_rows.specs.SoundRows.{nothing_shown}

-- ---- what isn't among the leaves

module _ (n : ℕ) where
  before_numbers : (first count : ℕ) → n < first → is_among n (range_with_len first count) ≡ false
  before_numbers first zero below = refl
  before_numbers first (suc count) below = let other : (first == n) ≡ false = ne_eqb first n (λ same. omega arith) in rw other (before_numbers (first + 1) count (omega arith))

  not_among : {labels all : List ℕ} → IsAmong labels all → is_among n all ≡ false → is_among n labels ≡ false
  not_among none missing = refl
  not_among (kept l among) missing = let parts = or_parts _ _ missing in ap₂ ◌||◌ parts.0 (not_among among parts.1)
  not_among (left_out l among) missing = not_among among (or_parts _ _ missing).1

  module _ {L : Type 0} (s : ℕ → Content) where
    sig_lacks : (e : SigTree L) (first : ℕ) → n < first → is_among n (sig_awaits s (number_sig e first)) ≡ false
    sig_lacks e first below = not_among (sig_among s (number_sig e first)) (ap (is_among n) (sig_numbers e first) ∙ before_numbers first _ below)

    vec_lacks : (e : VecTree L) (first : ℕ) → n < first → is_among n (vec_awaits s (number_vec e first)) ≡ false
    vec_lacks e first below = not_among (vec_among s (number_vec e first)) (ap (is_among n) (vec_numbers e first) ∙ before_numbers first _ below)

    sigs_lack : (bank : SigTrees L) (first : ℕ) → n < first → (index : ℕ) → is_among n (get_or (each_sig_awaits s (number_sigs bank first)) index []) ≡ false
    sigs_lack no_signals first below index = refl
    sigs_lack (more_signals e bank) first below zero = sig_lacks e first below
    sigs_lack (more_signals e bank) first below (suc index) = sigs_lack bank (first + length (sig_leaves e)) (omega arith) index

    vecs_lack : (bank : VecTrees L) (first : ℕ) → n < first → (index : ℕ) → is_among n (get_or (each_vec_awaits s (number_vecs bank first)) index []) ≡ false
    vecs_lack no_lists first below index = refl
    vecs_lack (more_lists e bank) first below zero = vec_lacks e first below
    vecs_lack (more_lists e bank) first below (suc index) = vecs_lack bank (first + length (vec_leaves e)) (omega arith) index

-- ---- contents that agree below a leaf

module _ (s t : ℕ → Content) (n : ℕ) (same : (leaf : ℕ) → leaf < n → s leaf ≡ t leaf) where
  agree_below : (first count : ℕ) → first + count ≤ n → Agree s t (range_with_len first count)
  agree_below first zero within = tt
  agree_below first (suc count) within = (same first (omega arith), agree_below (first + 1) count (omega arith))

  both_alike : (ls ms ns ps : List ℕ) → is_among n ls ≡ is_among n ms → is_among n ns ≡ is_among n ps → is_among n (ls ++ ns) ≡ is_among n (ms ++ ps)
  both_alike ls ms ns ps front back = list_any-append (λ l. l == n) ls ns ∙ ap₂ ◌||◌ front back ∙ sym (list_any-append (λ l. l == n) ms ps)

  -- the leaf is before the bank's leaves, or all of the chooser's leaves are below it
  choice_alike : (ls ms : List ℕ) (x y : ℤ) (lss mss : List (List ℕ)) → length mss ≡ length lss → is_among n ls ≡ is_among n ms →
      ((index : ℕ) → is_among n (get_or lss index []) ≡ is_among n (get_or mss index [])) → ((index : ℕ) → is_among n (get_or lss index []) ≡ false) ⊎ (x ≡ y) →
      is_among n (ls ++ chosen lss x []) ≡ is_among n (ms ++ chosen mss y [])
  choice_alike ls ms x y lss mss count chooser parts (inl lacks) =
      both_alike ls ms _ _ chooser (lacks (class_of (length lss) x) ∙ sym (lacks (class_of (length mss) y)) ∙ parts (class_of (length mss) y))
  choice_alike ls ms x y lss mss count chooser parts (inr shown) =
      both_alike ls ms _ _ chooser (parts (class_of (length lss) x) ∙ ap₂ (λ size z. is_among n (get_or mss (class_of size z) [])) (sym count) shown)

  module _ {L : Type 0} where
    -- a chooser whose leaves are all below shows the same
    same_chooser : (e : SigTree L) (first : ℕ) → first + length (sig_leaves e) ≤ n → value_of s (number_sig e first) ≡ value_of t (number_sig e first)
    same_chooser e first within =
        let agree : Agree s t (sig_leaves (number_sig e first)) = rw (sig_numbers e first) (agree_below first (length (sig_leaves e)) within) in
        (sig_same s t (number_sig e first) (agree_among s t (sig_among s (number_sig e first)) agree)).shown

    decided : {Lacks : Type 0} (e : SigTree L) (first : ℕ) → (n < first + length (sig_leaves e)) ⊎ (first + length (sig_leaves e) ≤ n) → (n < first + length (sig_leaves e) → Lacks) →
        Lacks ⊎ (value_of s (number_sig e first) ≡ value_of t (number_sig e first))
    decided e first (inl below) lacks = inl (lacks below)
    decided e first (inr within) lacks = inr (same_chooser e first within)

    mutual
      sig_alike : (e : SigTree L) (first : ℕ) → is_among n (sig_awaits s (number_sig e first)) ≡ is_among n (sig_awaits t (number_sig e first))
      sig_alike (cell l) first = refl
      sig_alike (mapped_signal f e) first = sig_alike e first
      sig_alike (deduped e) first = sig_alike e first
      sig_alike (switched e bank) first =
          let behind : ℕ = first + length (sig_leaves e) in
          let parts : SigTrees ℕ = number_sigs bank behind in
          choice_alike _ _ _ _ (each_sig_awaits s parts) (each_sig_awaits t parts) (length_each_sig s t parts ∙ sym (length_each_sig s s parts)) (sig_alike e first) (sig_part_alike bank behind)
          (decided e first (cases_lt n behind) (sigs_lack n s bank behind))
      sig_alike (length_of e) first = vec_alike e first
      sig_alike (total_of e) first = vec_alike e first
      sig_alike (at_key key default m) first = refl

      vec_alike : (e : VecTree L) (first : ℕ) → is_among n (vec_awaits s (number_vec e first)) ≡ is_among n (vec_awaits t (number_vec e first))
      vec_alike (vector l) first = refl
      vec_alike (mapped f e) first = vec_alike e first
      vec_alike (filtered p e) first = vec_alike e first
      vec_alike (filtered_by e bank) first = both_alike _ _ _ _ (vec_alike e first) (sigs_alike bank _)
      vec_alike (mapped_by e bank) first = both_alike _ _ _ _ (vec_alike e first) (sigs_alike bank _)
      vec_alike (sorted f e) first = vec_alike e first
      vec_alike (joined a b) first = both_alike _ _ _ _ (vec_alike a first) (vec_alike b _)
      vec_alike (flattened e bank) first = both_alike _ _ _ _ (vec_alike e first) (vecs_alike bank _)
      vec_alike (picked e bank) first =
          let behind : ℕ = first + length (sig_leaves e) in
          let parts : VecTrees ℕ = number_vecs bank behind in
          choice_alike _ _ _ _ (each_vec_awaits s parts) (each_vec_awaits t parts) (length_each_vec s t parts ∙ sym (length_each_vec s s parts)) (sig_alike e first) (vec_part_alike bank behind)
          (decided e first (cases_lt n behind) (vecs_lack n s bank behind))
      vec_alike (keys_in m) first = refl
      vec_alike (values_in m) first = refl

      sigs_alike : (bank : SigTrees L) (first : ℕ) → is_among n (all_of (each_sig_awaits s (number_sigs bank first))) ≡ is_among n (all_of (each_sig_awaits t (number_sigs bank first)))
      sigs_alike no_signals first = refl
      sigs_alike (more_signals e bank) first = both_alike _ _ _ _ (sig_alike e first) (sigs_alike bank _)

      vecs_alike : (bank : VecTrees L) (first : ℕ) → is_among n (all_of (each_vec_awaits s (number_vecs bank first))) ≡ is_among n (all_of (each_vec_awaits t (number_vecs bank first)))
      vecs_alike no_lists first = refl
      vecs_alike (more_lists e bank) first = both_alike _ _ _ _ (vec_alike e first) (vecs_alike bank _)

      sig_part_alike : (bank : SigTrees L) (first index : ℕ) →
          is_among n (get_or (each_sig_awaits s (number_sigs bank first)) index []) ≡ is_among n (get_or (each_sig_awaits t (number_sigs bank first)) index [])
      sig_part_alike no_signals first index = refl
      sig_part_alike (more_signals e bank) first zero = sig_alike e first
      sig_part_alike (more_signals e bank) first (suc index) = sig_part_alike bank (first + length (sig_leaves e)) index

      vec_part_alike : (bank : VecTrees L) (first index : ℕ) →
          is_among n (get_or (each_vec_awaits s (number_vecs bank first)) index []) ≡ is_among n (get_or (each_vec_awaits t (number_vecs bank first)) index [])
      vec_part_alike no_lists first index = refl
      vec_part_alike (more_lists e bank) first zero = vec_alike e first
      vec_part_alike (more_lists e bank) first (suc index) = vec_part_alike bank (first + length (vec_leaves e)) index

-- whether a leaf is awaited is decided by the contents of the leaves below it
abbrev pub LooksBelow : ViewTree ℕ → Type 0
LooksBelow view = (s t : ℕ → Content) (n : ℕ) → ((leaf : ℕ) → leaf < n → s leaf ≡ t leaf) → is_among n (awaits s view) ≡ is_among n (awaits t view)

pub numbered_looks : {L : Type 0} (view : ViewTree L) → LooksBelow (numbered view)
numbered_looks (signal_view e) s t n same = sig_alike s t n same e 0
numbered_looks (vector_view e) s t n same = vec_alike s t n same e 0
numbered_looks (map_view m) s t n same = refl
numbered_looks (entries_view m) s t n same = refl
numbered_looks (tagged_view e) s t n same = vec_alike s t n same e 0

-- nothing is shown, whichever numbers the leaves have
pub nothing_numbered : {L : Type 0} (view : ViewTree L) → nothing_shown (numbered view) ≡ nothing_shown view
nothing_numbered (signal_view e) = refl
nothing_numbered (vector_view e) = refl
nothing_numbered (map_view m) = refl
nothing_numbered (entries_view m) = refl
nothing_numbered (tagged_view e) = refl
