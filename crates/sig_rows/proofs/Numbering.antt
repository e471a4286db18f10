-- The leaves of a view with its leaves numbered, and how long its lists get.
use Rattle.std.proofs.Common.{◌≡◌, ◌∙◌, ℕ, zero, suc, ◌+◌, ◌*◌, ◌<◌, ◌≤◌, ◌==◌, max, List, [], ◌∷◌, ◌++◌, length, slice_index, Bool, true, false, ◌||◌, All, refl, sym, ap, ap₂, subst, arith}
use Rattle.std.proofs.lemmas.Bool.Decides.{nat_tests}
use Rattle.std.proofs.lemmas.List.{length-append}
use Rattle.std.proofs.lemmas.List.FromFn.{length-range_with_len}
use Rattle.std.specs.List.{range_with_len}
use Rattle.sig_diff.specs.declared.contents.Content.{Content}
use Rattle.sig_expr.proofs.Awaiting.{IsAmong, none, kept, left_out, awaits_among}
use Rattle.sig_expr.specs.Awaited.{awaits}
use Rattle.sig_expr.specs.Bounds.{greatest_bound, map_bound, vec_bound}
use Rattle.sig_expr.specs.Leaves.{leaves, map_leaves, number_map, number_sig, number_sigs, number_vec, number_vecs, numbered, sig_leaves, sigs_leaves, vec_leaves, vecs_leaves}
use Rattle.sig_expr.specs.Trees.{MapTree, map_source, mapped_values, SigTree, cell, mapped_signal, deduped, switched, length_of, total_of, at_key, VecTree, vector, mapped, filtered, filtered_by, mapped_by, sorted, joined, flattened, picked, keys_in, values_in, SigTrees, no_signals, more_signals, VecTrees, no_lists, more_lists, ViewTree, signal_view, vector_view, map_view, entries_view, tagged_view}
use Rattle.sig_hist.specs.Sources.{AreDistinct, is_among}
use Rattle.sig_expr.specs.Lengths.{longest, sig_longest, sigs_longest, vec_longest, vecs_longest}

-- ---- numbers

range_append : (first count more : ℕ) → range_with_len first count ++ range_with_len (first + count) more ≡ range_with_len first (count + more)
range_append first zero more = ap₂ range_with_len (omega arith) (omega arith)
range_append first (suc count) more =
    let next : first + suc count ≡ first + 1 + count = omega arith in
    let all : suc (count + more) ≡ suc count + more = omega arith in
    ap (λ k. first ∷ range_with_len (first + 1) count ++ range_with_len k more) next ∙ ap (λ numbers. first ∷ numbers) (range_append (first + 1) count more) ∙ ap (range_with_len first) all

-- by whether the number is the first
among_by : (first count leaf : ℕ) (same : Bool) → (first == leaf) ≡ same → (same ≡ false → (first + 1 ≤ leaf) × (leaf < first + 1 + count)) → (first ≤ leaf) × (leaf < first + suc count)
among_by first count leaf true is later = let at : first ≡ leaf = grind (arith, nat_tests) in (omega (arith, at), omega (arith, at))
among_by first count leaf false is later = let there = later refl in (omega (arith, there.0), omega (arith, there.1))

among_numbers : (first count leaf : ℕ) → is_among leaf (range_with_len first count) ≡ true → (first ≤ leaf) × (leaf < first + count)
among_numbers first zero leaf among = cc
among_numbers first (suc count) leaf among = among_by first count leaf (first == leaf) refl (λ apart. among_numbers (first + 1) count leaf (rw apart at among))

not_among_numbers : (first count leaf : ℕ) (among : Bool) → is_among leaf (range_with_len first count) ≡ among → leaf < first → among ≡ false
not_among_numbers first count leaf false is before = refl
not_among_numbers first count leaf true is before = absurd (omega (arith, among_numbers first count leaf is, before))

pub numbers_differ : (first count : ℕ) → AreDistinct (range_with_len first count)
numbers_differ first zero = tt
numbers_differ first (suc count) = (not_among_numbers (first + 1) count first _ refl (omega arith), numbers_differ (first + 1) count)

-- what holds of each number up to an end
pub all_numbers : (P : ℕ → Type 0) (first count : ℕ) → ((leaf : ℕ) → first ≤ leaf → leaf < first + count → P leaf) → All P (range_with_len first count)
all_numbers P first zero each k default within = absurd (omega (arith, within))
all_numbers P first (suc count) each zero default within = each first (omega arith) (omega arith)
all_numbers P first (suc count) each (suc k) default within = all_numbers P (first + 1) count (λ leaf from to. each leaf (omega (arith, from)) (omega (arith, to))) k default (omega (arith, within))

-- ---- leaves

module _ {L : Type 0} where
  -- numbers behind numbers
  both_numbered : {xs ys : List ℕ} (labels others : List L) (first : ℕ) → xs ≡ range_with_len first (length labels) → ys ≡ range_with_len (first + length labels) (length others) →
      xs ++ ys ≡ range_with_len first (length (labels ++ others))
  both_numbered labels others first front back = ap₂ ◌++◌ front back ∙ range_append first (length labels) (length others) ∙ ap (range_with_len first) (sym (length-append labels others))

  pub map_numbers : (m : MapTree L) (first : ℕ) → map_leaves (number_map m first) ≡ range_with_len first (length (map_leaves m))
  map_numbers (map_source l) first = refl
  map_numbers (mapped_values f m) first = map_numbers m first

  mutual
    pub sig_numbers : (e : SigTree L) (first : ℕ) → sig_leaves (number_sig e first) ≡ range_with_len first (length (sig_leaves e))
    sig_numbers (cell l) first = refl
    sig_numbers (mapped_signal f e) first = sig_numbers e first
    sig_numbers (deduped e) first = sig_numbers e first
    sig_numbers (switched e bank) first = both_numbered (sig_leaves e) (sigs_leaves bank) first (sig_numbers e first) (sigs_numbers bank (first + length (sig_leaves e)))
    sig_numbers (length_of e) first = vec_numbers e first
    sig_numbers (total_of e) first = vec_numbers e first
    sig_numbers (at_key key default m) first = map_numbers m first

    pub vec_numbers : (e : VecTree L) (first : ℕ) → vec_leaves (number_vec e first) ≡ range_with_len first (length (vec_leaves e))
    vec_numbers (vector l) first = refl
    vec_numbers (mapped f e) first = vec_numbers e first
    vec_numbers (filtered p e) first = vec_numbers e first
    vec_numbers (filtered_by e bank) first = both_numbered (vec_leaves e) (sigs_leaves bank) first (vec_numbers e first) (sigs_numbers bank (first + length (vec_leaves e)))
    vec_numbers (mapped_by e bank) first = both_numbered (vec_leaves e) (sigs_leaves bank) first (vec_numbers e first) (sigs_numbers bank (first + length (vec_leaves e)))
    vec_numbers (sorted f e) first = vec_numbers e first
    vec_numbers (joined a b) first = both_numbered (vec_leaves a) (vec_leaves b) first (vec_numbers a first) (vec_numbers b (first + length (vec_leaves a)))
    vec_numbers (flattened e bank) first = both_numbered (vec_leaves e) (vecs_leaves bank) first (vec_numbers e first) (vecs_numbers bank (first + length (vec_leaves e)))
    vec_numbers (picked e bank) first = both_numbered (sig_leaves e) (vecs_leaves bank) first (sig_numbers e first) (vecs_numbers bank (first + length (sig_leaves e)))
    vec_numbers (keys_in m) first = map_numbers m first
    vec_numbers (values_in m) first = map_numbers m first

    sigs_numbers : (bank : SigTrees L) (first : ℕ) → sigs_leaves (number_sigs bank first) ≡ range_with_len first (length (sigs_leaves bank))
    sigs_numbers no_signals first = refl
    sigs_numbers (more_signals e bank) first = both_numbered (sig_leaves e) (sigs_leaves bank) first (sig_numbers e first) (sigs_numbers bank (first + length (sig_leaves e)))

    vecs_numbers : (bank : VecTrees L) (first : ℕ) → vecs_leaves (number_vecs bank first) ≡ range_with_len first (length (vecs_leaves bank))
    vecs_numbers no_lists first = refl
    vecs_numbers (more_lists e bank) first = both_numbered (vec_leaves e) (vecs_leaves bank) first (vec_numbers e first) (vecs_numbers bank (first + length (vec_leaves e)))

  -- the leaves of a view with numbers are the numbers from 0 on
  pub leaves_are : (view : ViewTree L) → leaves (numbered view) ≡ range_with_len 0 (length (leaves view))
  leaves_are (signal_view e) = sig_numbers e 0
  leaves_are (vector_view e) = vec_numbers e 0
  leaves_are (map_view m) = map_numbers m 0
  leaves_are (entries_view m) = map_numbers m 0
  leaves_are (tagged_view e) = vec_numbers e 0

  pub same_leaves : (view : ViewTree L) → length (leaves (numbered view)) ≡ length (leaves view)
  same_leaves view = ap length (leaves_are view) ∙ length-range_with_len 0 (length (leaves view))

  pub leaves_differ : (view : ViewTree L) → AreDistinct (leaves (numbered view))
  leaves_differ view = rw (leaves_are view) (numbers_differ 0 (length (leaves view)))

  pub has_leaves : (view : ViewTree L) (count : ℕ) → count ≡ length (leaves view) → All (λ leaf. leaf < count) (leaves (numbered view))
  has_leaves view count is = rw (leaves_are view) (all_numbers (λ leaf. leaf < count) 0 (length (leaves view)) (λ leaf from to. omega (arith, to, is)))

  pub leaf_within : (view : ViewTree L) (leaf : ℕ) → is_among leaf (leaves (numbered view)) ≡ true → leaf < length (leaves view)
  leaf_within view leaf among = omega (arith, (among_numbers 0 (length (leaves view)) leaf (rw (leaves_are view) at among)).1)

-- ---- awaited leaves

still_among_by : (here rest all : Bool) → (rest ≡ true → all ≡ true) → (here || rest) ≡ true → (here || all) ≡ true
still_among_by true rest all keeps among = refl
still_among_by false rest all keeps among = keeps among

or_on : (here all : Bool) → all ≡ true → (here || all) ≡ true
or_on true all is = refl
or_on false all is = is

-- a number on the left is on the right
still_among : {labels all : List ℕ} (leaf : ℕ) → IsAmong labels all → is_among leaf labels ≡ true → is_among leaf all ≡ true
still_among leaf none among = among
still_among leaf (kept l is) among = still_among_by (l == leaf) _ _ (still_among leaf is) among
still_among leaf (left_out l is) among = or_on (l == leaf) _ (still_among leaf is among)

-- a leaf that a view awaits is one of its leaves
pub awaited_within : {L : Type 0} (view : ViewTree L) (s : ℕ → Content) (leaf : ℕ) → is_among leaf (awaits s (numbered view)) ≡ true → leaf < length (leaves view)
awaited_within view s leaf among = leaf_within view leaf (still_among leaf (awaits_among s (numbered view)) among)

-- ---- the longest list

module _ {L : Type 0} (cap : L → ℕ) (other : ℕ → ℕ) where
  -- at each number from the first on the cap is within that of the leaf
  abbrev pub AreWithinCaps : ℕ → List L → Type 0
  AreWithinCaps first [] = Unit {0}
  AreWithinCaps first (l ∷ labels) = (other first ≤ cap l) × AreWithinCaps (first + 1) labels

  front : (one more : List L) (first : ℕ) → AreWithinCaps first (one ++ more) → AreWithinCaps first one
  front [] more first within = tt
  front (l ∷ one) more first within = (within.0, front one more (first + 1) within.1)

  back : (one more : List L) (first : ℕ) → AreWithinCaps first (one ++ more) → AreWithinCaps (first + length one) more
  back [] more first within = let here : first ≡ first + 0 = omega arith in subst (λ (from : ℕ). AreWithinCaps from more) here within
  back (l ∷ one) more first within =
      let later : first + 1 + length one ≡ first + suc (length one) = omega arith in
      subst (λ (from : ℕ). AreWithinCaps from more) later (back one more (first + 1) within.1)

  map_short : (m : MapTree L) (first : ℕ) → AreWithinCaps first (map_leaves m) → map_bound other (number_map m first) ≤ map_bound cap m
  map_short (map_source l) first within = within.0
  map_short (mapped_values f m) first within = map_short m first within

  greater : (a b c d : ℕ) → a ≤ c → b ≤ d → max a b ≤ max c d
  greater a b c d one two = omega (arith, one, two)

  more_times : (a b c d : ℕ) → a ≤ c → b ≤ d → a * b ≤ c * d
  more_times a b c d one two = grind (arith, one, two)

  mutual
    bound_short : (e : VecTree L) (first : ℕ) → AreWithinCaps first (vec_leaves e) → vec_bound other (number_vec e first) ≤ vec_bound cap e
    bound_short (vector l) first within = within.0
    bound_short (mapped f e) first within = bound_short e first within
    bound_short (filtered p e) first within = bound_short e first within
    bound_short (filtered_by e bank) first within = bound_short e first (front (vec_leaves e) (sigs_leaves bank) first within)
    bound_short (mapped_by e bank) first within = bound_short e first (front (vec_leaves e) (sigs_leaves bank) first within)
    bound_short (sorted f e) first within = bound_short e first within
    bound_short (joined a b) first within =
        omega (arith, bound_short a first (front (vec_leaves a) (vec_leaves b) first within), bound_short b (first + length (vec_leaves a)) (back (vec_leaves a) (vec_leaves b) first within))
    bound_short (flattened e bank) first within =
        more_times _ _ _ _ (bound_short e first (front (vec_leaves e) (vecs_leaves bank) first within)) (bank_short bank (first + length (vec_leaves e)) (back (vec_leaves e) (vecs_leaves bank) first within))
    bound_short (picked e bank) first within = bank_short bank (first + length (sig_leaves e)) (back (sig_leaves e) (vecs_leaves bank) first within)
    bound_short (keys_in m) first within = map_short m first within
    bound_short (values_in m) first within = map_short m first within

    bank_short : (bank : VecTrees L) (first : ℕ) → AreWithinCaps first (vecs_leaves bank) → greatest_bound other (number_vecs bank first) ≤ greatest_bound cap bank
    bank_short no_lists first within = omega arith
    bank_short (more_lists e bank) first within =
        greater _ _ _ _ (bound_short e first (front (vec_leaves e) (vecs_leaves bank) first within)) (bank_short bank (first + length (vec_leaves e)) (back (vec_leaves e) (vecs_leaves bank) first within))

  mutual
    sig_short : (e : SigTree L) (first : ℕ) → AreWithinCaps first (sig_leaves e) → sig_longest other (number_sig e first) ≤ sig_longest cap e
    sig_short (cell l) first within = omega arith
    sig_short (mapped_signal f e) first within = sig_short e first within
    sig_short (deduped e) first within = sig_short e first within
    sig_short (switched e bank) first within =
        greater _ _ _ _ (sig_short e first (front (sig_leaves e) (sigs_leaves bank) first within)) (sigs_short bank (first + length (sig_leaves e)) (back (sig_leaves e) (sigs_leaves bank) first within))
    sig_short (length_of e) first within = vec_short e first within
    sig_short (total_of e) first within = vec_short e first within
    sig_short (at_key key default m) first within = map_short m first within

    vec_short : (e : VecTree L) (first : ℕ) → AreWithinCaps first (vec_leaves e) → vec_longest other (number_vec e first) ≤ vec_longest cap e
    vec_short (vector l) first within = within.0
    vec_short (mapped f e) first within = vec_short e first within
    vec_short (filtered p e) first within = vec_short e first within
    vec_short (filtered_by e bank) first within =
        greater _ _ _ _ (vec_short e first (front (vec_leaves e) (sigs_leaves bank) first within)) (sigs_short bank (first + length (vec_leaves e)) (back (vec_leaves e) (sigs_leaves bank) first within))
    vec_short (mapped_by e bank) first within =
        greater _ _ _ _ (vec_short e first (front (vec_leaves e) (sigs_leaves bank) first within)) (sigs_short bank (first + length (vec_leaves e)) (back (vec_leaves e) (sigs_leaves bank) first within))
    vec_short (sorted f e) first within = vec_short e first within
    vec_short (joined a b) first within =
        greater _ _ _ _ (bound_short (joined a b) first within)
        (greater _ _ _ _ (vec_short a first (front (vec_leaves a) (vec_leaves b) first within)) (vec_short b (first + length (vec_leaves a)) (back (vec_leaves a) (vec_leaves b) first within)))
    vec_short (flattened e bank) first within =
        greater _ _ _ _ (bound_short (flattened e bank) first within)
        (greater _ _ _ _ (vec_short e first (front (vec_leaves e) (vecs_leaves bank) first within)) (vecs_short bank (first + length (vec_leaves e)) (back (vec_leaves e) (vecs_leaves bank) first within)))
    vec_short (picked e bank) first within =
        greater _ _ _ _ (sig_short e first (front (sig_leaves e) (vecs_leaves bank) first within)) (vecs_short bank (first + length (sig_leaves e)) (back (sig_leaves e) (vecs_leaves bank) first within))
    vec_short (keys_in m) first within = map_short m first within
    vec_short (values_in m) first within = map_short m first within

    sigs_short : (bank : SigTrees L) (first : ℕ) → AreWithinCaps first (sigs_leaves bank) → sigs_longest other (number_sigs bank first) ≤ sigs_longest cap bank
    sigs_short no_signals first within = omega arith
    sigs_short (more_signals e bank) first within =
        greater _ _ _ _ (sig_short e first (front (sig_leaves e) (sigs_leaves bank) first within)) (sigs_short bank (first + length (sig_leaves e)) (back (sig_leaves e) (sigs_leaves bank) first within))

    vecs_short : (bank : VecTrees L) (first : ℕ) → AreWithinCaps first (vecs_leaves bank) → vecs_longest other (number_vecs bank first) ≤ vecs_longest cap bank
    vecs_short no_lists first within = omega arith
    vecs_short (more_lists e bank) first within =
        greater _ _ _ _ (vec_short e first (front (vec_leaves e) (vecs_leaves bank) first within)) (vecs_short bank (first + length (vec_leaves e)) (back (vec_leaves e) (vecs_leaves bank) first within))

  -- where the caps are within others so is the longest list by them
  pub view_short : (view : ViewTree L) → AreWithinCaps 0 (leaves view) → longest other (numbered view) ≤ longest cap view
  view_short (signal_view e) within = sig_short e 0 within
  view_short (vector_view e) within = vec_short e 0 within
  view_short (map_view m) within = map_short m 0 within
  view_short (entries_view m) within = map_short m 0 within
  view_short (tagged_view e) within = vec_short e 0 within

-- by place
pub within_caps : (cap : ℕ → ℕ) (other : ℕ → ℕ) (first : ℕ) (labels : List ℕ) → ((leaf : ℕ) → leaf < length labels → other (first + leaf) ≤ cap (slice_index labels leaf)) → AreWithinCaps cap other first labels
within_caps cap other first [] each = tt
within_caps cap other first (l ∷ labels) each = (
  (let here = each 0 (omega arith) in let same : first + 0 ≡ first = omega arith in rw same at here),
  within_caps cap other (first + 1) labels (λ leaf within. let here = each (suc leaf) (omega (arith, within)) in let same : first + suc leaf ≡ first + 1 + leaf = omega arith in rw same at here),
)
