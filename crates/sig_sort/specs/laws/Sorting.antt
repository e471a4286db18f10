-- What a sorted view gives for a difference leads from the list in order to the list in order after the difference.
use Rattle.std.specs.Prelude.{◌≡◌, ℕ, zero, suc, nat_lt, ◌-◌, ◌<◌, ◌==◌, ◌&&◌, ℤ, pos, List, [], ◌∷◌, length, insert, remove, slice_get, slice_set, Some, Bool, true, false, if◌then◌else◌, refl}
use Rattle.std.proofs.Common.{◌∙◌, ◌≤◌, ap, sym, arith, IsPermutation}
use Rattle.std.proofs.lemmas.Bool.{lt-ltb, le-leb, ltb-true, eqb-true}
use Rattle.std.proofs.lemmas.List.Edits.{length-remove, insert_end}
use Rattle.std.proofs.lemmas.List.Sorted.{IsPermutation-trans, IsPermutation-insert, IsPermutation-remove}
use Rattle.std.proofs.lemmas.Option.{slice_get_within, slice_get-get_or, get_or_from_slice_get}
use Rattle.sig_diff.specs.declared.differences.VecDiff.{VecDiff}
use Rattle.sig_diff.specs.declared.differences.VecDiff.TheVariants.{Replace, InsertAt, UpdateAt, RemoveAt, Move, Push, Pop, Clear}
use Rattle.sig_diff.specs.Differences.{IsLawful, applied, moved}
use Rattle.sig_diff.specs.Sorting.{by_key, below, not_above, in_order}
use Rattle.sig_diff.proofs.Sorting.{by_key_total, by_key_antisymmetric, in_order_permuted, in_order_insert, in_order_remove, in_order_at, length_in_order, not_above_within}
use Rattle.sig_diff.proofs.Filtered.{remove_last}
use Rattle.sig_diff.specs.Replaying.{AreLawful, StaysShort, replayed}
use Rattle.sig_ops.specs.Following.{CanFollow, after_all}
use Rattle.sig_ops.specs.Leading.{LeadsTo}
use Rattle.sig_ops.specs.laws.Leading.{leads_none, leads_one, leads_append}
use Rattle.sig_sort.specs.Sorting.{SortedList, SortedStep, sorted_of, sorted_next, element, comes, changes, sorted_gives}

module _ {T : Type 0} where
  set_is : (xs : List T) (at : ℕ) (x : T) → at < length xs → slice_set xs at x ≡ insert (remove xs at) at x
  set_is [] at x within = absurd (omega arith)
  set_is (y ∷ xs) zero x within = refl
  set_is (y ∷ xs) (suc at) x within = ap (λ ys. y ∷ ys) (set_is xs at x (omega arith))

  -- an element that moves leaves the elements as they were
  moved_permutes : (xs : List T) (from to : ℕ) (x : T) → slice_get xs from ≡ Some x → IsPermutation xs (moved xs from to)
  moved_permutes xs from to x found =
      let rest : List T = remove xs from in
      let taken : IsPermutation xs (x ∷ rest) = IsPermutation-remove xs from x (slice_get_within xs from x found) (sym (get_or_from_slice_get xs from x x found)) in
      rw found (IsPermutation-trans xs (x ∷ rest) (insert rest to x) taken (IsPermutation-insert rest to x))

and_first : (a b : Bool) → (a && b) ≡ true → a ≡ true
and_first true b is = refl
and_first false b is = is

module _ (key : ℤ → ℤ) where
  -- an element of a list in order changes, by whether it keeps its place
  changes_leads : (ys : List ℤ) (at : ℕ) (x : ℤ) (stays : Bool) → (not_above (by_key key) x (remove ys at) == at) ≡ stays → at < length ys →
      LeadsTo ys (if stays then (UpdateAt at x ∷ []) else (RemoveAt at ∷ comes key (remove ys at) x ∷ []))
      (insert (remove ys at) (not_above (by_key key) x (remove ys at)) x)
  changes_leads ys at x true is within =
      let same : not_above (by_key key) x (remove ys at) ≡ at = eqb-true _ at is in
      rw (same, ← set_is ys at x within) (leads_one ys (UpdateAt at x) (lt-ltb at (length ys) within))
  changes_leads ys at x false is within =
      let left : List ℤ = remove ys at in
      leads_append ys (RemoveAt at ∷ []) left (comes key left x ∷ []) (insert left (not_above (by_key key) x left) x)
      (leads_one ys (RemoveAt at) (lt-ltb at (length ys) within))
      (leads_one left (comes key left x) (le-leb _ _ (not_above_within (by_key key) x left)))
      (omega (arith, length-remove ys at within))

  module _ (xs : List ℤ) where
    found : (index : ℕ) → index < length xs → slice_get xs index ≡ Some (element key xs index)
    found index within = slice_get-get_or xs index (pos 0) within

    -- an element has a rank among the elements in order
    pub rank_within : (index : ℕ) → index < length xs → below (by_key key) (element key xs index) (in_order (by_key key) xs) < length (in_order (by_key key) xs)
    rank_within index within =
        slice_get_within _ _ (element key xs index) (in_order_at (by_key_total key) (by_key_antisymmetric key) xs index (element key xs index) (found index within))

    inserted_leads : (index : ℕ) (value : ℤ) → LeadsTo (in_order (by_key key) xs) (comes key (in_order (by_key key) xs) value ∷ []) (in_order (by_key key) (insert xs index value))
    inserted_leads index value =
        rw (in_order_insert (by_key_total key) (by_key_antisymmetric key) xs index value)
        (leads_one (in_order (by_key key) xs) (comes key (in_order (by_key key) xs) value) (le-leb _ _ (not_above_within (by_key key) value (in_order (by_key key) xs))))

    goes : (index : ℕ) → index < length xs → in_order (by_key key) (remove xs index) ≡ remove (in_order (by_key key) xs) (below (by_key key) (element key xs index) (in_order (by_key key) xs))
    goes index within = in_order_remove (by_key_total key) (by_key_antisymmetric key) xs index (element key xs index) (found index within)

    removed_leads : (index : ℕ) → index < length xs →
        LeadsTo (in_order (by_key key) xs) (RemoveAt (below (by_key key) (element key xs index) (in_order (by_key key) xs)) ∷ []) (in_order (by_key key) (remove xs index))
    removed_leads index within =
        rw (goes index within) (leads_one (in_order (by_key key) xs) (RemoveAt (below (by_key key) (element key xs index) (in_order (by_key key) xs))) (lt-ltb _ _ (rank_within index within)))

    updated_is : (index : ℕ) (value : ℤ) → index < length xs →
        let left : List ℤ = remove (in_order (by_key key) xs) (below (by_key key) (element key xs index) (in_order (by_key key) xs)) in
        in_order (by_key key) (slice_set xs index value) ≡ insert left (not_above (by_key key) value left) value
    updated_is index value within =
        ap (in_order (by_key key)) (set_is xs index value within)
        ∙ in_order_insert (by_key_total key) (by_key_antisymmetric key) (remove xs index) index value
        ∙ ap (λ zs. insert zs (not_above (by_key key) value zs) value) (goes index within)

    updated_leads : (index : ℕ) (value : ℤ) → index < length xs →
        LeadsTo (in_order (by_key key) xs) (changes key (in_order (by_key key) xs) (below (by_key key) (element key xs index) (in_order (by_key key) xs)) value) (in_order (by_key key) (slice_set xs index value))
    updated_leads index value within =
        rw (updated_is index value within) (changes_leads (in_order (by_key key) xs) (below (by_key key) (element key xs index) (in_order (by_key key) xs)) value _ refl (rank_within index within))

    moved_leads : (from to : ℕ) → from < length xs → LeadsTo (in_order (by_key key) xs) [] (in_order (by_key key) (moved xs from to))
    moved_leads from to within =
        rw (← in_order_permuted (by_key_total key) (by_key_antisymmetric key) xs (moved xs from to) (moved_permutes xs from to (element key xs from) (found from within)))
        (leads_none (in_order (by_key key) xs))

  -- what the sorted view gives for a difference that the list takes
  pub sorted_leads : (xs : List ℤ) (diff : VecDiff ℤ) → IsLawful diff (length xs) → LeadsTo (in_order (by_key key) xs) (sorted_gives key xs diff) (in_order (by_key key) (applied xs diff))
  sorted_leads xs (Replace values) lawful = leads_one (in_order (by_key key) xs) (Replace (in_order (by_key key) values)) refl
  sorted_leads xs (InsertAt index value) lawful = inserted_leads xs index value
  sorted_leads xs (UpdateAt index value) lawful = updated_leads xs index value (ltb-true index (length xs) lawful)
  sorted_leads xs (RemoveAt index) lawful = removed_leads xs index (ltb-true index (length xs) lawful)
  sorted_leads xs (Move old_index new_index) lawful = moved_leads xs old_index new_index (ltb-true old_index (length xs) (and_first (nat_lt old_index (length xs)) (nat_lt new_index (length xs)) lawful))
  sorted_leads xs (Push value) lawful = rw (← insert_end xs value) (inserted_leads xs (length xs) value)
  sorted_leads xs Pop lawful =
      let some : 0 < length xs = ltb-true 0 (length xs) lawful in
      rw (← remove_last xs) (removed_leads xs (length xs - 1) (omega (arith, some)))
  sorted_leads xs Clear lawful = leads_one (in_order (by_key key) xs) Clear refl

  -- the list in order is no longer
  pub sorted_is_short : (xs : List ℤ) → length (in_order (by_key key) xs) ≤ length xs
  sorted_is_short xs = omega (arith, length_in_order (by_key key) xs)

-- an operator that stands for a list can go a step by what that list takes
pub sorted_may_step : {M : Type 0} (op : SortedList M) (xs : List ℤ) (diff : VecDiff ℤ) → op.items ≡ xs →
    IsLawful diff (length xs) → length xs ≤ 65536 → SortedStep op diff
sorted_may_step op xs diff is lawful short = record { lawful = rw is lawful; short = rw is short }

-- ---- along differences one after another

module _ {M : Type 0} where
  -- an operator can go along differences that are lawful for its list and keep it short
  pub sorted_can_follow : (can_call : M → Type 0) (op : SortedList M) (diffs : List (VecDiff ℤ)) → can_call op.mapper →
      AreLawful op.items diffs → length op.items ≤ 65536 → StaysShort 65536 op.items diffs →
      CanFollow sorted_next (λ op diff. can_call op.mapper × SortedStep op diff) op diffs
  sorted_can_follow can_call op [] can lawful few short = tt
  sorted_can_follow can_call op (diff ∷ diffs) can lawful few short =
      let kept = short lawful.0 in (
        (can, record { lawful = lawful.0; short = few }),
        sorted_can_follow can_call (sorted_next op diff) diffs can lawful.1 kept.0 kept.1,
      )

  -- after them it is the operator of the list after them
  pub sorted_after_all : (op : SortedList M) (diffs : List (VecDiff ℤ)) →
      after_all sorted_next op diffs ≡ sorted_of op.mapper (replayed op.items diffs)
  sorted_after_all op [] = refl
  sorted_after_all op (diff ∷ diffs) = sorted_after_all (sorted_next op diff) diffs
