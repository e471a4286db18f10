-- Where a key stands among a map's entries, and each change of the map as a change of the list at that place.
use Rattle.std.proofs.Common.{◌≡◌, ◌∙◌, ℕ, zero, suc, ◌+◌, ◌<◌, ◌≤◌, ℤ, int_lt, int_cmp, int_eq, is_lt, is_eq, is_gt, Ordering, Less, Equal, Greater, Bool, true, false, cond, not, ◌&&◌, IsTrue, T, List, [], ◌∷◌, ◌++◌, length, get_or, set, slice_get, insert, remove, None, Some, is_some, Result, Ok, Err, is_ok, MatchResult, refl, sym, ap, subst, zero-add, add-one, arith}
use Rattle.std.proofs.lemmas.Cmp.{int_cmp_total}
use Rattle.std.proofs.lemmas.List.{map-set}
use Rattle.std.proofs.lemmas.List.Sorted.{searchable_from_sorted}
use Rattle.std.proofs.lemmas.List.Sums.{sum_by-cons, count_by-le-length}
use Rattle.std.proofs.lemmas.Map.Lookups.{exact_signed}
use Rattle.std.specs.Cmp.{tied_itself}
use Rattle.std.specs.FinMap.Entries.{below_all, is_sorted-put, is_sorted-where_key, find-put, find-where_key}
use Rattle.std.specs.List.Sorted.{IsBinarySearchResult, IsSearchInRange, IsSortedBy}
use Rattle.std.specs.List.{AllWithin}
use Rattle.std.specs.Ordering.{ordering_reverse}
use Rattle.sig_diff.proofs.Images.{map_insert, map_remove}
use Rattle.sig_diff.specs.Entries.{IsRising, IsAbove, rank, value_at, has_key, with_value, without, keys_of, values_of}

-- ---- one key against another

less_is : (below above : Bool) → below ≡ is_lt (cond below Less (cond above Greater Equal))
less_is true above = refl
less_is false true = refl
less_is false false = refl

reversed_less : (order : Ordering) → is_lt (ordering_reverse order) ≡ is_gt order
reversed_less Less = refl
reversed_less Equal = refl
reversed_less Greater = refl

reversed_equal : (order : Ordering) → is_eq (ordering_reverse order) ≡ is_eq order
reversed_equal Less = refl
reversed_equal Equal = refl
reversed_equal Greater = refl

equal_flips : (one other : ℤ) → int_eq one other ≡ int_eq other one
equal_flips one other = ap is_eq (int_cmp_total.antisymm one other) ∙ reversed_equal (int_cmp other one)

flipped_cond : {A : Type 0} (test : Bool) (x y : A) → cond (not test) x y ≡ cond test y x
flipped_cond true x y = refl
flipped_cond false x y = refl

-- a key is below where the other compares as greater
below_is : (other key : ℤ) → int_lt other key ≡ is_gt (int_cmp key other)
below_is other key = less_is (int_lt other key) (int_lt key other) ∙ ap is_lt (int_cmp_total.antisymm other key) ∙ reversed_less (int_cmp key other)

-- a test that passes, and then others
less_first : (order : Ordering) (rest : Bool) → IsTrue (is_lt order && rest) → (order ≡ Less) × IsTrue rest
less_first Less rest so = (refl, so)
less_first Equal rest so = cc
less_first Greater rest so = cc

same_key : (key : ℤ) → int_cmp key key ≡ Equal
same_key key = tied_itself int_cmp_total key

-- the two forms of a test that passes
so_true : (test : Bool) → T test → test ≡ true
so_true true so = refl
so_true false so = absurd so

true_so : (test : Bool) → test ≡ true → T test
true_so true so = tt
true_so false so = cc

both_true : (one other : Bool) → IsTrue (one && other) → IsTrue one × IsTrue other
both_true true other so = (refl, so)
both_true false other so = cc

-- a key that isn't above another is below what is above that one
less_through : (key between other : ℤ) (order : Ordering) → int_cmp key between ≡ order → is_gt order ≡ false → int_cmp between other ≡ Less → int_cmp key other ≡ Less
less_through key between other Less is up less = int_cmp_total.trans key between other is less
less_through key between other Equal is up less = int_cmp_total.congr key between other is ∙ less
less_through key between other Greater is up less = cc

module _ {V : Type 0} where
  -- ---- a key that is below those of all entries

  above_too : (key first : ℤ) (entries : List (ℤ × V)) → is_gt (int_cmp key first) ≡ false → IsTrue (below_all int_cmp first entries) → IsTrue (below_all int_cmp key entries)
  above_too key first [] up above = refl
  above_too key first (entry ∷ entries) up above =
      let parts = less_first (int_cmp first entry.0) (below_all int_cmp first entries) above in
      rw (less_through key first entry.0 (int_cmp key first) refl up parts.0) (above_too key first entries up parts.1)

  -- a key below the first entry's is below all, where those after the first are above it
  above_from : (key : ℤ) (entry : ℤ × V) (entries : List (ℤ × V)) → int_cmp key entry.0 ≡ Less → IsTrue (below_all int_cmp entry.0 entries) → IsTrue (below_all int_cmp key (entry ∷ entries))
  above_from key entry entries less above = rw less (above_too key entry.0 entries (ap is_gt less) above)

  rank_cons : (key : ℤ) (entry : ℤ × V) (entries : List (ℤ × V)) (order : Ordering) → int_cmp key entry.0 ≡ order → rank key (entry ∷ entries) ≡ cond (is_gt order) 1 0 + rank key entries
  rank_cons key entry entries order is =
      sum_by-cons (λ (other : ℤ × V). cond (int_lt other.0 key) 1 0) entry entries ∙ ap (λ (below : Bool). cond below 1 0 + rank key entries) (below_is entry.0 key ∙ ap is_gt is)

  rank_above : (key : ℤ) (entries : List (ℤ × V)) → IsTrue (below_all int_cmp key entries) → rank key entries ≡ 0
  rank_above key [] above = refl
  rank_above key (entry ∷ entries) above =
      let parts = less_first (int_cmp key entry.0) (below_all int_cmp key entries) above in
      rank_cons key entry entries Less parts.0 ∙ zero-add (rank key entries) ∙ rank_above key entries parts.1

  value_above : (key : ℤ) (entries : List (ℤ × V)) → IsTrue (below_all int_cmp key entries) → value_at key entries ≡ None
  value_above key [] above = refl
  value_above key (entry ∷ entries) above =
      let parts = less_first (int_cmp key entry.0) (below_all int_cmp key entries) above in
      rw parts.0 (value_above key entries parts.1)

  without_above : (key : ℤ) (entries : List (ℤ × V)) → IsTrue (below_all int_cmp key entries) → without key entries ≡ entries
  without_above key [] above = refl
  without_above key (entry ∷ entries) above =
      let parts = less_first (int_cmp key entry.0) (below_all int_cmp key entries) above in
      rw parts.0 (ap (λ (rest : List (ℤ × V)). entry ∷ rest) (without_above key entries parts.1))

  with_value_above : (key : ℤ) (value : V) (entries : List (ℤ × V)) → IsTrue (below_all int_cmp key entries) → with_value key value entries ≡ (key, value) ∷ entries
  with_value_above key value [] above = refl
  with_value_above key value (entry ∷ entries) above =
      let parts = less_first (int_cmp key entry.0) (below_all int_cmp key entries) above in
      rw parts.0 refl

  -- ---- a key among the entries

  -- what holds where all entries are above the key, where the first has it, and after one more entry below it, holds of all
  by_place : (key : ℤ) (P : List (ℤ × V) → Type 0)
      → ((entries : List (ℤ × V)) → IsTrue (below_all int_cmp key entries) → P entries)
      → ((value : V) (entries : List (ℤ × V)) → IsTrue (below_all int_cmp key entries) → P ((key, value) ∷ entries))
      → ((entry : ℤ × V) (entries : List (ℤ × V)) → int_cmp key entry.0 ≡ Greater → P entries → P (entry ∷ entries))
      → (entries : List (ℤ × V)) → IsRising entries → P entries
  by_place key P above here later [] rising = above [] refl
  by_place key P above here later (entry ∷ entries) rising =
      elim (int_cmp key entry.0) as (λ (order : Ordering). int_cmp key entry.0 ≡ order → P (entry ∷ entries)) [
        | Less ↦ λ less. above (entry ∷ entries) (above_from key entry entries less (both_true (below_all int_cmp entry.0 entries) _ rising).0)
        | Equal ↦ λ equal. subst (λ (other : ℤ). P ((other, entry.1) ∷ entries)) (exact_signed key entry.0 equal) (here entry.1 entries (above_too key entry.0 entries (ap is_gt equal) (both_true (below_all int_cmp entry.0 entries) _ rising).0))
        | Greater ↦ λ greater. later entry entries greater (by_place key P above here later entries (both_true (below_all int_cmp entry.0 entries) _ rising).1)
      ] refl

  rank_here : (key : ℤ) (value : V) (entries : List (ℤ × V)) → IsTrue (below_all int_cmp key entries) → rank key ((key, value) ∷ entries) ≡ 0
  rank_here key value entries above = rank_cons key (key, value) entries Equal (same_key key) ∙ zero-add (rank key entries) ∙ rank_above key entries above

  rank_later : (key : ℤ) (entry : ℤ × V) (entries : List (ℤ × V)) → int_cmp key entry.0 ≡ Greater → rank key (entry ∷ entries) ≡ suc (rank key entries)
  rank_later key entry entries greater = omega (arith, rank_cons key entry entries Greater greater)

  value_here : (key : ℤ) (value : V) (entries : List (ℤ × V)) → value_at key ((key, value) ∷ entries) ≡ Some value
  value_here key value entries = rw (same_key key) refl

  value_later : (key : ℤ) (entry : ℤ × V) (entries : List (ℤ × V)) → int_cmp key entry.0 ≡ Greater → value_at key (entry ∷ entries) ≡ value_at key entries
  value_later key entry entries greater = rw greater refl

  -- ---- places

  -- a key has no more keys below it than there are
  pub rank_up_to_length : (key : ℤ) (entries : List (ℤ × V)) → rank key entries ≤ length entries
  rank_up_to_length key entries = count_by-le-length (λ (entry : ℤ × V). int_lt entry.0 key) entries

  -- the entry of a present key stands at its rank
  pub entry_at_rank : (key : ℤ) (value : V) (entries : List (ℤ × V)) → IsRising entries → value_at key entries ≡ Some value → slice_get entries (rank key entries) ≡ Some (key, value)
  entry_at_rank key value entries rising has =
      by_place key (λ (entries : List (ℤ × V)). value_at key entries ≡ Some value → slice_get entries (rank key entries) ≡ Some (key, value))
      (λ entries above has. let none = value_above key entries above in cc)
      (λ first entries above has. rw (rank_here key first entries above) (let here = value_here key first entries in cc))
      (λ entry entries greater known has. rw (rank_later key entry entries greater) (known (sym (value_later key entry entries greater) ∙ has)))
      entries rising has

  -- a present key's rank is within the list
  pub rank_within : (key : ℤ) (entries : List (ℤ × V)) → IsRising entries → has_key key entries ≡ true → rank key entries < length entries
  rank_within key entries rising has =
      by_place key (λ (entries : List (ℤ × V)). has_key key entries ≡ true → rank key entries < length entries)
      (λ entries above has. let none = value_above key entries above in cc)
      (λ first entries above has. rw (rank_here key first entries above) (omega arith))
      (λ entry entries greater known has. rw (rank_later key entry entries greater) (let within = known (ap is_some (sym (value_later key entry entries greater)) ∙ has) in omega arith))
      entries rising has

  -- the value at a present key is that of the entry at its rank
  pub value_at_rank : (key : ℤ) (entries : List (ℤ × V)) → IsRising entries → has_key key entries ≡ true → (other : ℤ × V) → value_at key entries ≡ Some (get_or entries (rank key entries) other).1
  value_at_rank key entries rising has other =
      by_place key (λ (entries : List (ℤ × V)). has_key key entries ≡ true → value_at key entries ≡ Some (get_or entries (rank key entries) other).1)
      (λ entries above has. let none = value_above key entries above in cc)
      (λ first entries above has. rw (rank_here key first entries above) (value_here key first entries))
      (λ entry entries greater known has. rw (rank_later key entry entries greater, greater) (known (ap is_some (sym (value_later key entry entries greater)) ∙ has)))
      entries rising has

  -- ---- changes of the map

  -- a key that the map doesn't have comes in at its rank
  pub with_value_new : (key : ℤ) (value : V) (entries : List (ℤ × V)) → IsRising entries → has_key key entries ≡ false → with_value key value entries ≡ insert entries (rank key entries) (key, value)
  with_value_new key value entries rising lacks =
      by_place key (λ (entries : List (ℤ × V)). has_key key entries ≡ false → with_value key value entries ≡ insert entries (rank key entries) (key, value))
      (λ entries above lacks. with_value_above key value entries above ∙ ap (λ (index : ℕ). insert entries index (key, value)) (sym (rank_above key entries above)))
      (λ first entries above lacks. let here = value_here key first entries in cc)
      (λ entry entries greater known lacks.
      let rest = known (ap is_some (sym (value_later key entry entries greater)) ∙ lacks) in
      rw (rank_later key entry entries greater, greater) (ap (λ (rest : List (ℤ × V)). entry ∷ rest) rest))
      entries rising lacks

  -- a key of the map gets its value at its rank
  pub with_value_known : (key : ℤ) (value : V) (entries : List (ℤ × V)) → IsRising entries → has_key key entries ≡ true → with_value key value entries ≡ set entries (rank key entries) (key, value)
  with_value_known key value entries rising has =
      by_place key (λ (entries : List (ℤ × V)). has_key key entries ≡ true → with_value key value entries ≡ set entries (rank key entries) (key, value))
      (λ entries above has. let none = value_above key entries above in cc)
      (λ first entries above has. rw (rank_here key first entries above, same_key key) refl)
      (λ entry entries greater known has.
      let rest = known (ap is_some (sym (value_later key entry entries greater)) ∙ has) in
      rw (rank_later key entry entries greater, greater) (ap (λ (rest : List (ℤ × V)). entry ∷ rest) rest))
      entries rising has

  -- a key of the map goes at its rank
  pub without_known : (key : ℤ) (entries : List (ℤ × V)) → IsRising entries → has_key key entries ≡ true → without key entries ≡ remove entries (rank key entries)
  without_known key entries rising has =
      by_place key (λ (entries : List (ℤ × V)). has_key key entries ≡ true → without key entries ≡ remove entries (rank key entries))
      (λ entries above has. let none = value_above key entries above in cc)
      (λ first entries above has. rw (rank_here key first entries above, same_key key) (without_above key entries above))
      (λ entry entries greater known has.
      let rest = known (ap is_some (sym (value_later key entry entries greater)) ∙ has) in
      rw (rank_later key entry entries greater, greater) (ap (λ (rest : List (ℤ × V)). entry ∷ rest) rest))
      entries rising has

  -- ---- the keys and the values after a change

  -- a key that the map doesn't have comes in among the keys at its rank
  pub keys_of_new : (key : ℤ) (value : V) (entries : List (ℤ × V)) → IsRising entries → has_key key entries ≡ false → keys_of (with_value key value entries) ≡ insert (keys_of entries) (rank key entries) key
  keys_of_new key value entries rising lacks = ap keys_of (with_value_new key value entries rising lacks) ∙ map_insert (λ (entry : ℤ × V). entry.0) entries (rank key entries) (key, value)

  -- the value of a key that the map doesn't have comes in among the values at the key's rank
  pub values_of_new : (key : ℤ) (value : V) (entries : List (ℤ × V)) → IsRising entries → has_key key entries ≡ false → values_of (with_value key value entries) ≡ insert (values_of entries) (rank key entries) value
  values_of_new key value entries rising lacks = ap values_of (with_value_new key value entries rising lacks) ∙ map_insert (λ (entry : ℤ × V). entry.1) entries (rank key entries) (key, value)

  -- a key of the map that gets another value is written among the keys at its rank
  pub keys_of_known : (key : ℤ) (value : V) (entries : List (ℤ × V)) → IsRising entries → has_key key entries ≡ true → keys_of (with_value key value entries) ≡ set (keys_of entries) (rank key entries) key
  keys_of_known key value entries rising has = ap keys_of (with_value_known key value entries rising has) ∙ map-set (λ (entry : ℤ × V). entry.0) entries (rank key entries) (key, value)

  -- another value leaves the keys as they are
  pub keys_stay : (key : ℤ) (value : V) (entries : List (ℤ × V)) → IsRising entries → has_key key entries ≡ true → keys_of (with_value key value entries) ≡ keys_of entries
  keys_stay key value entries rising has =
      by_place key (λ (entries : List (ℤ × V)). has_key key entries ≡ true → keys_of (with_value key value entries) ≡ keys_of entries)
      (λ entries above has. let none = value_above key entries above in cc)
      (λ first entries above has. rw (same_key key) refl)
      (λ entry entries greater known has.
      let rest = known (ap is_some (sym (value_later key entry entries greater)) ∙ has) in
      rw greater (ap (λ (keys : List ℤ). entry.0 ∷ keys) rest))
      entries rising has

  -- another value of a key of the map is written among the values at the key's rank
  pub values_of_known : (key : ℤ) (value : V) (entries : List (ℤ × V)) → IsRising entries → has_key key entries ≡ true → values_of (with_value key value entries) ≡ set (values_of entries) (rank key entries) value
  values_of_known key value entries rising has = ap values_of (with_value_known key value entries rising has) ∙ map-set (λ (entry : ℤ × V). entry.1) entries (rank key entries) (key, value)

  -- a key of the map goes from the keys at its rank
  pub keys_of_without : (key : ℤ) (entries : List (ℤ × V)) → IsRising entries → has_key key entries ≡ true → keys_of (without key entries) ≡ remove (keys_of entries) (rank key entries)
  keys_of_without key entries rising has = ap keys_of (without_known key entries rising has) ∙ map_remove (λ (entry : ℤ × V). entry.0) entries (rank key entries)

  -- the value of a key of the map goes from the values at the key's rank
  pub values_of_without : (key : ℤ) (entries : List (ℤ × V)) → IsRising entries → has_key key entries ≡ true → values_of (without key entries) ≡ remove (values_of entries) (rank key entries)
  values_of_without key entries rising has = ap values_of (without_known key entries rising has) ∙ map_remove (λ (entry : ℤ × V). entry.1) entries (rank key entries)

  -- ---- the value at a key after a change

  -- a changed map has the value at the key, and at other keys what it had
  pub value_at_with_value : (other key : ℤ) (value : V) (entries : List (ℤ × V)) → value_at other (with_value key value entries) ≡ cond (int_eq key other) (Some value) (value_at other entries)
  value_at_with_value other key value entries = find-put int_cmp int_cmp_total other key value entries ∙ ap (λ (same : Bool). cond same (Some value) (value_at other entries)) (equal_flips other key)

  -- a map without a key has nothing there, and at other keys what it had
  pub value_at_without : (other key : ℤ) (entries : List (ℤ × V)) → value_at other (without key entries) ≡ cond (int_eq key other) None (value_at other entries)
  value_at_without other key entries =
      find-where_key int_cmp (λ (tested : ℤ). not (int_eq key tested)) other (λ tested equal. ap (λ (tested : ℤ). not (int_eq key tested)) (sym (exact_signed other tested equal))) entries
      ∙ flipped_cond (int_eq key other) (value_at other entries) None

  -- ---- the order of the keys

  -- a change at a key keeps the order
  pub rising_with_value : (key : ℤ) (value : V) (entries : List (ℤ × V)) → IsRising entries → IsRising (with_value key value entries)
  rising_with_value key value entries rising = so_true _ (is_sorted-put int_cmp int_cmp_total key value entries (true_so _ rising))

  -- the removal of a key keeps the order
  pub rising_without : (key : ℤ) (entries : List (ℤ × V)) → IsRising entries → IsRising (without key entries)
  rising_without key entries rising = so_true _ (is_sorted-where_key int_cmp (λ (other : ℤ). not (int_eq key other)) entries (true_so _ rising))

  below_push : (first : ℤ) (entry : ℤ × V) (entries : List (ℤ × V)) → int_cmp first entry.0 ≡ Less → IsTrue (below_all int_cmp first entries) → IsTrue (below_all int_cmp first (entries ++ entry ∷ []))
  below_push first entry [] less above = rw less refl
  below_push first entry (next ∷ entries) less above =
      let parts = less_first (int_cmp first next.0) (below_all int_cmp first entries) above in
      rw parts.0 (below_push first entry entries less parts.1)

  -- an entry whose key is above the others may come at the end
  pub rising_push : (entry : ℤ × V) (entries : List (ℤ × V)) → IsRising entries → IsAbove entry.0 entries → IsRising (entries ++ entry ∷ [])
  rising_push entry [] rising highest = refl
  rising_push entry (first ∷ entries) rising highest =
      let keys = both_true (below_all int_cmp first.0 entries) _ rising in
      let lower = both_true (int_lt first.0 entry.0) _ highest in
      let less : int_cmp first.0 entry.0 ≡ Less = rw lower.0 refl in
      rw (below_push first.0 entry entries less keys.0) (rising_push entry entries keys.1 lower.1)

  -- ---- a binary search

  -- the entries rise as a sorted list does
  sorted_from_rising : (entries : List (ℤ × V)) → IsRising entries → (index : ℕ) (other : ℤ × V) → suc index < length entries → is_lt (int_cmp (get_or entries (suc index) other).0 (get_or entries index other).0) ≡ false
  sorted_from_rising [] rising index other within = absurd (omega arith)
  sorted_from_rising (entry ∷ []) rising index other within = absurd (omega arith)
  sorted_from_rising (entry ∷ next ∷ entries) rising zero other within =
      let parts = less_first (int_cmp entry.0 next.0) (below_all int_cmp entry.0 entries) (both_true (below_all int_cmp entry.0 (next ∷ entries)) _ rising).0 in
      rw (int_cmp_total.antisymm next.0 entry.0) (rw parts.0 refl)
  sorted_from_rising (entry ∷ entries) rising (suc index) other within = sorted_from_rising entries (both_true (below_all int_cmp entry.0 entries) _ rising).1 index other (omega arith)

  above_at : (key : ℤ) (entries : List (ℤ × V)) → IsTrue (below_all int_cmp key entries) → (index : ℕ) (other : ℤ × V) → index < length entries → int_cmp key (get_or entries index other).0 ≡ Less
  above_at key [] above index other within = absurd (omega arith)
  above_at key (entry ∷ entries) above zero other within = (less_first (int_cmp key entry.0) (below_all int_cmp key entries) above).0
  above_at key (entry ∷ entries) above (suc index) other within = above_at key entries (less_first (int_cmp key entry.0) (below_all int_cmp key entries) above).1 index other (omega arith)

  found_here : (key : ℤ) (first : V) (entries : List (ℤ × V)) → IsTrue (below_all int_cmp key entries) → (index : ℕ) (other : ℤ × V) → index < suc (length entries) → (get_or ((key, first) ∷ entries) index other).0 ≡ key → (index ≡ rank key ((key, first) ∷ entries)) × (has_key key ((key, first) ∷ entries) ≡ true)
  found_here key first entries above zero other within is = (sym (rank_here key first entries above), ap is_some (value_here key first entries))
  found_here key first entries above (suc index) other within is = let less = above_at key entries above index other (omega arith) in let same = same_key key in cc

  found_later : (key : ℤ) (entry : ℤ × V) (entries : List (ℤ × V)) → int_cmp key entry.0 ≡ Greater → ((index : ℕ) (other : ℤ × V) → index < length entries → (get_or entries index other).0 ≡ key → (index ≡ rank key entries) × (has_key key entries ≡ true)) → (index : ℕ) (other : ℤ × V) → index < suc (length entries) → (get_or (entry ∷ entries) index other).0 ≡ key → (index ≡ rank key (entry ∷ entries)) × (has_key key (entry ∷ entries) ≡ true)
  found_later key entry entries greater known zero other within is = let same = same_key key in cc
  found_later key entry entries greater known (suc index) other within is =
      let rest = known index other (omega arith) is in
      (ap suc rest.0 ∙ sym (rank_later key entry entries greater), ap is_some (value_later key entry entries greater) ∙ rest.1)

  -- an index at which the key stands is its rank
  found_at : (key : ℤ) (entries : List (ℤ × V)) → IsRising entries → (index : ℕ) (other : ℤ × V) → index < length entries → (get_or entries index other).0 ≡ key → (index ≡ rank key entries) × (has_key key entries ≡ true)
  found_at key entries rising =
      by_place key (λ (entries : List (ℤ × V)). (index : ℕ) (other : ℤ × V) → index < length entries → (get_or entries index other).0 ≡ key → (index ≡ rank key entries) × (has_key key entries ≡ true))
      (λ entries above index other within is. let less = above_at key entries above index other within in let same = same_key key in cc)
      (λ first entries above index other within is. found_here key first entries above index other within is)
      (λ entry entries greater known index other within is. found_later key entry entries greater known index other within is)
      entries rising

  -- an index that parts the keys below from those above is the rank of a key that isn't there
  missed_at : (key : ℤ) (entries : List (ℤ × V)) (index : ℕ) → index ≤ length entries → AllWithin (λ (entry : ℤ × V). int_cmp entry.0 key ≡ Less) entries 0 index → AllWithin (λ (entry : ℤ × V). int_cmp entry.0 key ≡ Greater) entries index (length entries) → (index ≡ rank key entries) × (has_key key entries ≡ false)
  missed_at key [] index within below above = (omega arith, refl)
  missed_at key (entry ∷ entries) zero within below above =
      let less : int_cmp key entry.0 ≡ Less = int_cmp_total.antisymm key entry.0 ∙ ap ordering_reverse (above 0 entry (omega arith) (omega arith)) in
      let rest = missed_at key entries zero (omega arith) (λ k other le lt. absurd (omega arith)) (λ k other le lt. above (suc k) other (omega arith) (omega arith)) in
      (rest.0 ∙ sym (rank_cons key entry entries Less less ∙ zero-add (rank key entries)), rw less rest.1)
  missed_at key (entry ∷ entries) (suc index) within below above =
      let greater : int_cmp key entry.0 ≡ Greater = int_cmp_total.antisymm key entry.0 ∙ ap ordering_reverse (below 0 entry (omega arith) (omega arith)) in
      let rest = missed_at key entries index (omega arith) (λ k other le lt. below (suc k) other (omega arith) (omega arith)) (λ k other le lt. above (suc k) other (omega arith) (omega arith)) in
      (ap suc rest.0 ∙ sym (rank_later key entry entries greater), ap is_some (value_later key entry entries greater) ∙ rest.1)

  -- what a binary search by the keys answers
  pub record Searched (key : ℤ) (entries : List (ℤ × V)) (answer : Result ℕ ℕ) : Type 0 where
    pub place : MatchResult answer (λ index. index ≡ rank key entries) (λ index. index ≡ rank key entries)
    pub found : is_ok answer ≡ has_key key entries

  -- a binary search by the keys ends at the key's rank, and tells whether the key is there
  pub searched : (key : ℤ) (entries : List (ℤ × V)) (answer : Result ℕ ℕ) → IsRising entries → IsSearchInRange answer (length entries) → IsBinarySearchResult (λ (entry : ℤ × V). int_cmp entry.0 key) entries answer → Searched key entries answer
  searched key [] (Ok index) rising within is = absurd (omega arith)
  searched key (entry ∷ entries) (Ok index) rising within is =
      let at = found_at key (entry ∷ entries) rising index entry within (exact_signed _ key (is entry)) in
      record { place = at.0; found = sym at.1 }
  searched key entries (Err index) rising within is =
      let sorted : IsSortedBy (λ (one other : ℤ × V). is_lt (int_cmp one.0 other.0)) entries = λ k other le within. rw add-one (sorted_from_rising entries rising k other (omega arith)) in
      let parted = is (searchable_from_sorted int_cmp_total (λ (entry : ℤ × V). entry.0) entries key sorted) in
      let at = missed_at key entries index within parted.0 parted.1 in
      record { place = at.0; found = sym at.1 }
