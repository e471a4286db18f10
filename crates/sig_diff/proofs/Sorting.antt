-- The elements of a list in order: there is one such list, and what an edit of the list does to it.
use Rattle.std.proofs.Common.{◌≡◌, ◌∙◌, ℕ, zero, suc, ◌+◌, ◌≤◌, ℤ, Bool, true, false, cond, not, List, [], ◌∷◌, length, insert, remove, slice_get, count_by, Some, IsPermutation, IsSorted, Ordering, Less, Equal, Greater, is_lt, is_le, refl, sym, ap, true≢false, arith}
use Rattle.std.specs.Cmp.{IsTotalOrder}
use Rattle.std.specs.FinMap.{IsAntisymmetric, int_cmp-IsAntisymmetric}
use Rattle.std.specs.Ordering.{int_cmp, ordering_then, ordering_reverse}
use Rattle.std.proofs.lemmas.Bool.{true_from_ne_false, not-true, not-false}
use Rattle.std.proofs.lemmas.Cmp.{int_cmp_total, on_total, then_total, tied_itself}
use Rattle.std.proofs.lemmas.List.Sorted.{ranks_by, IsPermutation-refl, IsPermutation-sym, IsPermutation-cons, IsPermutation-trans, IsPermutation-insert, IsPermutation-remove, length_permutation, sum_by-IsPermutation}
use Rattle.std.proofs.lemmas.List.Sums.{sum_by-cons, sum_by-insert, sum_by-le-sum_by, count_by-le-length}
use Rattle.std.proofs.lemmas.Option.{slice_get_within, get_or_from_slice_get}
use Rattle.sig_diff.specs.Sorting.{IsInOrder, by_key, below, not_above, in_order}

-- ---- tests and counts

term_le : (a b : Bool) → (b ≡ false → a ≡ false) → cond a 1 0 ≤ cond b 1 0
term_le true true h = omega arith
term_le true false h = absurd (true≢false (h refl))
term_le false b h = omega arith

term_none : (a : Bool) (n : ℕ) → cond a 1 0 + n ≡ 0 → a ≡ false
term_none true n h = absurd (omega arith)
term_none false n h = refl

counted : (a : Bool) (n : ℕ) → a ≡ true → cond a 1 0 + n ≡ suc n
counted a n is = rw is (omega arith)

passed : (a : Bool) (n : ℕ) → a ≡ false → cond a 1 0 + n ≡ n
passed a n is = rw is (omega arith)

reversed_le : (o : Ordering) → is_le (ordering_reverse o) ≡ not (is_lt o)
reversed_le Less = refl
reversed_le Equal = refl
reversed_le Greater = refl

neither : (o : Ordering) → is_lt o ≡ false → is_lt (ordering_reverse o) ≡ false → o ≡ Equal
neither Less a b = absurd (true≢false a)
neither Equal a b = refl
neither Greater a b = absurd (true≢false b)

-- ---- an inserted element

remove_inserted : {T : Type 0} (xs : List T) (at : ℕ) (x : T) → at ≤ length xs → remove (insert xs at x) at ≡ xs
remove_inserted xs zero x within = refl
remove_inserted [] (suc at) x within = absurd (omega arith)
remove_inserted (y ∷ xs) (suc at) x within = ap (λ ys. y ∷ ys) (remove_inserted xs at x (omega arith))

get_inserted : {T : Type 0} (xs : List T) (at : ℕ) (x : T) → at ≤ length xs → slice_get (insert xs at x) at ≡ Some x
get_inserted xs zero x within = refl
get_inserted [] (suc at) x within = absurd (omega arith)
get_inserted (y ∷ xs) (suc at) x within = get_inserted xs at x (omega arith)

module _ {T : Type 0} (order : T → T → Ordering) where
  -- at most all elements are below one
  pub below_within : (x : T) (xs : List T) → below order x xs ≤ length xs
  below_within x xs = count_by-le-length (λ y. is_lt (order y x)) xs

  -- at most all elements aren't above one
  pub not_above_within : (x : T) (xs : List T) → not_above order x xs ≤ length xs
  not_above_within x xs = count_by-le-length (λ y. is_le (order y x)) xs

  -- no element is below one before it
  abbrev Ascends : List T → Type 0
  Ascends [] = Unit {0}
  Ascends (x ∷ xs) = (below order x xs ≡ 0) × Ascends xs

  below_cons : (x y : T) (ys : List T) → below order x (y ∷ ys) ≡ cond (is_lt (order y x)) 1 0 + below order x ys
  below_cons x y ys = sum_by-cons (λ z. cond (is_lt (order z x)) 1 0) y ys

  not_above_cons : (x y : T) (ys : List T) → not_above order x (y ∷ ys) ≡ cond (is_le (order y x)) 1 0 + not_above order x ys
  not_above_cons x y ys = sum_by-cons (λ z. cond (is_le (order z x)) 1 0) y ys

  -- the elements in order are a permutation of the list
  pub in_order_permutation : (xs : List T) → IsPermutation xs (in_order order xs)
  in_order_permutation [] = IsPermutation-refl []
  in_order_permutation (x ∷ xs) =
      let rest : List T = in_order order xs in
      IsPermutation-trans (x ∷ xs) (x ∷ rest) (insert rest (not_above order x rest) x) (IsPermutation-cons x xs rest (in_order_permutation xs)) (IsPermutation-insert rest (not_above order x rest) x)

  -- the elements in order are as many as the list's
  pub length_in_order : (xs : List T) → length (in_order order xs) ≡ length xs
  length_in_order xs = length_permutation xs (in_order order xs) (in_order_permutation xs)

module _ {T : Type 0} {order : T → T → Ordering} (total : IsTotalOrder order) where
  le_is : (x y : T) → is_le (order x y) ≡ not (is_lt (order y x))
  le_is x y = rw (total.antisymm x y) (reversed_le (order y x))

  below_le : (x y : T) (xs : List T) → is_lt (order y x) ≡ false → below order x xs ≤ below order y xs
  below_le x y xs le =
      sum_by-le-sum_by (λ z. cond (is_lt (order z x)) 1 0) (λ z. cond (is_lt (order z y)) 1 0) xs
      (λ z. term_le (is_lt (order z x)) (is_lt (order z y)) (λ no. (ranks_by total (λ (a : T). a)).chain z y x no le))

  not_above_le : (x y : T) (xs : List T) → is_lt (order x y) ≡ true → not_above order x xs ≤ below order y xs
  not_above_le x y xs lt =
      sum_by-le-sum_by (λ z. cond (is_le (order z x)) 1 0) (λ z. cond (is_lt (order z y)) 1 0) xs
      (λ z. term_le (is_le (order z x)) (is_lt (order z y)) (λ no.
      let above : is_lt (order x z) ≡ true = true_from_ne_false (is_lt (order x z)) (λ up. true≢false (sym lt ∙ (ranks_by total (λ (a : T). a)).chain x z y up no)) in
      rw (le_is z x, above) refl))

  -- where y is not above the rest and not below x
  below_first : (x y : T) (ys : List T) → is_lt (order y x) ≡ false → below order y ys ≡ 0 → below order x (y ∷ ys) ≡ 0
  below_first x y ys le none = below_cons order x y ys ∙ passed (is_lt (order y x)) (below order x ys) le ∙ omega (arith, below_le x y ys le, none)

  -- ---- lists that ascend

  ascends_from_sorted : (xs : List T) → IsSorted order xs → Ascends order xs
  ascends_from_sorted [] sorted = tt
  ascends_from_sorted (x ∷ []) sorted = (refl, tt)
  ascends_from_sorted (x ∷ y ∷ ys) sorted =
      let first : is_lt (order y x) ≡ false = sorted 0 x (omega arith) (omega arith) in
      let rest = ascends_from_sorted (y ∷ ys) (λ k d from within. let next : suc k + 1 ≡ suc (k + 1) = omega arith in rw next at (sorted (suc k) d (omega arith) (omega arith))) in
      (below_first x y ys first rest.0, rest)

  sorted_from_ascends : (xs : List T) → Ascends order xs → IsSorted order xs
  sorted_from_ascends [] up k d from within = absurd (omega arith)
  sorted_from_ascends (x ∷ []) up k d from within = absurd (omega arith)
  sorted_from_ascends (x ∷ y ∷ ys) up zero d from within = term_none (is_lt (order y x)) (below order x ys) (sym (below_cons order x y ys) ∙ up.0)
  sorted_from_ascends (x ∷ y ∷ ys) up (suc k) d from within =
      let next : suc k + 1 ≡ suc (k + 1) = omega arith in rw next (sorted_from_ascends (y ∷ ys) up.1 k d (omega arith) (omega arith))

  -- ---- an element put in

  is_above : (x y : T) → is_le (order x y) ≡ false → is_lt (order y x) ≡ true
  is_above x y above = not-false (is_lt (order y x)) (sym (le_is x y) ∙ above)

  not_below : (x y : T) → is_le (order x y) ≡ true → is_lt (order y x) ≡ false
  not_below x y le = not-true (is_lt (order y x)) (sym (le_is x y) ∙ le)

  -- behind an element that isn't above, or is below
  not_above_behind : (x y : T) (ys : List T) → is_le (order y x) ≡ true → not_above order x (y ∷ ys) ≡ suc (not_above order x ys)
  not_above_behind x y ys le = not_above_cons order x y ys ∙ counted (is_le (order y x)) (not_above order x ys) le

  below_behind : (x y : T) (ys : List T) → is_lt (order y x) ≡ true → below order x (y ∷ ys) ≡ suc (below order x ys)
  below_behind x y ys lt = below_cons order x y ys ∙ counted (is_lt (order y x)) (below order x ys) lt

  -- before an element that is above, and so before the rest
  not_above_first : (x y : T) (ys : List T) → is_le (order y x) ≡ false → Ascends order (y ∷ ys) → not_above order x (y ∷ ys) ≡ 0
  not_above_first x y ys above up =
      not_above_cons order x y ys ∙ passed (is_le (order y x)) (not_above order x ys) above ∙ omega (arith, not_above_le x y ys (is_above y x above), up.0)

  ascends_put : (x y : T) (ys : List T) (le : Bool) → is_le (order y x) ≡ le → Ascends order (y ∷ ys) → Ascends order (insert ys (not_above order x ys) x) → Ascends order (insert (y ∷ ys) (not_above order x (y ∷ ys)) x)
  ascends_put x y ys true le up rest =
      let none : below order y (insert ys (not_above order x ys) x) ≡ 0 =
      sum_by-insert (λ z. cond (is_lt (order z y)) 1 0) ys (not_above order x ys) x ∙ omega (arith, up.0, passed (is_lt (order x y)) 0 (not_below y x le)) in
      rw (not_above_behind x y ys le) (none, rest)
  ascends_put x y ys false le up rest =
      rw (not_above_first x y ys le up) (below_first x y ys ((ranks_by total (λ (a : T). a)).one_way x y (is_above y x le)) up.0, up)

  ascends_in_order : (xs : List T) → Ascends order (in_order order xs)
  ascends_in_order [] = tt
  ascends_in_order (x ∷ xs) = along x (in_order order xs) (ascends_in_order xs)
    where
      along : (x : T) (ys : List T) → Ascends order ys → Ascends order (insert ys (not_above order x ys) x)
      along x [] up = (refl, tt)
      along x (y ∷ ys) up = ascends_put x y ys (is_le (order y x)) refl up (along x ys up.1)

  -- the elements in order are sorted
  pub in_order_sorted : (xs : List T) → IsSorted order (in_order order xs)
  in_order_sorted xs = sorted_from_ascends (in_order order xs) (ascends_in_order xs)

  -- ---- where elements that the order finds equal are the same

  module _ (same : IsAntisymmetric order) where
    same_first : (x y : T) (xs ys : List T) → Ascends order (x ∷ xs) → Ascends order (y ∷ ys) → ((p : T → Bool) → count_by p (x ∷ xs) ≡ count_by p (y ∷ ys)) → is_lt (order x y) ≡ false
    same_first x y xs ys up_x up_y counts =
        let itself : is_lt (order y y) ≡ false = ap is_lt (tied_itself total y) in
        let none : below order y (y ∷ ys) ≡ 0 = below_cons order y y ys ∙ passed (is_lt (order y y)) (below order y ys) itself ∙ up_y.0 in
        term_none (is_lt (order x y)) (below order y xs) (sym (below_cons order y x xs) ∙ counts (λ z. is_lt (order z y)) ∙ none)

    -- lists that ascend and have the same elements are the same
    ascends_unique : (xs ys : List T) → Ascends order xs → Ascends order ys → ((p : T → Bool) → count_by p xs ≡ count_by p ys) → xs ≡ ys
    ascends_unique [] [] up_x up_y counts = refl
    ascends_unique [] (y ∷ ys) up_x up_y counts = absurd (omega (arith, counts (λ z. true), sum_by-cons (λ (z : T). cond true 1 0) y ys))
    ascends_unique (x ∷ xs) [] up_x up_y counts = absurd (omega (arith, counts (λ z. true), sum_by-cons (λ (z : T). cond true 1 0) x xs))
    ascends_unique (x ∷ xs) (y ∷ ys) up_x up_y counts =
        let low : is_lt (order x y) ≡ false = same_first x y xs ys up_x up_y counts in
        let high : is_lt (order y x) ≡ false = same_first y x ys xs up_y up_x (λ p. sym (counts p)) in
        let heads : x ≡ y = same x y (neither (order x y) low (rw (total.antisymm y x) at high)) in
        let tails = ascends_unique xs ys up_x.1 up_y.1 (λ p. omega (arith, counts p, sum_by-cons (λ z. cond (p z) 1 0) x xs, sum_by-cons (λ z. cond (p z) 1 0) y ys, ap {B = ℕ} (λ z. cond (p z) 1 0) heads)) in
        cc

    -- a sorted permutation of a list, as a sort gives it, is the elements in order
    pub in_order_unique : (xs ys : List T) → IsPermutation xs ys → IsSorted order ys → ys ≡ in_order order xs
    in_order_unique xs ys moved sorted =
        ascends_unique ys (in_order order xs) (ascends_from_sorted ys sorted) (ascends_in_order xs)
        (λ p. sum_by-IsPermutation (λ z. cond (p z) 1 0) xs ys moved ∙ sym (sum_by-IsPermutation (λ z. cond (p z) 1 0) xs (in_order order xs) (in_order_permutation order xs)))

    -- a permutation of a list has the same elements in order
    pub in_order_permuted : (xs ys : List T) → IsPermutation xs ys → in_order order xs ≡ in_order order ys
    in_order_permuted xs ys moved =
        in_order_unique ys (in_order order xs) (IsPermutation-trans ys xs (in_order order xs) (IsPermutation-sym xs ys moved) (in_order_permutation order xs)) (in_order_sorted xs)

    -- a new element comes in at its place, wherever it stands in the list
    pub in_order_insert : (xs : List T) (at : ℕ) (x : T) → in_order order (insert xs at x) ≡ insert (in_order order xs) (not_above order x (in_order order xs)) x
    in_order_insert xs at x = in_order_permuted (insert xs at x) (x ∷ xs) (IsPermutation-sym (x ∷ xs) (insert xs at x) (IsPermutation-insert xs at x))

    put_case : (x y : T) (ys : List T) (o : Ordering) → order y x ≡ o → Ascends order (y ∷ ys) → insert ys (not_above order x ys) x ≡ insert ys (below order x ys) x →
        insert (y ∷ ys) (not_above order x (y ∷ ys)) x ≡ insert (y ∷ ys) (below order x (y ∷ ys)) x
    put_case x y ys Less is up rest = rw (not_above_behind x y ys (ap is_le is), below_behind x y ys (ap is_lt is)) (ap (λ zs. y ∷ zs) rest)
    put_case x y ys Equal is up rest =
        let none : below order x ys ≡ 0 = omega (arith, below_le x y ys (ap is_lt is), up.0) in
        let alike : y ≡ x = same y x is in
        let later : insert ys (not_above order x ys) x ≡ x ∷ ys = rest ∙ ap (λ n. insert ys n x) none in
        rw (not_above_behind x y ys (ap is_le is), below_first x y ys (ap is_lt is) up.0) (cc)
    put_case x y ys Greater is up rest = rw (not_above_first x y ys (ap is_le is) up, below_first x y ys (ap is_lt is) up.0) refl

    -- an element may as well come in before its equals
    put_before : (x : T) (ys : List T) → Ascends order ys → insert ys (not_above order x ys) x ≡ insert ys (below order x ys) x
    put_before x [] up = refl
    put_before x (y ∷ ys) up = put_case x y ys (order y x) refl up (put_before x ys up.1)

    -- the elements in order are those left with the removed one at its place
    put_back : (xs : List T) (at : ℕ) (x : T) → slice_get xs at ≡ Some x →
        let left : List T = in_order order (remove xs at) in
        (in_order order xs ≡ insert left (below order x left) x) × (below order x (in_order order xs) ≡ below order x left)
    put_back xs at x found =
        let left : List T = in_order order (remove xs at) in
        let moved : IsPermutation xs (x ∷ remove xs at) = IsPermutation-remove xs at x (slice_get_within xs at x found) (sym (get_or_from_slice_get xs at x x found)) in
        let whole : in_order order xs ≡ insert left (below order x left) x = in_order_permuted xs (x ∷ remove xs at) moved ∙ put_before x left (ascends_in_order (remove xs at)) in
        let itself : is_lt (order x x) ≡ false = ap is_lt (tied_itself total x) in
        let place : below order x (in_order order xs) ≡ below order x left =
        ap (λ zs. below order x zs) whole ∙ sum_by-insert (λ z. cond (is_lt (order z x)) 1 0) left (below order x left) x ∙ omega (arith, passed (is_lt (order x x)) 0 itself) in
        (whole, place)

    -- an element that goes is taken out at its place
    pub in_order_remove : (xs : List T) (at : ℕ) (x : T) → slice_get xs at ≡ Some x → in_order order (remove xs at) ≡ remove (in_order order xs) (below order x (in_order order xs))
    in_order_remove xs at x found =
        let left : List T = in_order order (remove xs at) in
        let back = put_back xs at x found in
        rw (back.1, back.0) (sym (remove_inserted left (below order x left) x (below_within order x left)))

    -- the place of an element of the list holds it
    pub in_order_at : (xs : List T) (at : ℕ) (x : T) → slice_get xs at ≡ Some x → slice_get (in_order order xs) (below order x (in_order order xs)) ≡ Some x
    in_order_at xs at x found =
        let left : List T = in_order order (remove xs at) in
        let back = put_back xs at x found in
        rw (back.1, back.0) (get_inserted left (below order x left) x (below_within order x left))

-- the order of numbers by their keys, and then by themselves, is total
pub by_key_total : (key : ℤ → ℤ) → IsTotalOrder (by_key key)
by_key_total key = then_total (on_total key int_cmp_total) int_cmp_total

then_equal : (o p : Ordering) → ordering_then o p ≡ Equal → p ≡ Equal
then_equal Less p is = cc
then_equal Equal p is = is
then_equal Greater p is = cc

-- numbers that this order finds equal are the same
pub by_key_antisymmetric : (key : ℤ → ℤ) → IsAntisymmetric (by_key key)
by_key_antisymmetric key x y is = int_cmp-IsAntisymmetric x y (then_equal (int_cmp (key x) (key y)) (int_cmp x y) is)

-- numbers in the order of their keys are a sorted permutation
pub in_order_by_key : (key : ℤ → ℤ) (xs ys : List ℤ) → ys ≡ in_order (by_key key) xs → IsInOrder (by_key key) xs ys
in_order_by_key key xs ys is =
    rw is (record { same = in_order_permutation (by_key key) xs; sorted = in_order_sorted (by_key_total key) xs })
