-- What a search in a list in order finds, and what a step makes of that list.
use Rattle.std.proofs.Common.{◌≡◌, ◌∙◌, ℕ, zero, suc, ◌+◌, ◌≤◌, ◌<◌, ℤ, Bool, true, false, cond, not, List, [], ◌∷◌, length, get_or, remove, count_by, IsSorted, Ordering, Less, Equal, Greater, is_lt, is_le, refl, sym, ap, true≢false, arith}
use Rattle.std.specs.Cmp.{IsTotalOrder}
use Rattle.std.specs.Ordering.{ordering_reverse}
use Rattle.std.specs.List.Sorted.{IsPartitionPoint, IsPartitionedBy}
use Rattle.std.proofs.lemmas.Bool.{true_from_ne_false, not-true}
use Rattle.std.proofs.lemmas.List.Sorted.{ranks_by, sorted_far}
use Rattle.std.proofs.lemmas.List.Sums.{sum_by-cons, sum_by-remove}
use Rattle.sig_diff.specs.Differences.{IsLawful, applied}
use Rattle.sig_diff.specs.Replaying.{replayed}
use Rattle.sig_diff.specs.Sorting.{by_key, in_order, not_above}
use Rattle.sig_diff.specs.declared.differences.VecDiff.{VecDiff}
use Rattle.sig_diff.proofs.Sorting.{by_key_total, in_order_sorted, length_in_order}
use Rattle.sig_diff.specs.declared.differences.VecDiff.TheVariants.{UpdateAt}
use Rattle.sig_sort.specs.Sorting.{sorted_by, element, rank, exchange, changes}
use Rattle.sig_sort.specs.laws.Sorting.{sorted_leads, rank_within}

module _ {T : Type 0} (test : T → Bool) where
  none_pass : (xs : List T) → ((k : ℕ) (d : T) → k < length xs → test (get_or xs k d) ≡ false) → count_by test xs ≡ 0
  none_pass [] fail = refl
  none_pass (x ∷ xs) fail =
      let first : ◌≡◌ {A = ℕ} (cond (test x) 1 0) 0 = ap {B = ℕ} (λ b. cond b 1 0) (fail 0 x (omega arith)) in
      let rest : count_by test xs ≡ 0 = none_pass xs (λ k d within. fail (suc k) d (omega arith)) in
      sum_by-cons (λ y. cond (test y) 1 0) x xs ∙ omega (arith, first, rest)

  -- a partition point is how many pass
  pub count_at_point : (xs : List T) (place : ℕ) → place ≤ length xs → IsPartitionPoint (λ y. test y ≡ true) (λ y. test y ≡ false) xs place → place ≡ count_by test xs
  count_at_point xs zero within point = sym (none_pass xs (λ k d below. point.1 k d (omega arith) below))
  count_at_point [] (suc place) within point = absurd (omega arith)
  count_at_point (x ∷ xs) (suc place) within point =
      let first : ◌≡◌ {A = ℕ} (cond (test x) 1 0) 1 = ap {B = ℕ} (λ b. cond b 1 0) (point.0 0 x (omega arith) (omega arith)) in
      let rest : place ≡ count_by test xs = count_at_point xs place (omega arith) (λ k d from to. point.0 (suc k) d (omega arith) (omega arith), λ k d from to. point.1 (suc k) d (omega arith) (omega arith)) in
      sym (sum_by-cons (λ y. cond (test y) 1 0) x xs ∙ omega (arith, first, rest))

  -- how many pass without an element that passes, and without one that doesn't
  pub count_without_one : (xs : List T) (at : ℕ) (d : T) → at < length xs → test (get_or xs at d) ≡ true → count_by test (remove xs at) + 1 ≡ count_by test xs
  count_without_one xs at d within passes =
      let one : ◌≡◌ {A = ℕ} (cond (test (get_or xs at d)) 1 0) 1 = ap {B = ℕ} (λ b. cond b 1 0) passes in
      omega (arith, one, sum_by-remove (λ y. cond (test y) 1 0) xs at d within)

  pub count_without_other : (xs : List T) (at : ℕ) (d : T) → at < length xs → test (get_or xs at d) ≡ false → count_by test (remove xs at) ≡ count_by test xs
  count_without_other xs at d within fails =
      let none : ◌≡◌ {A = ℕ} (cond (test (get_or xs at d)) 1 0) 0 = ap {B = ℕ} (λ b. cond b 1 0) fails in
      omega (arith, none, sum_by-remove (λ y. cond (test y) 1 0) xs at d within)

reversed_le : (o : Ordering) → is_le (ordering_reverse o) ≡ not (is_lt o)
reversed_le Less = refl
reversed_le Equal = refl
reversed_le Greater = refl

module _ {T : Type 0} {order : T → T → Ordering} (total : IsTotalOrder order) (xs : List T) (x : T) (up : IsSorted order xs) where
  far : (i j : ℕ) (d : T) → i ≤ j → j < length xs → is_lt (order (get_or xs j d) (get_or xs i d)) ≡ false
  far i j d le within = sorted_far (λ y z. is_lt (order y z)) (ranks_by total (λ (a : T). a)) xs up i j d le within

  -- those below x come first
  pub parted_below : IsPartitionedBy (λ y. is_lt (order y x)) xs
  parted_below i j d le within passes =
      true_from_ne_false (is_lt (order (get_or xs i d) x)) (λ fails. true≢false (sym passes ∙ (ranks_by total (λ (a : T). a)).chain (get_or xs j d) (get_or xs i d) x (far i j d le within) fails))

  le_is : (y : T) → is_le (order y x) ≡ not (is_lt (order x y))
  le_is y = rw (total.antisymm y x) (reversed_le (order x y))

  -- those not above x come first
  pub parted_not_above : IsPartitionedBy (λ y. is_le (order y x)) xs
  parted_not_above i j d le within passes =
      let later : is_lt (order x (get_or xs j d)) ≡ false = not-true (is_lt (order x (get_or xs j d))) (sym (le_is (get_or xs j d)) ∙ passes) in
      le_is (get_or xs i d) ∙ ap not ((ranks_by total (λ (a : T). a)).chain x (get_or xs j d) (get_or xs i d) later (far i j d le within))

module _ (key : ℤ → ℤ) (xs ys : List ℤ) (is : ys ≡ in_order (by_key key) xs) where
  pub ascends : IsSorted (by_key key) ys
  ascends = rw is (in_order_sorted (by_key_total key) xs)

  pub stays_short : length xs ≤ 65536 → length ys ≤ 65536
  stays_short short = omega (arith, short, length_in_order (by_key key) xs, ap length is)

  -- the list in order after a difference
  pub in_order_next : (diff : VecDiff ℤ) → IsLawful diff (length xs) →
      replayed ys (sorted_by key xs ys diff) ≡ in_order (by_key key) (applied xs diff)
  in_order_next diff lawful = ap (λ zs. replayed zs (sorted_by key xs zs diff)) is ∙ (sorted_leads key xs diff lawful).replay

  pub rank_below : (index place : ℕ) → index < length xs → place ≡ rank key ys (element key xs index) → place < length ys
  rank_below index place within at = rw (at, is) (rank_within key xs index within)

module _ (key : ℤ → ℤ) (ys : List ℤ) (x y : ℤ) (same : y ≡ x) where
  pub changes_is : (zs : List ℤ) (at place : ℕ) → zs ≡ ys → place ≡ not_above (by_key key) y (remove zs at) → exchange at place y ≡ changes key ys at x
  changes_is zs at place alike is =
      let there : place ≡ not_above (by_key key) x (remove ys at) = is ∙ (λ i. not_above (by_key key) (same i) (remove (alike i) at)) in
      λ i. exchange at (there i) (same i)

  pub updates_is : (xs zs : List ℤ) (index place : ℕ) → zs ≡ ys → place ≡ rank key zs (element key xs index) → changes key ys place y ≡ sorted_by key xs ys (UpdateAt index x)
  updates_is xs zs index place alike is =
      let there : place ≡ rank key ys (element key xs index) = is ∙ (λ i. rank key (alike i) (element key xs index)) in
      λ i. changes key ys (there i) (same i)

  pub update_arm : (xs : List ℤ) (diff : VecDiff ℤ) (index : ℕ) → diff ≡ UpdateAt index x → sorted_by key xs ys (UpdateAt index y) ≡ sorted_by key xs ys diff
  update_arm xs diff index is = (λ i. sorted_by key xs ys (UpdateAt index (same i))) ∙ ap (sorted_by key xs ys) (sym is)
