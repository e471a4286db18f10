-- What maps, filters and sorted lists give for differences of their lists.
use Rattle.std.proofs.Common.{◌≡◌, ℤ, List, [], ◌∷◌, ◌++◌, Bool, refl, ap}
use Rattle.std.specs.List.{flat_map}
use Rattle.sig_diff.specs.declared.differences.VecDiff.{VecDiff}
use Rattle.sig_ops.specs.Filtering.{Filter, filter_next}
use Rattle.sig_ops.specs.Following.{all_given}
use Rattle.sig_ops.specs.Tables.{filter_gives}
use Rattle.sig_sort.specs.Sorting.{SortedList, sorted_gives, sorted_next}
use Rattle.sig_rows.specs.Flow.{through}

module _ {M T U : Type 0} (gives : M → VecDiff T → List (VecDiff U)) where
  pub map_gives_all : (mapper : M) (diffs : List (VecDiff T)) → all_given (λ mapper diff. mapper) gives mapper diffs ≡ flat_map (gives mapper) diffs
  map_gives_all mapper [] = refl
  map_gives_all mapper (diff ∷ diffs) = ap (λ (later : List (VecDiff U)). gives mapper diff ++ later) (map_gives_all mapper diffs)

module _ {P T : Type 0} (passes : P → T → Bool) where
  pub filter_gives_all : (filter : Filter P T) (diffs : List (VecDiff T)) →
      all_given filter_next (λ filter diff. filter_gives (passes filter.tester) filter.items diff) filter diffs ≡ through (filter_gives (passes filter.tester)) filter.items diffs
  filter_gives_all filter [] = refl
  filter_gives_all filter (diff ∷ diffs) = ap (λ (later : List (VecDiff T)). filter_gives (passes filter.tester) filter.items diff ++ later) (filter_gives_all (filter_next filter diff) diffs)

module _ {M : Type 0} (maps : M → ℤ → ℤ) where
  pub sorted_gives_all : (op : SortedList M) (diffs : List (VecDiff ℤ)) →
      all_given sorted_next (λ op diff. sorted_gives (maps op.mapper) op.items diff) op diffs ≡ through (sorted_gives (maps op.mapper)) op.items diffs
  sorted_gives_all op [] = refl
  sorted_gives_all op (diff ∷ diffs) = ap (λ (later : List (VecDiff ℤ)). sorted_gives (maps op.mapper) op.items diff ++ later) (sorted_gives_all (sorted_next op diff) diffs)
