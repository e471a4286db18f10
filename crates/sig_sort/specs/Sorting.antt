-- What a sorted view gives for a difference of its list.
use Rattle.std.specs.Prelude.{ℕ, ◌-◌, ◌≤◌, ◌==◌, ℤ, pos, List, [], ◌∷◌, length, remove, slice_index_or, if◌then◌else◌}
use Rattle.sig_diff.specs.Differences.{IsLawful, applied}
use Rattle.sig_diff.specs.Sorting.{below, by_key, in_order, not_above}
use Rattle.sig_diff.specs.declared.differences.VecDiff.{VecDiff}
use Rattle.sig_diff.specs.declared.differences.VecDiff.TheVariants.{Replace, InsertAt, UpdateAt, RemoveAt, Move, Push, Pop, Clear}

-- what contracts see of the operator: its function, and the list that it stands for
pub record SortedList (M : Type 0) : Type 0 where
  pub mapper : M
  pub items : List ℤ

-- the operator of a list
abbrev pub sorted_of : {M : Type 0} → M → List ℤ → SortedList M
sorted_of mapper xs = record { mapper = mapper; items = xs }

-- the operator of the list after a difference
abbrev pub sorted_next : {M : Type 0} → SortedList M → VecDiff ℤ → SortedList M
sorted_next op diff = sorted_of op.mapper (applied op.items diff)

-- it can go a step by the difference: its places are counted in 32 bits
pub record SortedStep {M : Type 0} (op : SortedList M) (diff : VecDiff ℤ) : Type 0 where
  pub lawful : IsLawful diff (length op.items)
  pub short : length op.items ≤ 65536

-- another element comes for the one at an index, at a place of the others: where that is the index, it is an update
abbrev pub exchange : ℕ → ℕ → ℤ → List (VecDiff ℤ)
exchange at place x = if place == at then (UpdateAt at x ∷ []) else (RemoveAt at ∷ InsertAt place x ∷ [])

module _ (key : ℤ → ℤ) where
  -- the element at a place of the list
  abbrev pub element : List ℤ → ℕ → ℤ
  element xs place = slice_index_or xs place (pos 0)

  -- an element comes behind those that aren't above it, and goes from its rank
  abbrev pub comes : List ℤ → ℤ → VecDiff ℤ
  comes ys x = InsertAt (not_above (by_key key) x ys) x

  abbrev pub rank : List ℤ → ℤ → ℕ
  rank ys x = below (by_key key) x ys

  -- one that changes goes to where the new element belongs among the others
  abbrev pub changes : List ℤ → ℕ → ℤ → List (VecDiff ℤ)
  changes ys at x = exchange at (not_above (by_key key) x (remove ys at)) x

  -- by the list and the difference, over the list in order
  abbrev pub sorted_by : List ℤ → List ℤ → VecDiff ℤ → List (VecDiff ℤ)
  sorted_by xs ys (Replace values) = Replace (in_order (by_key key) values) ∷ []
  sorted_by xs ys (InsertAt index value) = comes ys value ∷ []
  sorted_by xs ys (UpdateAt index value) = changes ys (rank ys (element xs index)) value
  sorted_by xs ys (RemoveAt index) = RemoveAt (rank ys (element xs index)) ∷ []
  sorted_by xs ys (Move old_index new_index) = []
  sorted_by xs ys (Push value) = comes ys value ∷ []
  sorted_by xs ys Pop = RemoveAt (rank ys (element xs (length xs - 1))) ∷ []
  sorted_by xs ys Clear = Clear ∷ []

  abbrev pub sorted_gives : List ℤ → VecDiff ℤ → List (VecDiff ℤ)
  sorted_gives xs diff = sorted_by xs (in_order (by_key key) xs) diff
