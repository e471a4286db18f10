-- Lists in an order: where an element stands in one, and a list's elements in order.
use Rattle.std.specs.Prelude.{ℕ, ℤ, List, [], ◌∷◌, insert, IsPermutation}
use Rattle.std.specs.List.{count_by}
use Rattle.std.specs.List.Sorted.{IsSorted}
use Rattle.std.specs.declared.cmp.Ordering.{Ordering}
use Rattle.std.specs.Ordering.{int_cmp, is_lt, is_le, ordering_then}

-- numbers by (key of the number, the number)
abbrev pub by_key : (ℤ → ℤ) → ℤ → ℤ → Ordering
by_key key x y = ordering_then (int_cmp (key x) (key y)) (int_cmp x y)

module _ {T : Type 0} (order : T → T → Ordering) where
  -- how many elements are below x
  abbrev pub below : T → List T → ℕ
  below x xs = count_by (λ y. is_lt (order y x)) xs

  -- how many elements aren't above x
  abbrev pub not_above : T → List T → ℕ
  not_above x xs = count_by (λ y. is_le (order y x)) xs

  -- the elements in order
  abbrev pub in_order : List T → List T
  in_order [] = []
  in_order (x ∷ xs) = insert (in_order xs) (not_above x (in_order xs)) x

  -- the second list has the elements of the first, in order
  pub record IsInOrder (xs ys : List T) : Type 0 where
    pub same : IsPermutation xs ys
    pub sorted : IsSorted order ys
