-- Maps from numbers to values, as the list of their entries by rising keys.
use Rattle.std.specs.Prelude.{ℕ, ℤ, int_lt, Bool, not, IsTrue, List, map, Option, is_some}
use Rattle.std.specs.FinMap.{find, put, is_sorted}
use Rattle.std.specs.List.{filter, count_by, list_all}
use Rattle.std.specs.Ordering.{int_cmp, int_eq}

module _ {V : Type 0} where
  -- each key is below those after it
  abbrev pub IsRising : List (ℤ × V) → Type 0
  IsRising entries = IsTrue (is_sorted int_cmp entries)

  -- the key is above those of the entries
  abbrev pub IsAbove : ℤ → List (ℤ × V) → Type 0
  IsAbove key entries = IsTrue (list_all (λ entry. int_lt entry.0 key) entries)

  -- how many keys are below
  abbrev pub rank : ℤ → List (ℤ × V) → ℕ
  rank key entries = count_by (λ entry. int_lt entry.0 key) entries

  -- the value at the key, where the map has one
  abbrev pub value_at : ℤ → List (ℤ × V) → Option V
  value_at key entries = find int_cmp key entries

  abbrev pub has_key : ℤ → List (ℤ × V) → Bool
  has_key key entries = is_some (value_at key entries)

  -- the map in which the key has the value
  abbrev pub with_value : ℤ → V → List (ℤ × V) → List (ℤ × V)
  with_value key value entries = put int_cmp key value entries

  -- the map without the key
  abbrev pub without : ℤ → List (ℤ × V) → List (ℤ × V)
  without key entries = filter (λ entry. not (int_eq key entry.0)) entries

  -- the keys and the values, by rising keys
  abbrev pub keys_of : List (ℤ × V) → List ℤ
  keys_of entries = map (λ entry. entry.0) entries

  abbrev pub values_of : List (ℤ × V) → List V
  values_of entries = map (λ entry. entry.1) entries

-- the map with the function at each value
abbrev pub values_mapped : {V U : Type 0} → (V → U) → List (ℤ × V) → List (ℤ × U)
values_mapped f entries = map (λ entry. (entry.0, f entry.1)) entries
