-- A function at each value of a map keeps its keys, and so their order.
use Rattle.std.proofs.Common.{◌≡◌, ℤ, ◌&&◌, List, [], ◌∷◌, length, is_lt, int_cmp, refl, ap, ap₂}
use Rattle.std.specs.FinMap.Entries.{below_all, is_sorted}
use Rattle.std.proofs.lemmas.List.{length-map}
use Rattle.std.proofs.lemmas.Map.Made.{keys_of-map_values}
use Rattle.sig_diff.specs.Entries.{IsRising, keys_of, values_mapped}

module _ {V U : Type 0} (f : V → U) where
  -- the keys stay
  pub keys_values_mapped : (entries : List (ℤ × V)) → keys_of (values_mapped f entries) ≡ keys_of entries
  keys_values_mapped entries = keys_of-map_values f entries

  -- and their number
  pub length_values_mapped : (entries : List (ℤ × V)) → length (values_mapped f entries) ≡ length entries
  length_values_mapped entries = length-map entries (λ entry. (entry.0, f entry.1))

  below_values_mapped : (key : ℤ) (entries : List (ℤ × V)) → below_all int_cmp key (values_mapped f entries) ≡ below_all int_cmp key entries
  below_values_mapped key [] = refl
  below_values_mapped key (entry ∷ entries) = ap (λ rest. is_lt (int_cmp key entry.0) && rest) (below_values_mapped key entries)

  sorted_values_mapped : (entries : List (ℤ × V)) → is_sorted int_cmp (values_mapped f entries) ≡ is_sorted int_cmp entries
  sorted_values_mapped [] = refl
  sorted_values_mapped (entry ∷ entries) = ap₂ ◌&&◌ (below_values_mapped entry.0 entries) (sorted_values_mapped entries)

  -- and their order
  pub rising_values_mapped : (entries : List (ℤ × V)) → IsRising entries → IsRising (values_mapped f entries)
  rising_values_mapped entries rising = rw (sorted_values_mapped entries) rising
