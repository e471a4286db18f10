-- What views of a map give for one difference of it. A key stands in the list of a map at the place of its rank: how many keys are below.
use Rattle.std.specs.Prelude.{◌≡◌, ℤ, List, [], ◌∷◌, length, insert, remove, slice_set, Bool, true, false, if◌then◌else◌}
use Rattle.sig_diff.specs.Entries.{IsRising, has_key, keys_of, rank, values_mapped, values_of, with_value, without}
use Rattle.sig_diff.specs.declared.differences.VecDiff.{VecDiff}
use Rattle.sig_diff.specs.declared.differences.VecDiff.TheVariants.{InsertAt, UpdateAt, RemoveAt}
use Rattle.sig_diff.specs.declared.differences.VecDiff.TheVariants as list
use Rattle.sig_diff.specs.declared.map_differences.MapDiff.{MapDiff}
use Rattle.sig_diff.specs.declared.map_differences.MapDiff.TheVariants.{Replace, Insert, Update, Remove, Clear}
use Rattle.sig_ops.specs.Tables.{if_so}

-- a list of a map has an item for each entry. By value, it changes where a value does
abbrev pub list_gives : {V T : Type 0} → (List (ℤ × V) → List T) → (ℤ → V → T) → Bool →
    List (ℤ × V) → MapDiff V → List (VecDiff T)
list_gives shown item by_value entries (Replace others) = list.Replace (shown others) ∷ []
list_gives shown item by_value entries (Insert key value) = InsertAt (rank key entries) (item key value) ∷ []
list_gives shown item by_value entries (Update key value) = if_so by_value (UpdateAt (rank key entries) (item key value))
list_gives shown item by_value entries (Remove key) = RemoveAt (rank key entries) ∷ []
list_gives shown item by_value entries Clear = list.Clear ∷ []

module _ {V : Type 0} where
  -- the keys
  abbrev pub keys_gives : List (ℤ × V) → MapDiff V → List (VecDiff ℤ)
  keys_gives = list_gives keys_of (λ key value. key) false

  -- the values, in the order of their keys
  abbrev pub values_gives : List (ℤ × V) → MapDiff V → List (VecDiff V)
  values_gives = list_gives values_of (λ key value. value) true

  -- the pairs, in the order of their keys
  abbrev pub entries_gives : List (ℤ × V) → MapDiff V → List (VecDiff (ℤ × V))
  entries_gives = list_gives (λ entries. entries) (λ key value. (key, value)) true

-- a list of maps: an edit of the map at a key is one of the list at the key's rank
pub record IsListing {V T : Type 0} (shown : List (ℤ × V) → List T) (item : ℤ → V → T) (by_value : Bool) : Type 0 where
  pub empty : shown [] ≡ []
  pub long : (entries : List (ℤ × V)) → length (shown entries) ≡ length entries
  pub new : (key : ℤ) (value : V) (entries : List (ℤ × V)) → IsRising entries → has_key key entries ≡ false →
      shown (with_value key value entries) ≡ insert (shown entries) (rank key entries) (item key value)
  pub known : (key : ℤ) (value : V) (entries : List (ℤ × V)) → IsRising entries → has_key key entries ≡ true →
      shown (with_value key value entries) ≡
      (if by_value then slice_set (shown entries) (rank key entries) (item key value) else shown entries)
  pub gone : (key : ℤ) (entries : List (ℤ × V)) → IsRising entries → has_key key entries ≡ true →
      shown (without key entries) ≡ remove (shown entries) (rank key entries)

-- the map with a function at its values: the same difference, with the function at its values
abbrev pub map_value_gives : {V U : Type 0} → (V → U) → MapDiff V → List (MapDiff U)
map_value_gives f (Replace entries) = Replace (values_mapped f entries) ∷ []
map_value_gives f (Insert key value) = Insert key (f value) ∷ []
map_value_gives f (Update key value) = Update key (f value) ∷ []
map_value_gives f (Remove key) = Remove key ∷ []
map_value_gives f Clear = Clear ∷ []
