-- The difference algebra over maps: which differences a map takes, and the map after one.
use Rattle.std.specs.Prelude.{ℤ, Bool, true, not, IsTrue, List, []}
use Rattle.sig_diff.specs.declared.map_differences.MapDiff.{MapDiff}
use Rattle.sig_diff.specs.declared.map_differences.MapDiff.TheVariants.{Replace, Insert, Update, Remove, Clear}
use Rattle.sig_diff.specs.Entries.{has_key, with_value, without}

-- whether the map takes the difference
abbrev pub map_is_lawful : {V : Type 0} → MapDiff V → List (ℤ × V) → Bool
map_is_lawful (Replace entries) map = true
map_is_lawful (Insert key value) map = not (has_key key map)
map_is_lawful (Update key value) map = has_key key map
map_is_lawful (Remove key) map = has_key key map
map_is_lawful Clear map = true

abbrev pub MapIsLawful : {V : Type 0} → MapDiff V → List (ℤ × V) → Type 0
MapIsLawful diff map = IsTrue (map_is_lawful diff map)

-- the map after the difference
abbrev pub map_applied : {V : Type 0} → List (ℤ × V) → MapDiff V → List (ℤ × V)
map_applied map (Replace entries) = entries
map_applied map (Insert key value) = with_value key value map
map_applied map (Update key value) = with_value key value map
map_applied map (Remove key) = without key map
map_applied map Clear = []
