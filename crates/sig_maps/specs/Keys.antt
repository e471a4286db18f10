-- The value at one key of a map, as the map goes on.
use Rattle.std.specs.Prelude.{ℤ, List, [], ◌∷◌, if◌then◌else◌, Option, None, Some}
use Rattle.std.specs.Option.{unwrap_or}
use Rattle.std.specs.Ordering.{int_eq}
use Rattle.sig_diff.specs.Entries.{value_at}
use Rattle.sig_diff.specs.declared.map_differences.MapDiff.{MapDiff}
use Rattle.sig_diff.specs.declared.map_differences.MapDiff.TheVariants.{Replace, Insert, Update, Remove, Clear}

-- what contracts see of the operator: its key, the value where the map has none, and the value that the map has
pub record KeyView : Type 0 where
  pub key : ℤ
  pub default : ℤ
  pub value : Option ℤ

-- what it shows
abbrev pub key_shows : KeyView → ℤ
key_shows op = unwrap_or op.value op.default

-- the value at the key after a difference, and after differences one after another
abbrev pub value_next : ℤ → Option ℤ → MapDiff ℤ → Option ℤ
value_next key old (Replace entries) = value_at key entries
value_next key old (Insert other value) = if int_eq other key then Some value else old
value_next key old (Update other value) = if int_eq other key then Some value else old
value_next key old (Remove other) = if int_eq other key then None else old
value_next key old Clear = None

abbrev pub value_after : ℤ → Option ℤ → List (MapDiff ℤ) → Option ℤ
value_after key old [] = old
value_after key old (diff ∷ diffs) = value_after key (value_next key old diff) diffs
