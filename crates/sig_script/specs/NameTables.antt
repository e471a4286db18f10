-- How a table of names stands for the list of them.
use Rattle.std.specs.Prelude.{◌≡◌, ℕ, List, map, nat_eq, nat_lt, if◌then◌else◌, Option, None, Some, option_map, slice_get}
use Rattle.std.specs.BTreeMap.{BTreeMap, get_by}
use Rattle.std.specs.Borrow.{Bor}
use Rattle.std.specs.Cmp.Lexicographic.{pointwise, slice_cmp}
use Rattle.std.specs.List.{position_from}
use Rattle.std.specs.Ordering.{nat_cmp}
use Rattle.sig_script.specs.declared.grammar.Meaning.{Meaning}

abbrev pub names_given : List (Bor (List ℕ) × Meaning) → List (List ℕ × Meaning)
names_given given = map (λ named. (named.0.now, named.1)) given

-- the first place of a name
abbrev pub place_of : List ℕ → List (List ℕ × Meaning) → Option ℕ
place_of name names = position_from (λ named. pointwise nat_eq named.0 name) 0 names

-- what the names at a place stand for, if the place comes before so many
abbrev pub meaning_at : ℕ → List (List ℕ × Meaning) → Option ℕ → Option Meaning
meaning_at count names None = None
meaning_at count names (Some place) = if nat_lt place count then option_map (λ named. named.1) (slice_get names place) else None

-- the places found are the first
pub record FindsFirst (names : List (List ℕ × Meaning)) (places : BTreeMap (Bor (List ℕ)) ℕ) : Type 0 where
  pub first : (name : List ℕ) → get_by (λ key. slice_cmp nat_cmp name key.now) places ≡ place_of name names
