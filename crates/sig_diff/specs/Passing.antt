-- The elements that pass a test (std's `filter`), and how many of the first ones do.
use Rattle.std.specs.Prelude.{ℕ, List, take, slice_get, Bool, false}
use Rattle.std.specs.List.{count_by}
use Rattle.std.specs.Option.{option_map_or}

-- whether the element at a place passes
abbrev pub passes_at : {T : Type 0} → (T → Bool) → List T → ℕ → Bool
passes_at test xs index = option_map_or test (slice_get xs index) false

-- how many of the first elements pass
abbrev pub passing_before : {T : Type 0} → (T → Bool) → List T → ℕ → ℕ
passing_before test xs index = count_by test (take index xs)
