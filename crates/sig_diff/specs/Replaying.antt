-- Differences one after another, of lists and of maps alike: `takes` says whether a content takes a difference, `after` is the
-- content after it.
use Rattle.std.specs.Prelude.{◌≡◌, ℕ, ◌≤◌, ℤ, Bool, false, IsTrue, List, [], ◌∷◌, take, length, slice_get, Some}
use Rattle.std.specs.List.{fold}
use Rattle.std.specs.Option.{option_map}
use Rattle.sig_diff.specs.declared.differences.VecDiff.{VecDiff}
use Rattle.sig_diff.specs.declared.map_differences.MapDiff.{MapDiff}
use Rattle.sig_diff.specs.declared.replaying.ReplayError.{ReplayError}
use Rattle.sig_diff.specs.declared.replaying.ReplayError.TheVariants.{Unlawful, NoMemory}
use Rattle.sig_diff.specs.Differences.{is_lawful, applied}
use Rattle.sig_diff.specs.MapDifferences.{map_is_lawful, map_applied}

module _ {Content Diff : Type 0} (takes : Diff → Content → Bool) (after : Content → Diff → Content) where
  -- each difference is taken at its turn
  abbrev pub AreTaken : Content → List Diff → Type 0
  AreTaken content [] = Unit {0}
  AreTaken content (diff ∷ diffs) = IsTrue (takes diff content) × AreTaken (after content diff) diffs

  module _ (size : Content → ℕ) where
    -- as far as each difference is taken at its turn, no content after one is larger than `most`
    abbrev pub StaysWithin : ℕ → Content → List Diff → Type 0
    StaysWithin most content [] = Unit {0}
    StaysWithin most content (diff ∷ diffs) = IsTrue (takes diff content) → (size (after content diff) ≤ most) × StaysWithin most (after content diff) diffs

    -- all differences before the place are taken, the one there isn't, and the content there has this size
    pub record IsFirstRefused (content : Content) (diffs : List Diff) (place len : ℕ) : Type 0 where
      pub before : AreTaken content (take place diffs)
      pub refused : option_map (λ diff. takes diff (fold after content (take place diffs))) (slice_get diffs place) ≡ Some false
      pub there : size (fold after content (take place diffs)) ≡ len

-- what a refusal says: nothing for want of memory, else the first difference that isn't taken, and how large the content there is
abbrev pub IsUnlawfulAt : {Content Diff : Type 0} → (Diff → Content → Bool) → (Content → Diff → Content) → (Content → ℕ) → Content → List Diff → ReplayError → Type 0
IsUnlawfulAt takes after size content diffs (Unlawful at len) = IsFirstRefused takes after size content diffs at len
IsUnlawfulAt takes after size content diffs NoMemory = Unit {0}

-- ---- lists

abbrev pub list_takes : {T : Type 0} → VecDiff T → List T → Bool
list_takes diff xs = is_lawful diff (length xs)

-- each difference is lawful at its turn
abbrev pub AreLawful : {T : Type 0} → List T → List (VecDiff T) → Type 0
AreLawful xs diffs = AreTaken list_takes applied xs diffs

-- no list on the way has more than `most` items
abbrev pub StaysShort : {T : Type 0} → ℕ → List T → List (VecDiff T) → Type 0
StaysShort most xs diffs = StaysWithin list_takes applied length most xs diffs

-- the list after all of them
abbrev pub replayed : {T : Type 0} → List T → List (VecDiff T) → List T
replayed xs diffs = fold applied xs diffs

-- ---- maps

abbrev pub MapAreLawful : {V : Type 0} → List (ℤ × V) → List (MapDiff V) → Type 0
MapAreLawful map diffs = AreTaken map_is_lawful map_applied map diffs

abbrev pub MapStaysShort : {V : Type 0} → ℕ → List (ℤ × V) → List (MapDiff V) → Type 0
MapStaysShort most map diffs = StaysWithin map_is_lawful map_applied length most map diffs

abbrev pub map_replayed : {V : Type 0} → List (ℤ × V) → List (MapDiff V) → List (ℤ × V)
map_replayed map diffs = fold map_applied map diffs
