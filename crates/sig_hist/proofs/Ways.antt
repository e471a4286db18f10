-- Fronts of histories, and positions that go on.
use Rattle.std.proofs.Common.{◌≡◌, ◌∙◌, ℕ, zero, suc, ◌≤◌, List, [], ◌∷◌, length, take, slice_index, refl, sym, ap, arith, le_trans}
use Rattle.std.proofs.lemmas.List.{length-take, take-take}
use Rattle.sig_hist.specs.Sources.{Source}
use Rattle.sig_hist.specs.Ways.{AreWithin, GoOn, leaf_source}

-- ---- fronts

module _ {X : Type 0} where
  pub front_shorter : (front xs : List X) → take (length front) xs ≡ front → length front ≤ length xs
  front_shorter front xs is = omega (arith, length-take (length front) xs, ap length is)

  -- a front of a front
  pub front_on : (front middle xs : List X) → take (length front) middle ≡ front → take (length middle) xs ≡ middle → take (length front) xs ≡ front
  front_on front middle xs first second =
      sym (take-take (length front) (length middle) xs (front_shorter front middle first)) ∙ ap (take (length front)) second ∙ first

  pub same_start : (count : ℕ) (front xs : List X) → count ≤ length front → take (length front) xs ≡ front → take count xs ≡ take count front
  same_start count front xs within is = sym (take-take count (length front) xs within) ∙ ap (take count) is

-- ---- positions

pub go_on_same : (positions : List ℕ) → GoOn positions positions
go_on_same [] = tt
go_on_same (position ∷ positions) = (omega arith, go_on_same positions)

pub go_on_at : (from to : List ℕ) → GoOn from to → (leaf : ℕ) → slice_index from leaf ≤ slice_index to leaf
go_on_at [] [] goes leaf = omega arith
go_on_at (old ∷ from) (new ∷ to) goes zero = goes.0
go_on_at (old ∷ from) (new ∷ to) goes (suc leaf) = go_on_at from to goes.1 leaf
go_on_at [] (new ∷ to) goes leaf = absurd goes
go_on_at (old ∷ from) [] goes leaf = absurd goes

pub go_on_further : (from between to : List ℕ) → GoOn from between → GoOn between to → GoOn from to
go_on_further [] [] [] first second = tt
go_on_further (old ∷ from) (mid ∷ between) (new ∷ to) first second = (le_trans first.0 second.0, go_on_further from between to first.1 second.1)
go_on_further [] [] (new ∷ to) first second = absurd second
go_on_further [] (mid ∷ between) to first second = absurd first
go_on_further (old ∷ from) [] to first second = absurd first
go_on_further (old ∷ from) (mid ∷ between) [] first second = absurd second

-- positions that come back where they were have never left
pub never_left : (from between : List ℕ) → GoOn from between → GoOn between from → between ≡ from
never_left [] [] first second = refl
never_left (old ∷ from) (mid ∷ between) first second =
    let same : mid ≡ old = omega (arith, first.0, second.0) in
    rw (same, never_left from between first.1 second.1) refl
never_left [] (mid ∷ between) first second = absurd first
never_left (old ∷ from) [] first second = absurd first

-- no position is past the end of its source's history
pub within_each : (sources : List Source) (at : List ℕ) → AreWithin sources at → (leaf : ℕ) → slice_index at leaf ≤ length (leaf_source sources leaf).history
within_each [] [] within leaf = omega arith
within_each [] (position ∷ at) within leaf = absurd within
within_each (source ∷ sources) [] within leaf = absurd within
within_each (source ∷ sources) (position ∷ at) within zero = within.0
within_each (source ∷ sources) (position ∷ at) within (suc leaf) = within_each sources at within.1 leaf
