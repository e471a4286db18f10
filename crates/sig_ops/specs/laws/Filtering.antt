-- What a filter gives for a difference leads from the filtered list to the filtered list after the difference.
use Rattle.std.specs.Prelude.{◌≡◌, ℕ, ◌+◌, ◌-◌, ◌<◌, ◌≤◌, ◌==◌, List, [], ◌∷◌, ◌++◌, length, insert, remove, slice_set, filter, Bool, true, false, if◌then◌else◌, refl}
use Rattle.std.proofs.Common.{◌∙◌, arith}
use Rattle.std.proofs.lemmas.Bool.{lt-ltb, le-leb, ltb-true, eqb-true, and_from}
use Rattle.std.proofs.lemmas.List.{append-nil}
use Rattle.std.proofs.lemmas.List.Edits.{length-remove}
use Rattle.std.proofs.lemmas.List.Elements.{filter-append}
use Rattle.std.proofs.lemmas.List.Sums.{count_by-le-length, length-filter}
use Rattle.sig_diff.specs.declared.differences.VecDiff.{VecDiff}
use Rattle.sig_diff.specs.declared.differences.VecDiff.TheVariants.{Replace, InsertAt, UpdateAt, RemoveAt, Move, Push, Pop, Clear}
use Rattle.sig_diff.specs.Differences as diff
use Rattle.sig_diff.specs.Differences.{IsLawful, applied}
use Rattle.sig_diff.specs.Passing.{passes_at, passing_before}
use Rattle.sig_diff.specs.Replaying.{AreLawful, StaysShort, replayed}
use Rattle.sig_diff.proofs.Filtered.{filter_insert, filter_remove, filter_slice_set, filter_moved, filter_take_last, passing_before_at_most_length, passing_before_below_length, moved_in_place}
use Rattle.sig_ops.specs.Leading.{LeadsTo}
use Rattle.sig_ops.specs.Tables.{filter_gives, updated, moved}
use Rattle.sig_ops.specs.laws.Leading.{leads_none, leads_one, leads_if}
use Rattle.sig_ops.specs.Filtering.{Filter, FilterStep, filter_next}
use Rattle.sig_ops.specs.Following.{after_all, CanFollow}

module _ {T : Type 0} where
  -- an element changes at a place, by whether the old one and the new one pass
  updated_leads : (ys : List T) (passes comes : Bool) (place : ℕ) (value : T) (zs : List T) → place ≤ length ys → (passes ≡ true → place < length ys) →
      zs ≡ (if passes then (if comes then slice_set ys place value else remove ys place) else (if comes then insert ys place value else ys)) → LeadsTo ys (updated passes comes place value) zs
  updated_leads ys true true place value zs place_at_most below is = rw is (leads_one ys (UpdateAt place value) (lt-ltb place (length ys) (below refl)))
  updated_leads ys true false place value zs place_at_most below is = rw is (leads_one ys (RemoveAt place) (lt-ltb place (length ys) (below refl)))
  updated_leads ys false true place value zs place_at_most below is = rw is (leads_one ys (InsertAt place value) (le-leb place (length ys) place_at_most))
  updated_leads ys false false place value zs place_at_most below is = rw is (leads_none ys)

  elsewhere_leads : (ys : List T) (stays : Bool) (from to : ℕ) → (from == to) ≡ stays → from < length ys → to < length ys →
      LeadsTo ys (if stays then [] else (Move from to ∷ [])) (diff.moved ys from to)
  elsewhere_leads ys true from to is from_below to_below =
      let same : from ≡ to = eqb-true from to is in
      rw (← same, moved_in_place ys from) (leads_none ys)
  elsewhere_leads ys false from to is from_below to_below =
      leads_one ys (Move from to) (and_from _ _ (lt-ltb from (length ys) from_below) (lt-ltb to (length ys) to_below))

  -- an element moves, by whether it passes
  moved_leads : (ys : List T) (passes : Bool) (from to : ℕ) (zs : List T) → (passes ≡ true → from < length ys) → (passes ≡ true → to < length ys) →
      zs ≡ (if passes then diff.moved ys from to else ys) → LeadsTo ys (moved passes from to) zs
  moved_leads ys true from to zs from_below to_below is = rw is (elsewhere_leads ys (from == to) from to refl (from_below refl) (to_below refl))
  moved_leads ys false from to zs from_below to_below is = rw is (leads_none ys)

  pushed : (ys : List T) (value : T) (comes : Bool) → ys ++ filter (λ x. comes) (value ∷ []) ≡ (if comes then ys ++ value ∷ [] else ys)
  pushed ys value true = refl
  pushed ys value false = append-nil ys

  module _ (test : T → Bool) where
    below_after : (xs : List T) (from to : ℕ) → passes_at test xs from ≡ true → passing_before test (remove xs from) to < length (filter test xs)
    below_after xs from to passes =
        let gone : length (filter test (remove xs from)) + 1 ≡ length (filter test xs) =
        rw (filter_remove test xs from true passes) (length-remove (filter test xs) (passing_before test xs from) (passing_before_below_length test xs from passes)) in
        omega (arith, passing_before_at_most_length test (remove xs from) to, gone)

    some_pass : (xs : List T) (index : ℕ) → passes_at test xs index ≡ true → 0 < length (filter test xs)
    some_pass xs index passes = omega (arith, passing_before_below_length test xs index passes)

    -- what the filter gives for a difference that the list takes
    pub filter_leads : (xs : List T) (diff : VecDiff T) → IsLawful diff (length xs) → LeadsTo (filter test xs) (filter_gives test xs diff) (filter test (applied xs diff))
    filter_leads xs (Replace values) lawful = leads_one (filter test xs) (Replace (filter test values)) refl
    filter_leads xs (InsertAt index value) lawful =
        leads_if (filter test xs) (test value) (InsertAt (passing_before test xs index) value) _ (λ comes. le-leb _ _ (passing_before_at_most_length test xs index)) (filter_insert test xs index value)
    filter_leads xs (UpdateAt index value) lawful =
        updated_leads (filter test xs) (passes_at test xs index) (test value) (passing_before test xs index) value _ (passing_before_at_most_length test xs index) (passing_before_below_length test xs index)
        (filter_slice_set test xs index value (passes_at test xs index) (test value) refl refl (ltb-true index (length xs) lawful))
    filter_leads xs (RemoveAt index) lawful =
        leads_if (filter test xs) (passes_at test xs index) (RemoveAt (passing_before test xs index)) _ (λ passes. lt-ltb _ _ (passing_before_below_length test xs index passes))
        (filter_remove test xs index (passes_at test xs index) refl)
    filter_leads xs (Move old_index new_index) lawful =
        moved_leads (filter test xs) (passes_at test xs old_index) (passing_before test xs old_index) (passing_before test (remove xs old_index) new_index) _
        (passing_before_below_length test xs old_index) (below_after xs old_index new_index)
        (filter_moved test xs old_index new_index (passes_at test xs old_index) refl)
    filter_leads xs (Push value) lawful =
        leads_if (filter test xs) (test value) (Push value) _ (λ comes. refl) (filter-append test xs (value ∷ []) ∙ pushed (filter test xs) value (test value))
    filter_leads xs Pop lawful =
        leads_if (filter test xs) (passes_at test xs (length xs - 1)) Pop _ (λ passes. lt-ltb _ _ (some_pass xs (length xs - 1) passes))
        (filter_take_last test xs (passes_at test xs (length xs - 1)) refl)
    filter_leads xs Clear lawful = leads_one (filter test xs) Clear refl

    -- the filtered list is no longer
    pub filter_is_short : (xs : List T) → length (filter test xs) ≤ length xs
    filter_is_short xs = omega (arith, length-filter test xs, count_by-le-length test xs)

module _ {P T : Type 0} where
  -- a filter that stands for a list can go a step by what that list takes
  pub filter_may_step : (filter : Filter P T) (xs : List T) (diff : VecDiff T) → filter.items ≡ xs →
      IsLawful diff (length xs) → length xs ≤ 65536 → length (applied xs diff) ≤ 65536 → FilterStep filter diff
  filter_may_step filter xs diff is lawful short short_after =
      record { lawful = rw is lawful; short = rw is short; short_after = rw is short_after }

  -- after differences a filter has its test and the list after them
  pub filter_after_all : (filter : Filter P T) (diffs : List (VecDiff T)) →
      after_all filter_next filter diffs ≡ record { tester = filter.tester; items = replayed filter.items diffs }
  filter_after_all filter [] = refl
  filter_after_all filter (diff ∷ diffs) = filter_after_all (filter_next filter diff) diffs

  -- a filter can follow differences that are lawful for its list and keep it short
  pub filter_can_follow : (can_call : P → Type 0) (filter : Filter P T) (diffs : List (VecDiff T)) → can_call filter.tester →
      AreLawful filter.items diffs → length filter.items ≤ 65536 → StaysShort 65536 filter.items diffs →
      CanFollow filter_next (λ filter diff. can_call filter.tester × FilterStep filter diff) filter diffs
  filter_can_follow can_call filter [] can lawful few short = tt
  filter_can_follow can_call filter (diff ∷ diffs) can lawful few short =
      let kept = short lawful.0 in (
        (can, record { lawful = lawful.0; short = few; short_after = kept.0 }),
        filter_can_follow can_call (filter_next filter diff) diffs can lawful.1 kept.0 kept.1,
      )
