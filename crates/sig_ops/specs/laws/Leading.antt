-- How differences that lead from one list or map to another are put together.
use Rattle.std.specs.Prelude.{◌≡◌, ℕ, ◌≤◌, ℤ, List, [], ◌∷◌, ◌++◌, length, max, Bool, true, false, if◌then◌else◌, refl}
use Rattle.std.specs.List.{fold}
use Rattle.std.proofs.Common.{◌∙◌, arith}
use Rattle.std.proofs.lemmas.List.Sums.{fold-append}
use Rattle.sig_diff.specs.declared.differences.VecDiff.{VecDiff}
use Rattle.sig_diff.specs.declared.map_differences.MapDiff.{MapDiff}
use Rattle.sig_diff.specs.Differences.{IsLawful, applied}
use Rattle.sig_diff.specs.MapDifferences.{MapIsLawful, map_is_lawful, map_applied}
use Rattle.sig_diff.specs.Replaying.{StaysShort, StaysWithin, list_takes, map_replayed, replayed}
use Rattle.sig_diff.proofs.Following.{are_taken_append}
use Rattle.sig_ops.specs.Leading.{LeadsTo, MapLeadsTo}
use Rattle.sig_ops.specs.Tables.{if_so}

-- ---- of any content

module _ {Content Diff : Type 0} (takes : Diff → Content → Bool) (after : Content → Diff → Content) (size : Content → ℕ) where
  -- differences that keep contents small, and then others that do
  pub stays_within_append : (most : ℕ) (before : Content) (diffs more : List Diff) →
      StaysWithin takes after size most before diffs → StaysWithin takes after size most (fold after before diffs) more →
      StaysWithin takes after size most before (diffs ++ more)
  stays_within_append most before [] more first later = later
  stays_within_append most before (diff ∷ diffs) more first later =
      λ taken. ((first taken).0, stays_within_append most (after before diff) diffs more (first taken).1 later)

  -- no content on the way is larger than the larger of the first and the last
  abbrev pub StaysBetween : Content → List Diff → Content → Type 0
  StaysBetween before diffs last =
      (most : ℕ) → size before ≤ most → size last ≤ most → StaysWithin takes after size most before diffs

  -- one way and then another, where the content at which they meet is no larger than the larger of the ends
  pub stays_between_append : (before : Content) (diffs : List Diff) (between : Content) (more : List Diff) (last : Content) →
      fold after before diffs ≡ between → size between ≤ max (size before) (size last) →
      StaysBetween before diffs between → StaysBetween between more last → StaysBetween before (diffs ++ more) last
  stays_between_append before diffs between more last replay small first later = λ most from to.
      let there : size between ≤ most = omega (arith, small, from, to) in
      stays_within_append most before diffs more (first most from there) (rw replay (later most there to))

-- ---- of lists

module _ {T : Type 0} where
  -- no difference leads from a list to itself
  pub leads_none : (xs : List T) → LeadsTo xs [] xs
  leads_none xs = record { lawful = tt; replay = refl; short = λ most before after. tt }

  -- one lawful difference leads from a list to the list after it
  pub leads_one : (xs : List T) (diff : VecDiff T) → IsLawful diff (length xs) → LeadsTo xs (diff ∷ []) (applied xs diff)
  leads_one xs diff lawful = record { lawful = (lawful, tt); replay = refl; short = λ most before after. λ taken. (after, tt) }

  -- a difference that comes or doesn't
  pub leads_if : (xs : List T) (comes : Bool) (diff : VecDiff T) (ys : List T) → (comes ≡ true → IsLawful diff (length xs)) →
      ys ≡ (if comes then applied xs diff else xs) → LeadsTo xs (if_so comes diff) ys
  leads_if xs true diff ys lawful is = rw is (leads_one xs diff (lawful refl))
  leads_if xs false diff ys lawful is = rw is (leads_none xs)

  -- differences that keep lists short, and then others that do
  pub stays_append : (most : ℕ) (xs : List T) (diffs more : List (VecDiff T)) →
      StaysShort most xs diffs → StaysShort most (replayed xs diffs) more → StaysShort most xs (diffs ++ more)
  stays_append most xs diffs more first later = stays_within_append list_takes applied length most xs diffs more first later

  -- from a list to a second one, and from that to a third, where the second is no longer than the longer of the others
  pub leads_append : (xs : List T) (diffs : List (VecDiff T)) (ys : List T) (more : List (VecDiff T)) (zs : List T) →
      LeadsTo xs diffs ys → LeadsTo ys more zs → length ys ≤ max (length xs) (length zs) → LeadsTo xs (diffs ++ more) zs
  leads_append xs diffs ys more zs first later short =
      let on : LeadsTo (replayed xs diffs) more zs = rw first.replay later in
      record {
        lawful = are_taken_append list_takes applied xs diffs more first.lawful on.lawful;
        replay = fold-append applied xs diffs more ∙ on.replay;
        short =
            stays_between_append list_takes applied length xs diffs ys more zs first.replay short first.short later.short;
      }

-- ---- of maps

module _ {V : Type 0} where
  pub map_leads_none : (map : List (ℤ × V)) → MapLeadsTo map [] map
  map_leads_none map = record { lawful = tt; replay = refl; short = λ most before after. tt }

  pub map_leads_one : (map : List (ℤ × V)) (diff : MapDiff V) → MapIsLawful diff map →
      MapLeadsTo map (diff ∷ []) (map_applied map diff)
  map_leads_one map diff lawful =
      record { lawful = (lawful, tt); replay = refl; short = λ most before after. λ taken. (after, tt) }

  pub map_leads_append : (xs : List (ℤ × V)) (diffs : List (MapDiff V)) (ys : List (ℤ × V)) (more : List (MapDiff V)) (zs : List (ℤ × V)) →
      MapLeadsTo xs diffs ys → MapLeadsTo ys more zs → length ys ≤ max (length xs) (length zs) → MapLeadsTo xs (diffs ++ more) zs
  map_leads_append xs diffs ys more zs first later short =
      let on : MapLeadsTo (map_replayed xs diffs) more zs = rw first.replay later in
      record {
        lawful = are_taken_append map_is_lawful map_applied xs diffs more first.lawful on.lawful;
        replay = fold-append map_applied xs diffs more ∙ on.replay;
        short =
            stays_between_append map_is_lawful map_applied length xs diffs ys more zs first.replay short first.short later.short;
      }
