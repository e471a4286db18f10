-- What a map gives leads from the map before to the map after, and what its keys, values and entries give from list to list.
use Rattle.std.proofs.Common.{◌≡◌, ◌∙◌, ℕ, ◌≤◌, ℤ, List, [], ◌∷◌, ◌++◌, length, refl}
use Rattle.std.proofs.lemmas.List.{length-map}
use Rattle.std.proofs.lemmas.List.Sums.{fold-append}
use Rattle.std.specs.List.{flat_map}
use Rattle.sig_diff.proofs.Following.{are_taken_append}
use Rattle.sig_diff.proofs.Keeping.{length_values_mapped, rising_values_mapped}
use Rattle.sig_diff.proofs.Ranks.{rising_with_value, rising_without}
use Rattle.sig_diff.specs.Entries.{IsRising, keys_of, values_mapped, values_of}
use Rattle.sig_diff.specs.MapDifferences.{MapIsLawful, map_applied, map_is_lawful}
use Rattle.sig_diff.specs.Replaying.{MapAreLawful, MapStaysShort, StaysShort, map_replayed}
use Rattle.sig_diff.specs.declared.differences.VecDiff.{VecDiff}
use Rattle.sig_diff.specs.declared.map_differences.MapDiff.{MapDiff}
use Rattle.sig_diff.specs.declared.map_differences.MapDiff.TheVariants.{Replace, Insert, Update, Remove, Clear}
use Rattle.sig_maps.specs.Tables.{entries_gives, keys_gives, map_value_gives, values_gives}
use Rattle.sig_maps.specs.laws.Tables.{entries_lead, keys_lead, map_value_leads, values_lead}
use Rattle.sig_ops.specs.laws.Leading.{stays_append}
use Rattle.sig_ops.specs.Leading.{LeadsTo}
use Rattle.sig_rows.proofs.Entered.{Reaches, reaches_append, leads_reach}
use Rattle.sig_rows.specs.Flow.{of_map}

-- ---- the keys of maps rise

-- a map that replaces another has rising keys
abbrev pub IsOrderly : MapDiff ℤ → Type 0
IsOrderly (Replace entries) = IsRising entries
IsOrderly diff = Unit {0}

abbrev pub AreOrderly : List (MapDiff ℤ) → Type 0
AreOrderly [] = Unit {0}
AreOrderly (diff ∷ diffs) = IsOrderly diff × AreOrderly diffs

orderly_append : (diffs more : List (MapDiff ℤ)) → AreOrderly diffs → AreOrderly more → AreOrderly (diffs ++ more)
orderly_append [] more first later = later
orderly_append (diff ∷ diffs) more first later = (first.0, orderly_append diffs more first.1 later)

rises_on : (entries : List (ℤ × ℤ)) (diff : MapDiff ℤ) → IsRising entries → IsOrderly diff → IsRising (map_applied entries diff)
rises_on entries (Replace others) rising orderly = orderly
rises_on entries (Insert key value) rising orderly = rising_with_value key value entries rising
rises_on entries (Update key value) rising orderly = rising_with_value key value entries rising
rises_on entries (Remove key) rising orderly = rising_without key entries rising
rises_on entries Clear rising orderly = refl

-- ---- maps

-- differences lead from one map to another: each is lawful at its turn, their replay is the other, and maps that replace others have rising keys
pub record MapReaches (from : List (ℤ × ℤ)) (diffs : List (MapDiff ℤ)) (to : List (ℤ × ℤ)) : Type 0 where
  pub lawful : MapAreLawful from diffs
  pub replay : map_replayed from diffs ≡ to
  pub orderly : AreOrderly diffs

map_reaches_append : (from between to : List (ℤ × ℤ)) (diffs more : List (MapDiff ℤ)) → MapReaches from diffs between → MapReaches between more to → MapReaches from (diffs ++ more) to
map_reaches_append from between to diffs more first later = record {
  lawful = are_taken_append map_is_lawful map_applied from diffs more first.lawful (rw first.replay later.lawful);
  replay = fold-append map_applied from diffs more ∙ rw first.replay later.replay;
  orderly = orderly_append diffs more first.orderly later.orderly;
}

-- a map is short, and stays so with each of its differences
pub record MapGoesShort (most : ℕ) (entries : List (ℤ × ℤ)) (diffs : List (MapDiff ℤ)) : Type 0 where
  pub before : length entries ≤ most
  pub stays : MapStaysShort most entries diffs

module _ (f : ℤ → ℤ) where
  orderly_mapped : (diff : MapDiff ℤ) → IsOrderly diff → AreOrderly (map_value_gives f diff)
  orderly_mapped (Replace entries) orderly = (rising_values_mapped f entries orderly, tt)
  orderly_mapped (Insert key value) orderly = (tt, tt)
  orderly_mapped (Update key value) orderly = (tt, tt)
  orderly_mapped (Remove key) orderly = (tt, tt)
  orderly_mapped Clear orderly = (tt, tt)

  all_values_reach : (entries : List (ℤ × ℤ)) (diffs : List (MapDiff ℤ)) → MapAreLawful entries diffs → AreOrderly diffs →
      MapReaches (values_mapped f entries) (flat_map (map_value_gives f) diffs) (values_mapped f (map_replayed entries diffs))
  all_values_reach entries [] lawful orderly = record { lawful = tt; replay = refl; orderly = tt }
  all_values_reach entries (diff ∷ diffs) lawful orderly =
      let lead = map_value_leads f entries diff lawful.0 in
      map_reaches_append (values_mapped f entries) (values_mapped f (map_applied entries diff)) (values_mapped f (map_replayed (map_applied entries diff) diffs)) (map_value_gives f diff) (flat_map (map_value_gives f) diffs)
      (record { lawful = lead.lawful; replay = lead.replay; orderly = orderly_mapped diff orderly.0 })
      (all_values_reach (map_applied entries diff) diffs lawful.1 orderly.1)

  -- a function at the values of a map
  pub values_reach : (from to : List (ℤ × ℤ)) (diffs : List (MapDiff ℤ)) → MapReaches from diffs to → MapReaches (values_mapped f from) (flat_map (map_value_gives f) diffs) (values_mapped f to)
  values_reach from to diffs below = rw (← below.replay) (all_values_reach from diffs below.lawful below.orderly)

  module _ (most : ℕ) where
    -- what comes after a difference stays short if it does so after the map that the difference leads to
    one_stays : (map after : List (ℤ × ℤ)) (diff : MapDiff ℤ) (rest : List (MapDiff ℤ)) → map_replayed map (map_value_gives f diff) ≡ after → length after ≤ most → MapStaysShort most after rest →
        MapStaysShort most map (map_value_gives f diff ++ rest)
    one_stays map after (Replace others) rest is few later = λ taken. rw is (few, later)
    one_stays map after (Insert key value) rest is few later = λ taken. rw is (few, later)
    one_stays map after (Update key value) rest is few later = λ taken. rw is (few, later)
    one_stays map after (Remove key) rest is few later = λ taken. rw is (few, later)
    one_stays map after Clear rest is few later = λ taken. (rw (← is) at few, rw (← is) at later)

    values_stay : (entries : List (ℤ × ℤ)) (diffs : List (MapDiff ℤ)) → MapAreLawful entries diffs → MapStaysShort most entries diffs → MapStaysShort most (values_mapped f entries) (flat_map (map_value_gives f) diffs)
    values_stay entries [] lawful short = tt
    values_stay entries (diff ∷ diffs) lawful short =
        let kept = short lawful.0 in
        one_stays (values_mapped f entries) (values_mapped f (map_applied entries diff)) diff (flat_map (map_value_gives f) diffs) (map_value_leads f entries diff lawful.0).replay
        (rw (length_values_mapped f (map_applied entries diff)) kept.0) (values_stay (map_applied entries diff) diffs lawful.1 kept.1)

    pub values_go_short : (entries : List (ℤ × ℤ)) (diffs : List (MapDiff ℤ)) → MapAreLawful entries diffs → MapGoesShort most entries diffs → MapGoesShort most (values_mapped f entries) (flat_map (map_value_gives f) diffs)
    values_go_short entries diffs lawful below = record { before = rw (length_values_mapped f entries) below.before; stays = values_stay entries diffs lawful below.stays }

-- ---- lists of a map

-- a list of a map: what it gives for a difference of a map whose keys rise turns the list of the map into that of the map after it, and it is
-- as long as the map
pub record FollowsMap {U : Type 0} (gives : List (ℤ × ℤ) → MapDiff ℤ → List (VecDiff U)) (view : List (ℤ × ℤ) → List U) : Type 0 where
  pub leads : (entries : List (ℤ × ℤ)) (diff : MapDiff ℤ) → IsRising entries → MapIsLawful diff entries → LeadsTo (view entries) (gives entries diff) (view (map_applied entries diff))
  pub long : (entries : List (ℤ × ℤ)) → length (view entries) ≡ length entries

pub keys_follow : FollowsMap keys_gives keys_of
keys_follow = record { leads = keys_lead; long = λ entries. length-map entries (λ entry. entry.0) }

pub values_follow : FollowsMap values_gives values_of
values_follow = record { leads = values_lead; long = λ entries. length-map entries (λ entry. entry.1) }

pub entries_follow : FollowsMap entries_gives (λ entries. entries)
entries_follow = record { leads = entries_lead; long = λ entries. refl }

module _ {U : Type 0} {gives : List (ℤ × ℤ) → MapDiff ℤ → List (VecDiff U)} {view : List (ℤ × ℤ) → List U} (follows : FollowsMap gives view) where
  all_of_map_reach : (entries : List (ℤ × ℤ)) (diffs : List (MapDiff ℤ)) → IsRising entries → MapAreLawful entries diffs → AreOrderly diffs → Reaches (view entries) (of_map gives entries diffs) (view (map_replayed entries diffs))
  all_of_map_reach entries [] rising lawful orderly = record { lawful = tt; replay = refl }
  all_of_map_reach entries (diff ∷ diffs) rising lawful orderly =
      reaches_append (view entries) (view (map_applied entries diff)) (view (map_replayed (map_applied entries diff) diffs)) (gives entries diff) (of_map gives (map_applied entries diff) diffs)
      (leads_reach (view entries) (view (map_applied entries diff)) (gives entries diff) (follows.leads entries diff rising lawful.0))
      (all_of_map_reach (map_applied entries diff) diffs (rises_on entries diff rising orderly.0) lawful.1 orderly.1)

  pub of_map_reaches : (from to : List (ℤ × ℤ)) (diffs : List (MapDiff ℤ)) → IsRising from → MapReaches from diffs to → Reaches (view from) (of_map gives from diffs) (view to)
  of_map_reaches from to diffs rising below = rw (← below.replay) (all_of_map_reach from diffs rising below.lawful below.orderly)

  -- it stays as short as the map does
  pub of_map_stays : (most : ℕ) (entries : List (ℤ × ℤ)) (diffs : List (MapDiff ℤ)) → IsRising entries → MapAreLawful entries diffs → AreOrderly diffs → MapGoesShort most entries diffs → StaysShort most (view entries) (of_map gives entries diffs)
  of_map_stays most entries [] rising lawful orderly below = tt
  of_map_stays most entries (diff ∷ diffs) rising lawful orderly below =
      let kept = below.stays lawful.0 in
      let lead = follows.leads entries diff rising lawful.0 in
      stays_append most (view entries) (gives entries diff) (of_map gives (map_applied entries diff) diffs)
      (lead.short most (rw (follows.long entries) below.before) (rw (follows.long (map_applied entries diff)) kept.0))
      (rw lead.replay (of_map_stays most (map_applied entries diff) diffs (rises_on entries diff rising orderly.0) lawful.1 orderly.1 (record { before = kept.0; stays = kept.1 })))
