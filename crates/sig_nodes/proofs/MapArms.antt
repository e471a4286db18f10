-- A step of a map's lists, and of the value at one of its keys: what it needs, and what is left.
use Rattle.std.proofs.Common.{ℤ, Option, ◌≡◌, ◌∙◌, ℕ, ◌≤◌, List, length, slice_index, refl, ap}
use Rattle.sig_diff.specs.Entries.{value_at}
use Rattle.sig_diff.specs.Replaying.{MapAreLawful, MapStaysShort, map_replayed}
use Rattle.sig_diff.specs.declared.differences.VecDiff.{VecDiff}
use Rattle.sig_diff.specs.declared.map_differences.MapDiff.{MapDiff}
use Rattle.sig_expr.specs.Bounds.{map_bound}
use Rattle.sig_expr.specs.Evaluation.{entries_of}
use Rattle.sig_expr.specs.Trees.{MapTree}
use Rattle.sig_hist.specs.Ports.{PortState}
use Rattle.sig_hist.specs.Ways.{contents_at}
use Rattle.sig_maps.specs.Keys.{KeyView, key_shows}
use Rattle.sig_maps.specs.Tables.{keys_gives, values_gives}
use Rattle.sig_nodes.proofs.CarryingShort.{same_caps, seen_map_short}
use Rattle.sig_nodes.proofs.Parts.{holds_at, gone_by}
use Rattle.sig_nodes.specs.Nodes.{keys_by, value_at_key, values_by}
use Rattle.sig_nodes.specs.Steps.{ListGone, SignalGone, ListMayGo, SignalMayGo, MapGone}
use Rattle.sig_ops.specs.Signals.{given}
use Rattle.sig_rows.proofs.ByMap.{MapGoesShort, MapReaches}
use Rattle.sig_rows.proofs.Reaching.{map_flow_reaches}
use Rattle.sig_rows.proofs.MapShortening.{map_flow_short}
use Rattle.sig_rows.specs.Flow.{map_flow, of_map}
use Rattle.sig_walk.proofs.Holding.{held_before, never_back}
use Rattle.sig_walk.specs.Walking.{CanWalk, Progress, sources_in, cap_at}

-- what a list of the map needs for its step, and what the map's entries are then
pub record MapGoes (entries : List (ℤ × ℤ)) (diffs : List (MapDiff ℤ)) (after : List (ℤ × ℤ)) : Type 0 where
  pub lawful : MapAreLawful entries diffs
  pub few : length entries ≤ 65536
  pub short : MapStaysShort 65536 entries diffs
  pub replay : map_replayed entries diffs ≡ after

module _ {s t : PortState} {old new : Progress} {m : MapTree ℕ} {diffs : List (MapDiff ℤ)} (below : MapGone s t old new m diffs) where
  pub map_goes : {entries : List (ℤ × ℤ)} → CanWalk s old → map_bound (cap_at (sources_in s old)) m ≤ 65536 → entries ≡ entries_of (holds_at s old) m → MapGoes entries diffs (entries_of (holds_at t new) m)
  map_goes {entries} can few stood =
      let ahead = never_back s t old new can below.gone below.walked.goes_on in
      let held = held_before s t old new can below.gone in
      let reaches : MapReaches entries diffs (entries_of (holds_at t new) m) = rw (stood, below.flow, ← held) (map_flow_reaches (gone_by t old new) ahead m) in
      let caps = same_caps s t old new can below.gone in
      let each = λ (leaf : ℕ). seen_map_short t below.gone.can.sound new.first (length new.positions) leaf (slice_index old.positions leaf) in
      let short : MapGoesShort 65536 entries diffs = rw (stood, below.flow, ← held) (map_flow_short (gone_by t old new) ahead each 65536 m (rw caps few)) in
      record { lawful = reaches.lawful; few = short.before; short = short.stays; replay = reaches.replay }

  pub keys_go : {entries : List (ℤ × ℤ)} → ListMayGo s old (keys_by entries m) → MapGoes entries diffs (entries_of (holds_at t new) m)
  keys_go may = map_goes may.can may.short may.stands

  pub values_go : {entries : List (ℤ × ℤ)} → ListMayGo s old (values_by entries m) → MapGoes entries diffs (entries_of (holds_at t new) m)
  values_go may = map_goes may.can may.short may.stands

  -- what the map's list gives is what it gives on the way
  pub of_map_flow : {U : Type 0} (gives : List (ℤ × ℤ) → MapDiff ℤ → List (VecDiff U)) {entries : List (ℤ × ℤ)} → CanWalk s old → entries ≡ entries_of (holds_at s old) m →
      of_map gives entries diffs ≡ of_map gives (entries_of (contents_at (sources_in t new) old.positions) m) (map_flow (gone_by t old new) m)
  of_map_flow gives can stood = rw (stood, below.flow, ← held_before s t old new can below.gone) refl

  module _ {entries : List (ℤ × ℤ)} (after : MapTree ℕ) (same : after ≡ m) (next : List (ℤ × ℤ)) (next_is : next ≡ map_replayed entries diffs) (given : List (VecDiff ℤ)) where
    pub keys_gone : ListMayGo s old (keys_by entries m) → given ≡ of_map keys_gives entries diffs → ListGone s t old new (keys_by entries m) (keys_by next after) given
    keys_gone may is =
        record { gone = below.gone; walked = below.walked; flow = is ∙ of_map_flow keys_gives may.can may.stands; stands = rw same (next_is ∙ (keys_go may).replay); tree = rw same refl }

    pub values_gone : ListMayGo s old (values_by entries m) → given ≡ of_map values_gives entries diffs → ListGone s t old new (values_by entries m) (values_by next after) given
    values_gone may is =
        record { gone = below.gone; walked = below.walked; flow = is ∙ of_map_flow values_gives may.can may.stands; stands = rw same (next_is ∙ (values_go may).replay); tree = rw same refl }

  -- the value at a key
  pub key_gone : {key : KeyView} → SignalMayGo s old (value_at_key key m) → (after : MapTree ℕ) → after ≡ m → (next : KeyView) (given_value : Option ℤ) → next.key ≡ key.key → next.default ≡ key.default →
      ((entries : List (ℤ × ℤ)) → key.value ≡ value_at key.key entries → next.value ≡ value_at key.key (map_replayed entries diffs)) →
      given_value ≡ given (key_shows key) (key_shows next) → SignalGone s t old new (value_at_key key m) (value_at_key next after) given_value
  key_gone {key} may after same next given_value same_key same_default law is =
      let goes = map_goes {entries = entries_of (holds_at s old) m} may.can may.short refl in
      let now : next.value ≡ value_at key.key (entries_of (holds_at t new) m) = law (entries_of (holds_at s old) m) may.stands ∙ ap (value_at key.key) goes.replay in
      record {
        gone = below.gone;
        walked = below.walked;
        flow = is ∙ rw (may.stands, same_default, now, ← held_before s t old new may.can below.gone) refl;
        stands = rw (same_key, same) now;
        tree = rw (same_key, same_default, same) refl;
      }
