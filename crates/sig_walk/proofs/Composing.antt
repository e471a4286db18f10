-- Two parts of a walk are one.
use Rattle.std.proofs.Common.{◌≡◌, ◌≢◌, ◌∙◌, ℕ, ◌+◌, ◌==◌, List, [], ◌∷◌, ◌++◌, Bool, true, false, ◌||◌, Option, None, Some, refl, sym, ap, le_trans}
use Rattle.std.proofs.Math.Seq.{drop-length}
use Rattle.std.specs.List.{list_any}
use Rattle.sig_hist.specs.Ports.{IsSoundPort, PortState}
use Rattle.sig_hist.specs.Sources.{is_among}
use Rattle.sig_hist.specs.declared.ports.Met.{Met}
use Rattle.sig_hist.proofs.Ways.{go_on_same, go_on_at, go_on_further, never_left}
use Rattle.sig_walk.proofs.Arriving.{none_more}
use Rattle.sig_walk.proofs.Staying.{looked_again, met_on, seen_in_order}
use Rattle.sig_walk.proofs.Trying.{looked_same}
use Rattle.sig_hist.specs.Ways.{GoesAhead, GoOn, ways}
use Rattle.sig_walk.specs.Walking.{CanWalk, HasGone, HasSettled, HasWalked, IsCaughtUp, IsFresh, Progress, first_held, met_since, seen_sources, was_held}

-- the leaves of a sound port go ahead
pub goes_ahead : (s : PortState) (first count : ℕ) → IsSoundPort s → (from to : List ℕ) → GoOn from to → (leaf : ℕ) → GoesAhead (ways (seen_sources s first count) from to leaf)
goes_ahead s first count sound from to goes leaf = record { ahead = go_on_at from to goes leaf; in_order = seen_in_order s sound first count leaf }

-- ---- words

first_held_on : (held : Option ℕ) (met more : List Met) → first_held (first_held held met) more ≡ first_held held (met ++ more)
first_held_on (Some word) met more = refl
first_held_on None [] more = refl
first_held_on None (word ∷ met) more = refl

pub neither_of : (one other : Bool) → (one || other) ≡ false → (one ≡ false) × (other ≡ false)
neither_of false other is = (refl, is)
neither_of true other is = cc

any_apart : (test : Met → Bool) (met more : List Met) → list_any test (met ++ more) ≡ false → (list_any test met ≡ false) × (list_any test more ≡ false)
any_apart test [] more none = (refl, none)
any_apart test (word ∷ met) more none =
    let parts = neither_of (test word) (list_any test (met ++ more)) none in
    let rest = any_apart test met more parts.1 in
    (rw (parts.0, rest.0) refl, rest.1)

-- none was found where none is held
none_before : (held : Option ℕ) (met : List Met) → first_held held met ≡ None → held ≡ None
none_before None met none = refl
none_before (Some word) met none = none

-- ---- leaves

or_on : (one two three both : Bool) → both ≡ (two || three) → (one || both) ≡ ((one || two) || three)
or_on true two three both is = refl
or_on false two three both is = is

pub among_append : (leaf : ℕ) (leaves more : List ℕ) → is_among leaf (leaves ++ more) ≡ (is_among leaf leaves || is_among leaf more)
among_append leaf [] more = refl
among_append leaf (l ∷ leaves) more = or_on (l == leaf) (is_among leaf leaves) (is_among leaf more) (is_among leaf (leaves ++ more)) (among_append leaf leaves more)

-- ---- no part of a walk

pub not_walked : (s : PortState) (walk : Progress) → HasWalked s s walk walk []
not_walked s walk = record {
  goes_on = go_on_same walk.positions;
  others = λ leaf among. refl;
  unmarked = λ leaf among. refl;
  stays = λ stays. (stays, refl);
  moves = λ moves stays. cc;
  held = rw (drop-length s.met) (none_more walk.held);
  fresh = λ leaf among. cc;
  settled = λ stays held. record { seen = refl; counts = λ source known. known };
  caught_up = λ stays held leaf among. cc;
}

-- ---- two parts

module _ (s t u : PortState) (old mid new : Progress) (gone : HasGone s t old mid) (went : HasGone t u mid new) where
  pub gone_again : HasGone s u old new
  gone_again = record { looked = looked_again s t u gone.looked went.looked; first = went.first ∙ gone.first; leaves = went.leaves ∙ gone.leaves; can = went.can }

  met_is : met_since s u ≡ met_since s t ++ met_since t u
  met_is = met_on s t u gone.looked.met went.looked.met

  unheld : (leaf : ℕ) → was_held s u leaf ≡ false → (was_held s t leaf ≡ false) × (was_held t u leaf ≡ false)
  unheld leaf none =
      let both : list_any (λ (met : Met). met.source == u.source leaf) (met_since s t ++ met_since t u) ≡ false = rw met_is at none in
      let parts = any_apart (λ (met : Met). met.source == u.source leaf) (met_since s t) (met_since t u) both in
      (rw (← went.looked.source) parts.0, parts.1)

  module _ (leaves more : List ℕ) (first : HasWalked s t old mid leaves) (second : HasWalked t u mid new more) where
    fresh_first : (leaf : ℕ) → is_among leaf leaves ≡ true → IsFresh s u new leaf
    fresh_first leaf among held =
        let number : ℕ = new.first + leaf in
        let fresh = first.fresh leaf among (rw went.first at (unheld number held).0) in
        let rises = go_on_at mid.positions new.positions second.goes_on leaf in
        le_trans (rw went.first fresh) rises

    fresh_second : (leaf : ℕ) → is_among leaf more ≡ true → IsFresh s u new leaf
    fresh_second leaf among held =
        let source : ℕ = s.source (new.first + leaf) in
        let fresh = second.fresh leaf among (unheld (new.first + leaf) held).1 in
        le_trans (gone.looked.seen source).known (rw gone.looked.source at fresh)

    pub first_stays : new.moved ≡ false → mid.moved ≡ false
    first_stays stays = (second.stays stays).0

    pub first_silent : new.held ≡ None → mid.held ≡ None
    first_silent silent = none_before mid.held (met_since t u) (sym second.held ∙ silent)

    settled_again : new.moved ≡ false → new.held ≡ None → HasSettled s u
    settled_again stays silent =
        let before = first.settled (first_stays stays) (first_silent silent) in
        let after = second.settled stays silent in
        record {
          seen = after.seen ∙ before.seen;
          counts = λ source known. after.counts source (before.counts source known);
        }

    -- a leaf of the first part that isn't one of the second stands where it stood
    still_caught_up : new.moved ≡ false → new.held ≡ None → (leaf : ℕ) → is_among leaf leaves ≡ true → is_among leaf more ≡ false → IsCaughtUp u new leaf
    still_caught_up stays silent leaf among other =
        let caught = first.caught_up (first_stays stays) (first_silent silent) leaf among in
        let settled = second.settled stays silent in
        record {
          position = rw (went.first, went.looked.source, settled.seen) (second.others leaf other ∙ caught.position);
          count = rw (went.first, went.looked.source, settled.seen) (rw settled.seen at (settled.counts (t.source (mid.first + leaf)) caught.count));
          mark = second.unmarked leaf other ∙ caught.mark ∙ rw (went.first, went.looked.source, went.looked.plan, settled.seen) refl;
        }

    caught_up_by : new.moved ≡ false → new.held ≡ None → (leaf : ℕ) (one other : Bool) → is_among leaf leaves ≡ one → is_among leaf more ≡ other → (one || other) ≡ true → IsCaughtUp u new leaf
    caught_up_by stays silent leaf one true is also either = second.caught_up stays silent leaf also
    caught_up_by stays silent leaf true false is also either = still_caught_up stays silent leaf is also
    caught_up_by stays silent leaf false false is also either = cc

    fresh_by : (leaf : ℕ) (one other : Bool) → is_among leaf leaves ≡ one → is_among leaf more ≡ other → (one || other) ≡ true → IsFresh s u new leaf
    fresh_by leaf true other is also either = fresh_first leaf is
    fresh_by leaf false true is also either = fresh_second leaf also
    fresh_by leaf false false is also either = cc

    neither : (leaf : ℕ) → is_among leaf (leaves ++ more) ≡ false → (is_among leaf leaves ≡ false) × (is_among leaf more ≡ false)
    neither leaf none =
        neither_of (is_among leaf leaves) (is_among leaf more) (sym (among_append leaf leaves more) ∙ none)

    moves_again : new.moved ≡ true → old.moved ≡ false → (between : Bool) → mid.moved ≡ between → new.positions ≢ old.positions
    moves_again moves stays true between back =
        let same : mid.positions ≡ old.positions = never_left old.positions mid.positions first.goes_on (rw back at second.goes_on) in
        first.moves between stays same
    moves_again moves stays false between back =
        second.moves moves between (back ∙ sym (first.stays between).1)

    pub walked_on : HasWalked s u old new (leaves ++ more)
    walked_on = record {
      goes_on = go_on_further old.positions mid.positions new.positions first.goes_on second.goes_on;
      others = λ leaf among. let apart = neither leaf among in second.others leaf apart.1 ∙ first.others leaf apart.0;
      unmarked = λ leaf among. let apart = neither leaf among in second.unmarked leaf apart.1 ∙ first.unmarked leaf apart.0;
      stays = λ stays. let before = first.stays (first_stays stays) in (before.0, (second.stays stays).1 ∙ before.1);
      moves = λ moves stays. moves_again moves stays mid.moved refl;
      held = second.held ∙ ap (λ (held : Option ℕ). first_held held (met_since t u)) first.held ∙ first_held_on old.held (met_since s t) (met_since t u) ∙ ap (first_held old.held) (sym met_is);
      fresh = λ leaf among. fresh_by leaf _ _ refl refl (sym (among_append leaf leaves more) ∙ among);
      settled = settled_again;
      caught_up = λ stays silent leaf among. caught_up_by stays silent leaf _ _ refl refl (sym (among_append leaf leaves more) ∙ among);
    }

pub still_gone : (s : PortState) (walk : Progress) → CanWalk s walk → HasGone s s walk walk
still_gone s walk can = record { looked = looked_same s; first = refl; leaves = refl; can = can }
