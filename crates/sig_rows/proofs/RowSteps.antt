-- How sound rows go on by one more row.
use Rattle.std.proofs.Common.{◌≡◌, ◌∙◌, ℕ, List, [], ◌∷◌, ◌++◌, true, false, refl}
use Rattle.sig_expr.specs.Trees.{ViewTree}
use Rattle.sig_expr.specs.declared.shown.Shown.{Shown}
use Rattle.sig_hist.specs.Sources.{Source}
use Rattle.sig_rows.specs.SoundRows.{AreSound, AreSoundAfter, IsEndedRow, IsFirstRow, IsSoundRow, Seen, are_complete, is_end, last_at, nothing_seen, replay_of, seen_after, seen_of, shown_after}
use Rattle.sig_rows.specs.declared.rows.Body.{Body}
use Rattle.sig_rows.specs.declared.rows.Body.TheVariants.{Ended}
use Rattle.sig_rows.specs.declared.rows.Row.{Row}

-- no row has ended
abbrev pub IsOpenBody : Body → Type 0
IsOpenBody Ended = ⊥
IsOpenBody body = Unit {0}

abbrev pub AreOpen : List Row → Type 0
AreOpen [] = Unit {0}
AreOpen (row ∷ rows) = IsOpenBody row.body × AreOpen rows

pub last_at_append : (at : List ℕ) (rows : List Row) (row : Row) → last_at at (rows ++ row ∷ []) ≡ row.at
last_at_append at [] row = refl
last_at_append at (first ∷ rows) row = last_at_append first.at rows row

pub replay_of_append : (shown : Shown) (rows : List Row) (row : Row) → replay_of shown (rows ++ row ∷ []) ≡ shown_after (replay_of shown rows) row.body
replay_of_append shown [] row = refl
replay_of_append shown (first ∷ rows) row = replay_of_append (shown_after shown first.body) rows row

pub seen_of_append : (seen : Seen) (rows : List Row) (row : Row) → seen_of seen (rows ++ row ∷ []) ≡ seen_after (seen_of seen rows) row.body
seen_of_append seen [] row = refl
seen_of_append seen (first ∷ rows) row = seen_of_append (seen_after seen first.body) rows row

-- what was seen shows what the rows show
pub seen_shows : (seen : Seen) (rows : List Row) → (seen_of seen rows).shown ≡ replay_of seen.shown rows
seen_shows seen [] = refl
seen_shows seen (row ∷ rows) = seen_shows (seen_after seen row.body) rows

open_append : (rows : List Row) (row : Row) → AreOpen rows → IsOpenBody row.body → AreOpen (rows ++ row ∷ [])
open_append [] row open_ is = (is, tt)
open_append (first ∷ rows) row open_ is = (open_.0, open_append rows row open_.1 is)

pub complete_append : (rows : List Row) (row : Row) → are_complete (rows ++ row ∷ []) ≡ is_end row.body
complete_append [] row = refl
complete_append (first ∷ []) row = refl
complete_append (first ∷ second ∷ rows) row = complete_append (second ∷ rows) row

pub open_is_no_end : (body : Body) → IsOpenBody body → is_end body ≡ false
open_is_no_end Ended open_ = absurd open_
open_is_no_end body open_ = refl

pub open_is_incomplete : (rows : List Row) → AreOpen rows → are_complete rows ≡ false
open_is_incomplete [] open_ = refl
open_is_incomplete (row ∷ []) open_ = open_is_no_end row.body open_.0
open_is_incomplete (row ∷ next ∷ rows) open_ = open_is_incomplete (next ∷ rows) open_.1

module _ (view : ViewTree ℕ) (sources : List Source) where
  -- a row that hasn't ended doesn't look at the rows after it
  keeps : (from : List ℕ) (seen : Seen) (at : List ℕ) (body : Body) (later more : List Row) → IsOpenBody body → IsSoundRow view sources from seen at body later → IsSoundRow view sources from seen at body more
  keeps from seen at Ended later more open_ sound = absurd open_
  keeps from seen at body later more open_ sound = sound

  pub sound_after_append : (from : List ℕ) (seen : Seen) (rows : List Row) (row : Row) → AreOpen rows → AreSoundAfter view sources from seen rows →
      IsSoundRow view sources (last_at from rows) (seen_of seen rows) row.at row.body [] → AreSoundAfter view sources from seen (rows ++ row ∷ [])
  sound_after_append from seen [] row open_ sound next = (next, tt)
  sound_after_append from seen (first ∷ rows) row open_ sound next = (
    keeps from seen first.at first.body rows (rows ++ row ∷ []) open_.0 sound.0,
    sound_after_append first.at (seen_after seen first.body) rows row open_.1 sound.1 next,
  )

  -- the rows of a view that hasn't ended: where it stands, and what was seen of it
  pub record IsOpen (at : List ℕ) (seen : Seen) (rows : List Row) : Type 0 where
    pub sound : AreSound view sources rows
    pub are_open : AreOpen rows
    pub last : last_at [] rows ≡ at
    pub shows : seen_of (nothing_seen view) rows ≡ seen

  -- the rows of a view that has ended
  pub record IsOver (rows : List Row) : Type 0 where
    pub sound : AreSound view sources rows
    pub complete : are_complete rows ≡ true

  pub first_is_open : (row : Row) → IsOpenBody row.body → IsFirstRow view sources row → IsOpen row.at (seen_after (nothing_seen view) row.body) (row ∷ [])
  first_is_open row open_ first = record { sound = (first, tt); are_open = (open_, tt); last = refl; shows = refl }

  module _ (at : List ℕ) (seen : Seen) (first : Row) (rows : List Row) (row : Row) (is : IsOpen at seen (first ∷ rows)) where
    sound_append : IsSoundRow view sources at seen row.at row.body [] → AreSound view sources (first ∷ rows ++ row ∷ [])
    sound_append sound =
        (is.sound.0, sound_after_append first.at (seen_after (nothing_seen view) first.body) rows row is.are_open.1 is.sound.1 (rw (is.last, is.shows) sound))

    pub next_is_open : IsOpenBody row.body → IsSoundRow view sources at seen row.at row.body [] → IsOpen row.at (seen_after seen row.body) (first ∷ rows ++ row ∷ [])
    next_is_open open_ sound = record {
      sound = sound_append sound;
      are_open = (is.are_open.0, open_append rows row is.are_open.1 open_);
      last = last_at_append first.at rows row;
      shows = seen_of_append (seen_after (nothing_seen view) first.body) rows row ∙ rw is.shows refl;
    }

    pub next_is_over : row.body ≡ Ended → IsEndedRow view sources at row.at [] → IsOver (first ∷ rows ++ row ∷ [])
    next_is_over ends ended = record { sound = sound_append (rw ends ended); complete = complete_append (first ∷ rows) row ∙ rw ends refl }
