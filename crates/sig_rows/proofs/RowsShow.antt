-- What sound rows have shown, and how they end.
use Rattle.std.proofs.Common.{◌≡◌, ◌≢◌, ◌∙◌, ℕ, ◌+◌, List, [], ◌∷◌, ◌++◌, length, slice_index, true, false, refl, sym, ap, arith}
use Rattle.std.proofs.lemmas.List.{take_all}
use Rattle.sig_expr.proofs.Awaiting.{depends_on_awaited}
use Rattle.sig_expr.specs.Awaited.{Agree, awaits}
use Rattle.sig_expr.specs.Shows.{shows}
use Rattle.sig_expr.specs.Trees.{ViewTree}
use Rattle.sig_expr.specs.declared.shown.Shown.{Shown}
use Rattle.sig_expr.specs.declared.shown.Shown.TheVariants as shown
use Rattle.sig_hist.specs.Histories.{is_closed, state}
use Rattle.sig_hist.specs.Sources.{Source, is_among, writers_of}
use Rattle.sig_hist.specs.Ways.{contents_at, leaf_source}
use Rattle.sig_rows.proofs.Along.{each_agrees}
use Rattle.sig_rows.proofs.RowSteps.{AreOpen, IsOpenBody, open_is_no_end, seen_shows, sound_after_append}
use Rattle.sig_rows.proofs.Showing.{first_is_open_body, first_shown, kind_stays}
use Rattle.sig_rows.specs.SoundRows.{AreSound, AreSoundAfter, IsFirstRow, IsShownBy, IsSoundRow, Seen, are_complete, is_awaited, is_end, last_at, nothing_seen, seen_after, seen_of, shown_after, without_tags}
use Rattle.sig_rows.specs.declared.rows.Body.{Body}
use Rattle.sig_rows.specs.declared.rows.Body.TheVariants.{Ended}
use Rattle.sig_rows.specs.declared.rows.Row.{Row}
use Rattle.sig_rows.specs.laws.SoundRows.{GoesOnFrom, IsShownAtEnd, last_contents}

-- an ended row shows nothing more
ended_shows : (was : Shown) → shown_after was Ended ≡ was
ended_shows (shown.Signal value) = refl
ended_shows (shown.Vector items) = refl
ended_shows (shown.Map entries) = refl
ended_shows (shown.Pairs pairs) = refl
ended_shows (shown.Tagged elements) = refl

pub ended_seen : (seen : Seen) → seen_after seen Ended ≡ seen
ended_seen seen = let next : seen.next + 0 ≡ seen.next = omega arith in rw (ended_shows seen.shown, next) refl

module _ (view : ViewTree ℕ) (sources : List Source) where
  first_open : (row : Row) → IsFirstRow view sources row → IsOpenBody row.body
  first_open row is = rw is.whole (first_is_open_body view (contents_at sources row.at))

  first_shows : (row : Row) → IsFirstRow view sources row → IsShownBy view (contents_at sources row.at) (seen_after (nothing_seen view) row.body)
  first_shows row is = rw is.whole (first_shown view (contents_at sources row.at))

  -- ---- what is shown

  row_shows : (from : List ℕ) (seen : Seen) (at : List ℕ) (given : Body) (later : List Row) → IsShownBy view (contents_at sources from) seen → IsSoundRow view sources from seen at given later →
      IsShownBy view (contents_at sources at) (seen_after seen given)
  row_shows from seen at Ended later shows_it sound = rw (ended_seen seen, sound.stays) shows_it
  row_shows from seen at given later shows_it sound = record { kind = kind_stays seen.shown given ∙ shows_it.kind; shows = sound.replay; tags = sound.tags }

  rows_show : (from : List ℕ) (seen : Seen) (rows : List Row) → IsShownBy view (contents_at sources from) seen → AreSoundAfter view sources from seen rows →
      IsShownBy view (contents_at sources (last_at from rows)) (seen_of seen rows)
  rows_show from seen [] shows_it sound = shows_it
  rows_show from seen (row ∷ rows) shows_it sound = rows_show row.at (seen_after seen row.body) rows (row_shows from seen row.at row.body rows shows_it sound.0) sound.1

  pub show_the_view : (rows : List Row) → rows ≢ [] → AreSound view sources rows → IsShownBy view (contents_at sources (last_at [] rows)) (seen_of (nothing_seen view) rows)
  show_the_view [] some sound = absurd (some refl)
  show_the_view (row ∷ rows) some sound = rows_show row.at _ rows (first_shows row sound.0) sound.1

  -- ---- one more row

  open_before : (from : List ℕ) (seen : Seen) (at : List ℕ) (given : Body) (next : Row) (rows : List Row) → IsSoundRow view sources from seen at given (next ∷ rows) → IsOpenBody given
  open_before from seen at Ended next rows sound = (let last = sound.last in cc)
  open_before from seen at given next rows sound = tt

  open_body : (given : Body) → is_end given ≡ false → IsOpenBody given
  open_body Ended goes_on = cc
  open_body given goes_on = tt

  open_after : (from : List ℕ) (seen : Seen) (row : Row) (rows : List Row) → AreSoundAfter view sources from seen (row ∷ rows) → are_complete (row ∷ rows) ≡ false → AreOpen (row ∷ rows)
  open_after from seen row [] sound incomplete = (open_body row.body incomplete, tt)
  open_after from seen row (next ∷ rows) sound incomplete = (open_before from seen row.at row.body next rows sound.0, open_after row.at _ next rows sound.1 incomplete)

  rows_open : (first : Row) (rows : List Row) → AreSound view sources (first ∷ rows) → are_complete (first ∷ rows) ≡ false → AreOpen rows
  rows_open first [] sound incomplete = tt
  rows_open first (row ∷ rows) sound incomplete = open_after first.at _ row rows sound.1 incomplete

  pub go_on_soundly : (rows : List Row) (row : Row) → AreSound view sources rows → are_complete rows ≡ false → GoesOnFrom view sources rows row → AreSound view sources (rows ++ row ∷ [])
  go_on_soundly [] row sound incomplete goes_on = (goes_on, tt)
  go_on_soundly (first ∷ rows) row sound incomplete goes_on =
      (sound.0, sound_after_append view sources first.at _ rows row (rows_open first rows sound incomplete) sound.1 goes_on)

  -- ---- the end

  -- each awaited leaf is at the end of a closed history
  record AreAtEnd (at : List ℕ) : Type 0 where
    end : (leaf : ℕ) → is_awaited view sources at leaf ≡ true → slice_index at leaf ≡ length (leaf_source sources leaf).history
    closed : (leaf : ℕ) → is_awaited view sources at leaf ≡ true → is_closed (writers_of (leaf_source sources leaf).plan.allow) (leaf_source sources leaf).history ≡ true

  row_ends : (from : List ℕ) (seen : Seen) (at : List ℕ) (given : Body) (later : List Row) → is_end given ≡ true → IsSoundRow view sources from seen at given later → AreAtEnd at
  row_ends from seen at Ended later ends sound = record { end = sound.end; closed = sound.closed }
  row_ends from seen at given later ends sound = cc

  rows_end : (from : List ℕ) (seen : Seen) (row : Row) (rows : List Row) → AreSoundAfter view sources from seen (row ∷ rows) → are_complete (row ∷ rows) ≡ true → AreAtEnd (last_at from (row ∷ rows))
  rows_end from seen row [] sound complete = row_ends from seen row.at row.body [] complete sound.0
  rows_end from seen row (next ∷ rows) sound complete = rows_end row.at _ next rows sound.1 complete

  all_end : (rows : List Row) → AreSound view sources rows → are_complete rows ≡ true → AreAtEnd (last_at [] rows)
  all_end [] sound complete = cc
  all_end (row ∷ []) sound complete = (let goes_on = open_is_no_end row.body (first_open row sound.0) in cc)
  all_end (first ∷ row ∷ rows) sound complete = rows_end first.at _ row rows sound.1 complete

  module _ (at : List ℕ) (ends : AreAtEnd at) where
    -- the awaited leaves hold what they hold after all entries
    hold_last : Agree (contents_at sources at) (last_contents sources) (awaits (contents_at sources at) view)
    hold_last = each_agrees _ _ (awaits (contents_at sources at) view) (λ leaf awaited.
        let source : Source = leaf_source sources leaf in
        rw (ends.end leaf awaited) (ap (state source.plan.start source.plan.cap) (take_all (length source.history) source.history (omega arith))))

    last_awaited : (leaf : ℕ) → is_among leaf (awaits (last_contents sources) view) ≡ true → is_awaited view sources at leaf ≡ true
    last_awaited leaf among = ap (is_among leaf) ((depends_on_awaited view (contents_at sources at)) (last_contents sources) hold_last).1 ∙ among

    last_shown : shows view (contents_at sources at) ≡ shows view (last_contents sources)
    last_shown = ((depends_on_awaited view (contents_at sources at)) (last_contents sources) hold_last).0

  pub show_the_end : (rows : List Row) → AreSound view sources rows → are_complete rows ≡ true → IsShownAtEnd view sources rows
  show_the_end [] sound complete = cc
  show_the_end (row ∷ rows) sound complete =
      let ends = all_end (row ∷ rows) sound complete in
      let shown_last = show_the_view (row ∷ rows) (λ none. cc) sound in
      record {
        shows = ap without_tags (sym (seen_shows (nothing_seen view) (row ∷ rows))) ∙ shown_last.shows ∙ last_shown _ ends;
        closed = λ leaf among. ends.closed leaf (last_awaited _ ends leaf among);
      }
