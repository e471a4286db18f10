-- Rows that are sound stay sound as the sources go on.
use Rattle.std.proofs.Common.{◌≡◌, ◌∙◌, ℕ, List, [], ◌∷◌, length, sym, ap}
use Rattle.sig_diff.specs.declared.contents.Content.{Content}
use Rattle.sig_expr.specs.Awaited.{awaits}
use Rattle.sig_expr.specs.Shows.{shows}
use Rattle.sig_expr.specs.Trees.{ViewTree}
use Rattle.sig_hist.proofs.Ways.{go_on_at, within_each}
use Rattle.sig_hist.specs.Sources.{Source, is_among}
use Rattle.sig_hist.specs.Ways.{AllGrow, AreWithin}
use Rattle.sig_rows.proofs.Alike.{same_flow}
use Rattle.sig_rows.proofs.Growing.{alike_ways, same_contents, still_within}
use Rattle.sig_rows.specs.Flow.{first_body, with_tags}
use Rattle.sig_rows.specs.SoundRows.{AreSound, AreSoundAfter, IsEndedRow, IsFirstRow, IsNextRow, IsSoundRow, Seen, is_awaited, seen_after, tags_of}
use Rattle.sig_rows.specs.declared.rows.Body.{Body}
use Rattle.sig_rows.specs.declared.rows.Body.TheVariants.{Ended}
use Rattle.sig_rows.specs.declared.rows.Row.{Row}

module _ (view : ViewTree ℕ) (sources later : List Source) (grow : AllGrow sources later) where
  same_awaited : (at : List ℕ) → AreWithin sources at → (leaf : ℕ) → is_awaited view sources at leaf ≡ is_awaited view later at leaf
  same_awaited at within leaf = ap (λ (holds : ℕ → Content). is_among leaf (awaits holds view)) (same_contents sources later grow at within)

  first_stays : (row : Row) → IsFirstRow view sources row → IsFirstRow view later row
  first_stays row is = record {
    within = still_within sources later grow row.at is.within;
    whole = is.whole ∙ ap (first_body view) (same_contents sources later grow row.at is.within);
  }

  module _ (from : List ℕ) (seen : Seen) (at : List ℕ) where
    next_stays : (given : Body) → IsNextRow view sources from seen at given → IsNextRow view later from seen at given
    next_stays given is = record {
      within = still_within sources later grow at is.within;
      goes_on = is.goes_on;
      moves = is.moves;
      awaited = λ leaf unawaited. is.awaited leaf (same_awaited at is.within leaf ∙ unawaited);
      flow = is.flow ∙ ap (with_tags (tags_of seen)) (same_flow _ _ (λ leaf. alike_ways _ _ _ _ (grow.each leaf) (go_on_at from at is.goes_on leaf) (within_each sources at is.within leaf)) view);
      lawful = is.lawful;
      replay = is.replay ∙ ap (shows view) (same_contents sources later grow at is.within);
      tags = is.tags;
    }

    -- the sources that an ended row awaits go on no more
    ended_stays : (rows : List Row) → AreWithin sources at → IsEndedRow view sources from at rows → IsEndedRow view later from at rows
    ended_stays rows within is = record {
      stays = is.stays;
      end = λ leaf awaited. let here = same_awaited at within leaf ∙ awaited in is.end leaf here ∙ ap length (sym ((grow.each leaf).closed (is.closed leaf here)));
      closed = λ leaf awaited. let closed = is.closed leaf (same_awaited at within leaf ∙ awaited) in rw ((grow.each leaf).plan, (grow.each leaf).closed closed) closed;
      last = is.last;
    }

    row_stays : (given : Body) (rows : List Row) → AreWithin sources from → IsSoundRow view sources from seen at given rows → IsSoundRow view later from seen at given rows
    row_stays Ended rows within sound = ended_stays rows (rw sound.stays within) sound
    row_stays given rows within sound = next_stays given sound

    row_within : (given : Body) (rows : List Row) → AreWithin sources from → IsSoundRow view sources from seen at given rows → AreWithin sources at
    row_within Ended rows within sound = rw sound.stays within
    row_within given rows within sound = sound.within

  rows_stay : (from : List ℕ) (seen : Seen) (rows : List Row) → AreWithin sources from → AreSoundAfter view sources from seen rows → AreSoundAfter view later from seen rows
  rows_stay from seen [] within sound = tt
  rows_stay from seen (row ∷ rows) within sound = (
    row_stays from seen row.at row.body rows within sound.0,
    rows_stay row.at (seen_after seen row.body) rows (row_within from seen row.at row.body rows within sound.0) sound.1,
  )

  pub stay_sound : (rows : List Row) → AreSound view sources rows → AreSound view later rows
  stay_sound [] sound = tt
  stay_sound (row ∷ rows) sound = (first_stays row sound.0, rows_stay row.at _ rows sound.0.within sound.1)
