-- Polls of a view: its rows are sound for sources that go on growing.
use Rattle.std.proofs.Common.{◌≡◌, ◌∙◌, ℕ, ◌==◌, List, [], ◌∷◌, ◌++◌, length, map, slice_index, Bool, true, false, ◌&&◌, nat_eq, if◌then◌else◌, refl, sym, ap, subst, arith}
use Rattle.std.proofs.lemmas.Bool.{and_from, and_parts, eq-eqb, eqb-true}
use Rattle.std.proofs.lemmas.List.{length-map}
use Rattle.std.specs.Cmp.Lexicographic.{bytes_decides, pointwise, same_text, other_text}
use Rattle.sig_diff.specs.declared.contents.Content.{Content}
use Rattle.sig_expr.specs.Awaited.{awaits}
use Rattle.sig_expr.specs.Trees.{ViewTree}
use Rattle.sig_hist.specs.Changes.{IsInOrder}
use Rattle.sig_hist.specs.Histories.{is_closed}
use Rattle.sig_hist.specs.Plain.{no_source}
use Rattle.sig_hist.specs.Sources.{Source, is_among, writers_of}
use Rattle.sig_report.proofs.Advancing.{AreInside, HasAdvanced, advanced_has, advanced_only, all_go_on, awaited_at_end, inside_is_within, none_falls, others_stay, stays_at_ends, stays_there, still_inside}
use Rattle.sig_rows.proofs.Alike.{same_flow}
use Rattle.sig_report.proofs.Among.{all_among, each_among}
use Rattle.sig_report.proofs.Events.{map_at}
use Rattle.sig_hist.specs.Ways.{AllGrow, Way, AreWithin, contents_at, leaf_source, ways}
use Rattle.sig_rows.proofs.Growing.{alike_ways, grows_longer, same_state}
use Rattle.sig_report.proofs.Numbering.{LooksBelow}
use Rattle.sig_rows.proofs.RowSteps.{IsOpen, IsOpenBody, IsOver, complete_append, first_is_open, next_is_open, next_is_over, open_is_incomplete}
use Rattle.sig_report.specs.Playing.{Watched, advanced, is_at_end, polled, polled_later, with_row}
use Rattle.sig_rows.specs.Flow.{first_body, flow, with_tags}
use Rattle.sig_rows.specs.SoundRows.{AreSound, IsNextRow, IsShownBy, Seen, are_complete, is_awaited, nothing_seen, seen_after, seen_of, tags_of}
use Rattle.sig_rows.specs.declared.rows.Body.{Body}
use Rattle.sig_rows.specs.declared.rows.Body.TheVariants.{Ended}
use Rattle.sig_rows.specs.declared.rows.Row.{Row}
use Rattle.sig_rows.proofs.Showing.{next_given, next_row, next_shows, first_is_open_body, first_shown, flow_is_open, next_is_sound}

-- ---- what a poll computes to

-- a leaf is at the end of a closed history
abbrev pub is_done : List Source → List ℕ → ℕ → Bool
is_done sources at leaf = (slice_index at leaf == length (leaf_source sources leaf).history) && is_closed (writers_of (leaf_source sources leaf).plan.allow) (leaf_source sources leaf).history

module _ (view : ViewTree ℕ) where
  pub all_are_done : (sources : List Source) (at : List ℕ) → ((leaf : ℕ) → is_awaited view sources at leaf ≡ true → is_done sources at leaf ≡ true) → is_at_end view sources at ≡ true
  all_are_done sources at done = all_among (is_done sources at) (awaits (contents_at sources at) view) done

  pub each_is_done : (sources : List Source) (at : List ℕ) (leaf : ℕ) → is_at_end view sources at ≡ true → is_awaited view sources at leaf ≡ true → is_done sources at leaf ≡ true
  each_is_done sources at leaf ends awaited = each_among (is_done sources at) (awaits (contents_at sources at) view) leaf ends awaited

  pub polled_is : (sources : List Source) (at : List ℕ) (first : Row) (rows : List Row) → are_complete (first ∷ rows) ≡ false → let watched : Watched = record { at = at; rows = first ∷ rows } in
      polled view sources watched ≡ polled_later view sources (advanced view sources [] at) watched
  polled_is sources at first rows incomplete =
      let watched : Watched = record { at = at; rows = first ∷ rows } in
      ap (λ (complete : Bool). if complete then watched else polled_later view sources (advanced view sources [] at) watched) incomplete

  -- ---- the rows at a moment

  -- rows that are open at positions of the last sources, and what was seen of them
  pub record OpenAt (final : List Source) (at : List ℕ) (rows : List Row) : Type 0 where
    pub seen : Seen
    pub is_open : IsOpen view final at seen rows
    pub shown : IsShownBy view (contents_at final at) seen

  -- the rows of a view at a moment, sound for the last sources
  pub data Sees (sources final : List Source) : List ℕ → List Row → Type 0 where
    unseen : (at : List ℕ) → Sees sources final at []
    seen : (at : List ℕ) (first : Row) (rows : List Row) → AreInside sources at → OpenAt final at (first ∷ rows) → Sees sources final at (first ∷ rows)
    over : (at : List ℕ) (first : Row) (rows : List Row) → IsOver view final (first ∷ rows) → Sees sources final at (first ∷ rows)

  -- after a poll no leaf is to go on, or the view is over
  pub data IsPolled (sources final : List Source) : List ℕ → List Row → Type 0 where
    caught_up : (at : List ℕ) (first : Row) (rows : List Row) → AreInside sources at → HasAdvanced view sources at at → OpenAt final at (first ∷ rows) → IsPolled sources final at (first ∷ rows)
    ended : (at : List ℕ) (first : Row) (rows : List Row) → IsOver view final (first ∷ rows) → IsPolled sources final at (first ∷ rows)

  inside_later : (sources later : List Source) (at : List ℕ) → AllGrow sources later → AreInside sources at → AreInside later at
  inside_later sources later at grow inside = record { count = inside.count ∙ sym grow.count; each = λ leaf. omega (arith, inside.each leaf, grows_longer _ _ (grow.each leaf)) }

  pub sees_more : (sources later final : List Source) (at : List ℕ) (rows : List Row) → AllGrow sources later → Sees sources final at rows → Sees later final at rows
  sees_more sources later final at rows grow (unseen at') = unseen at'
  sees_more sources later final at rows grow (seen at' first rows' inside is) = seen at' first rows' (inside_later sources later at' grow inside) is
  sees_more sources later final at rows grow (over at' first rows' is) = over at' first rows' is

  pub polled_sees : (sources final : List Source) (at : List ℕ) (rows : List Row) → IsPolled sources final at rows → Sees sources final at rows
  polled_sees sources final at rows (caught_up at' first rows' inside has is) = seen at' first rows' inside is
  polled_sees sources final at rows (ended at' first rows' is) = over at' first rows' is

  pub sound_at_end : (sources final : List Source) (at : List ℕ) (rows : List Row) → Sees sources final at rows → are_complete rows ≡ true → AreSound view final rows
  sound_at_end sources final at rows (unseen at') complete = cc
  sound_at_end sources final at rows (seen at' first rows' inside is) complete = let incomplete = open_is_incomplete (first ∷ rows') is.is_open.are_open in cc
  sound_at_end sources final at rows (over at' first rows' is) complete = is.sound

  -- ---- one poll

  module _ (looks : LooksBelow view) (sources final : List Source) (grow : AllGrow sources final) (in_order : (leaf : ℕ) → IsInOrder (leaf_source final leaf).plan.start) where
    same_contents : (at : List ℕ) → AreInside sources at → contents_at sources at ≡ contents_at final at
    same_contents at inside = λ i leaf. same_state _ _ (slice_index at leaf) (grow.each leaf) (inside.each leaf) i

    still_within : (at : List ℕ) → AreInside sources at → AreWithin final at
    still_within at inside = inside_is_within final at (inside_later sources final at grow inside)

    abbrev IsPolledNow : Watched → Type 0
    IsPolledNow watched = IsPolled sources final watched.at watched.rows

    first_polled : (at : List ℕ) → IsPolledNow (polled view sources (record { at = at; rows = [] }))
    first_polled at =
        let ends : List ℕ = map (λ (source : Source). length source.history) sources in
        let at_ends : (leaf : ℕ) → slice_index ends leaf ≡ length (leaf_source sources leaf).history = λ leaf. map_at (λ (source : Source). length source.history) sources leaf no_source in
        let inside : AreInside sources ends = record { count = length-map sources _; each = λ leaf. omega (arith, at_ends leaf) } in
        let row : Row = record { at = ends; body = first_body view (contents_at final ends) } in
        let open_ : IsOpen view final ends (seen_after (nothing_seen view) row.body) (row ∷ []) = first_is_open view final row (first_is_open_body view _) (record { within = still_within ends inside; whole = refl }) in
        subst (λ (s : ℕ → Content). IsPolledNow (record { at = ends; rows = record { at = ends; body = first_body view s } ∷ [] })) (sym (same_contents ends inside))
        (caught_up ends row [] inside (stays_at_ends view sources ends at_ends) (record { seen = seen_after (nothing_seen view) row.body; is_open = open_; shown = first_shown view _ }))

    module _ (from at : List ℕ) (inside : AreInside sources from) (has : HasAdvanced view sources from at) where
      abbrev here : AreInside sources at
      here = still_inside view sources from at inside has

      awaited_now : (leaf : ℕ) → is_awaited view sources at leaf ≡ is_awaited view final at leaf
      awaited_now leaf = ap (λ (s : ℕ → Content). is_among leaf (awaits s view)) (same_contents at here)

      module _ (seen : Seen) (shows_it : IsShownBy view (contents_at final from) seen) where
        abbrev given : Body
        given = next_given view final in_order from at (all_go_on view sources from at inside has) seen shows_it

        sound_row : pointwise nat_eq from at ≡ false → IsNextRow view final from seen at given
        sound_row moves = next_row view final in_order from at (all_go_on view sources from at inside has) seen shows_it
            (still_within at here) (λ back. other_text from at (sym moves) (sym back)) (λ leaf unawaited. others_stay view sources from at inside has leaf (awaited_now leaf ∙ unawaited))

        shows_next : IsShownBy view (contents_at final at) (seen_after seen given)
        shows_next = next_shows view final in_order from at (all_go_on view sources from at inside has) seen shows_it

      -- by whether all leaves have stayed, and whether the view is at its end
      later_polled : (first : Row) (rows : List Row) (stays ends : Bool) → OpenAt final from (first ∷ rows) → pointwise nat_eq from at ≡ stays → is_at_end view sources at ≡ ends →
          let watched : Watched = record { at = from; rows = first ∷ rows } in
          IsPolledNow (if stays then (if ends then with_row at Ended watched else watched) else with_row at (with_tags (tags_of (seen_of (nothing_seen view) (first ∷ rows))) (flow (ways sources from at) view)) watched)
      later_polled first rows true true is stays ends =
          let done : (leaf : ℕ) → is_awaited view final at leaf ≡ true → (slice_index at leaf ≡ length (leaf_source sources leaf).history) × (is_closed (writers_of (leaf_source sources leaf).plan.allow) (leaf_source sources leaf).history ≡ true) =
          λ leaf awaited. let parts = and_parts _ _ (each_is_done sources at leaf ends (awaited_now leaf ∙ awaited)) in (eqb-true _ _ parts.0, parts.1) in
          ended at first _ (next_is_over view final from is.seen first rows (record { at = at; body = Ended }) is.is_open refl (record {
            stays = sym (same_text from at (sym stays));
            end = λ leaf awaited. (done leaf awaited).0 ∙ ap length (sym ((grow.each leaf).closed (done leaf awaited).1));
            closed = λ leaf awaited. rw ((grow.each leaf).plan, (grow.each leaf).closed (done leaf awaited).1) (done leaf awaited).1;
            last = refl;
          }))
      later_polled first rows true false is stays ends =
          caught_up from first rows inside (subst (λ (positions : List ℕ). HasAdvanced view sources from positions) (sym (same_text from at (sym stays))) has) is
      later_polled first rows false ends is stays at_end =
          let way : ℕ → Way = ways final from at in
          let row : Row = record { at = at; body = given is.seen is.shown } in
          let same : flow (ways sources from at) view ≡ flow way view = same_flow _ _ (λ leaf. alike_ways _ _ _ _ (grow.each leaf) (none_falls view sources from at inside has leaf) (here.each leaf)) view in
          let open_body : IsOpenBody row.body = flow_is_open view (tags_of is.seen) way in
          let open_ : IsOpen view final at (seen_after is.seen row.body) (first ∷ rows ++ row ∷ []) =
          next_is_open view final from is.seen first rows row is.is_open open_body (next_is_sound view final from is.seen at row.body [] open_body (sound_row is.seen is.shown stays)) in
          rw (is.is_open.shows, same) (caught_up at first (rows ++ row ∷ []) here (stays_there view sources from at inside has) (record { seen = seen_after is.seen row.body; is_open = open_; shown = shows_next is.seen is.shown }))

    pub poll : (at : List ℕ) (rows : List Row) → Sees sources final at rows → IsPolledNow (polled view sources (record { at = at; rows = rows }))
    poll at rows (unseen at') = first_polled at'
    poll at rows (seen at' first rows' inside is) =
        subst IsPolledNow (sym (polled_is sources at' first rows' (open_is_incomplete (first ∷ rows') is.is_open.are_open)))
        (later_polled at' (advanced view sources [] at') inside (advanced_has view looks sources at') first rows' _ _ is refl refl)
    poll at rows (over at' first rows' is) = rw is.complete (ended at' first rows' is)

    last_ends : (at : List ℕ) (first : Row) (rows : List Row) (other : Watched) (stays ends : Bool) → stays ≡ true → ends ≡ true → let watched : Watched = record { at = at; rows = first ∷ rows } in
        are_complete (if stays then (if ends then with_row at Ended watched else watched) else other).rows ≡ true
    last_ends at first rows other true true stays at_end = complete_append (first ∷ rows) (record { at = at; body = Ended })
    last_ends at first rows other true false stays at_end = cc
    last_ends at first rows other false still stays at_end = cc

    -- a second poll, where all histories are closed, ends the view
    pub last_poll : (at : List ℕ) (rows : List Row) → ((leaf : ℕ) → is_closed (writers_of (leaf_source sources leaf).plan.allow) (leaf_source sources leaf).history ≡ true) → IsPolled sources final at rows →
        are_complete (polled view sources (record { at = at; rows = rows })).rows ≡ true
    last_poll at rows closed (caught_up at' first rows' inside has is) =
        let watched : Watched = record { at = at'; rows = first ∷ rows' } in
        let at_end : is_at_end view sources at' ≡ true = all_are_done sources at' (λ leaf awaited. and_from _ _ (eq-eqb _ _ (awaited_at_end view sources at' at' inside has leaf awaited)) (closed leaf)) in
        ap (λ (watched : Watched). are_complete watched.rows)
        (polled_is sources at' first rows' (open_is_incomplete (first ∷ rows') is.is_open.are_open) ∙ ap (λ (next : List ℕ). polled_later view sources next watched) (sym (advanced_only view looks sources at' at' has)))
        ∙ last_ends at' first rows' _ _ _ ((bytes_decides at' at').1 refl) at_end
    last_poll at rows closed (ended at' first rows' is) = rw is.complete is.complete
