-- The play of a script: one fold over the schedule, and then over what is left.
use Rattle.std.specs.Prelude.{ℕ, zero, suc, ◌+◌, ◌==◌, ◌&&◌, List, [], ◌∷◌, ◌++◌, length, map, get_or, slice_get, slice_index, slice_set, Bool, true, false, not, nat_eq, if◌then◌else◌, Option, None, Some}
use Rattle.std.specs.List.{list_all}
use Rattle.std.specs.Cmp.Lexicographic.{pointwise}
use Rattle.sig_expr.specs.Awaited.{awaits}
use Rattle.sig_expr.specs.Leaves.{numbered}
use Rattle.sig_expr.specs.Shapes.{view_tree}
use Rattle.sig_expr.specs.Trees.{ViewTree}
use Rattle.sig_expr.specs.declared.expressions.VecExpr.{VecExpr}
use Rattle.sig_expr.specs.declared.expressions.View.{View}
use Rattle.sig_hist.specs.Changes.{reply_to}
use Rattle.sig_hist.specs.Histories.{is_closed}
use Rattle.sig_hist.specs.Plain.{no_source}
use Rattle.sig_hist.specs.Sources.{Source, content_of, entered, is_among, writers_of}
use Rattle.sig_hist.specs.declared.edits.Edit.{Edit}
use Rattle.sig_hist.specs.declared.edits.Edit.TheVariants.{Set, Leave}
use Rattle.sig_report.specs.Lawful.{all_views, kind_of_view, no_writer, sources_of}
use Rattle.sig_report.specs.declared.report.Report.{Report}
use Rattle.sig_report.specs.declared.report.SourceReport.{SourceReport}
use Rattle.sig_report.specs.declared.report.ViewReport.{ViewReport}
use Rattle.sig_script.specs.Plans.{plans_of}
use Rattle.sig_script.specs.declared.types.Event.{Event}
use Rattle.sig_script.specs.declared.types.Event.TheVariants as event
use Rattle.sig_script.specs.declared.types.Script.{Script}
use Rattle.sig_script.specs.declared.types.ShareDef.{ShareDef}
use Rattle.sig_script.specs.declared.types.SourceDef.{SourceDef}
use Rattle.sig_script.specs.declared.types.ViewDef.{ViewDef}
use Rattle.sig_script.specs.declared.types.WriterDef.{WriterDef}
use Rattle.sig_rows.specs.Flow.{first_body, flow, with_tags}
use Rattle.sig_rows.specs.SoundRows.{are_complete, is_awaited, nothing_seen, nothing_shown, replay_of, seen_of, tags_of}
use Rattle.sig_hist.specs.Ways.{contents_at, leaf_source, ways}
use Rattle.sig_rows.specs.declared.rows.Body.{Body}
use Rattle.sig_rows.specs.declared.rows.Body.TheVariants as body
use Rattle.sig_rows.specs.declared.rows.Body.TheVariants.{Ended}
use Rattle.sig_rows.specs.declared.rows.Row.{Row}

-- a view at one moment: its leaves' positions, and its rows
pub record Watched : Type 0 where
  pub at : List ℕ
  pub rows : List Row

-- a play at one moment: how many events each writer has had, each source, and each view
pub record Played : Type 0 where
  pub done : List ℕ
  pub sources : List Source
  pub views : List Watched

abbrev pub opened : Script → Played
opened script = record {
  done = map (λ writer. 0) script.writers;
  sources = map (λ plan. record { plan = plan; history = [] }) (plans_of script);
  views = map (λ view. record { at = []; rows = [] }) (all_views script);
}

-- ---- a writer's event

-- an edit at the end of a source's history, with its reply
abbrev pub edited_by : ℕ → Edit → Source → Source
edited_by caller edit source = entered source (record { caller = caller; edit = edit; reply = reply_to (content_of source) source.plan.cap edit })

abbrev pub with_edit : ℕ → ℕ → Edit → List Source → List Source
with_edit number caller edit sources = slice_set sources number (edited_by caller edit (get_or sources number no_source))

-- the caller leaves each source that it is a writer of
abbrev pub left_by : ℕ → List Source → List Source
left_by caller sources = map (λ (source : Source). if is_among caller (writers_of source.plan.allow) then edited_by caller Leave source else source) sources

-- by the next edit, if there is one, and whether this is the event after the last
abbrev pub written_by : ℕ → Option (ℕ × Edit) → Bool → List Source → List Source
written_by writer (Some edit) leaves sources = with_edit edit.0 writer edit.1 sources
written_by writer None true sources = left_by writer sources
written_by writer None false sources = sources

-- the writer's event after so many: its next edit, or after the last one its leave. A writer without edits, and one that has left, does nothing
abbrev pub written : ℕ → List (ℕ × Edit) → ℕ → List Source → List Source
written writer edits done sources = written_by writer (slice_get edits done) (not (length edits == 0) && (done == length edits)) sources

abbrev pub edits_of : Script → ℕ → List (ℕ × Edit)
edits_of script writer = (get_or script.writers writer no_writer).edits

abbrev pub by_writer : Script → ℕ → Played → Played
by_writer script writer p = record p {
  done = slice_set p.done writer (get_or p.done writer 0 + 1);
  sources = written writer (edits_of script writer) (get_or p.done writer 0) p.sources;
}

-- ---- a poll

-- The leaves go from left to right: one that is awaited, by where those before it have gone, goes to the end of its source's history,
-- and another stays. `gone` are the positions of those before.
abbrev pub advanced : ViewTree ℕ → List Source → List ℕ → List ℕ → List ℕ
advanced view sources gone [] = gone
advanced view sources gone (position ∷ positions) =
    let leaf = length gone in
    advanced view sources
    (gone ++ (if is_awaited view sources (gone ++ position ∷ positions) leaf then length (leaf_source sources leaf).history else position) ∷ [])
    positions

-- each awaited leaf is at the end of a closed history
abbrev pub is_at_end : ViewTree ℕ → List Source → List ℕ → Bool
is_at_end view sources at =
    list_all (λ leaf. (slice_index at leaf == length (leaf_source sources leaf).history)
    && is_closed (writers_of (leaf_source sources leaf).plan.allow) (leaf_source sources leaf).history)
    (awaits (contents_at sources at) view)

abbrev pub with_row : List ℕ → Body → Watched → Watched
with_row at body watched = record { at = at; rows = watched.rows ++ record { at = at; body = body } ∷ [] }

abbrev pub polled_later : ViewTree ℕ → List Source → List ℕ → Watched → Watched
polled_later view sources at watched =
    if pointwise nat_eq watched.at at
    then (if is_at_end view sources at then with_row at Ended watched else watched)
    else with_row at (with_tags (tags_of (seen_of (nothing_seen view) watched.rows)) (flow (ways sources watched.at at) view)) watched

abbrev pub polled_after : ViewTree ℕ → List Source → List Row → Watched → Watched
polled_after view sources [] watched =
    let at = map (λ (source : Source). length source.history) sources in
    with_row at (first_body view (contents_at sources at)) watched
polled_after view sources rows watched =
    if are_complete rows then watched else polled_later view sources (advanced view sources [] watched.at) watched

-- a poll of a view, by the sources of its leaves: the first gives the first row, a later one a row where a leaf moves, and else the
-- ended row where the view is at its end. After that nothing is given
abbrev pub polled : ViewTree ℕ → List Source → Watched → Watched
polled view sources watched = polled_after view sources watched.rows watched

abbrev pub view_at : Script → ℕ → View
view_at script number = get_or (all_views script) number (View.Vector (VecExpr.Vector 0))

abbrev pub watched_at : Played → ℕ → Watched
watched_at p number = get_or p.views number (record { at = []; rows = [] })

-- a poll of a share or view, by its number among the shares and the views
abbrev pub by_view : Script → ℕ → Played → Played
by_view script number p = record p {
  views = slice_set p.views number
      (polled (numbered (view_tree (view_at script number))) (sources_of p.sources (view_at script number)) (watched_at p number));
}

-- ---- a share's event

abbrev pub shared_body : ℕ → ℕ → Body → List Source → List Source
shared_body source caller (body.Signal (Some value)) sources = with_edit source caller (Set value) sources
shared_body source caller Ended sources = left_by caller sources
shared_body source caller _ sources = sources

-- what a share's row does to its source: a value is set, and with the ended row the share leaves
abbrev pub shared_row : ℕ → ℕ → Option Row → List Source → List Source
shared_row source caller None sources = sources
shared_row source caller (Some row) sources = shared_body source caller row.body sources

-- a poll of a share, and what its row does in the same event
abbrev pub by_share : Script → ℕ → Played → Played
by_share script share p =
    let after = by_view script share p in
    record after {
      sources = shared_row (length script.sources + share) (length script.writers + share)
          (slice_get (watched_at after share).rows (length (watched_at p share).rows)) after.sources;
    }

-- ---- the fold

abbrev pub taken : Script → Event → Played → Played
taken script (event.Writer writer) p = by_writer script writer p
taken script (event.Share share) p = by_share script share p
taken script (event.View view) p = by_view script (length script.shares + view) p

abbrev pub scheduled : Script → List Event → Played → Played
scheduled script [] p = p
scheduled script (event ∷ events) p = scheduled script events (taken script event p)

abbrev pub times : ℕ → (Played → Played) → Played → Played
times zero f p = p
times (suc n) f p = times n f (f p)

-- each of a list in its turn, by its number from this one on
abbrev pub in_turn : {A : Type 0} → (ℕ → A → Played → Played) → ℕ → List A → Played → Played
in_turn f number [] p = p
in_turn f number (x ∷ xs) p = in_turn f (number + 1) xs (f number x p)

-- what is left after the schedule: each writer makes the rest of its edits and leaves, and then each share and each view is polled
-- until it has ended: one poll brings it to the end of closed histories, and one more ends it
abbrev pub finished : Script → Played → Played
finished script p =
    let written_out = in_turn (λ number (writer : WriterDef). times (length writer.edits + 1) (by_writer script number)) 0 script.writers p in
    let shared_out = in_turn (λ number (share : ShareDef). times 2 (by_share script number)) 0 script.shares written_out in
    in_turn (λ number (view : ViewDef). times 2 (by_view script number)) (length script.shares) script.views shared_out

abbrev pub played : Script → Played
played script = finished script (scheduled script script.schedule (opened script))

-- ---- the report

abbrev pub source_reports : List (List ℕ) → List Source → List SourceReport
source_reports (name ∷ names) (source ∷ sources) =
    record { name = name; start = source.plan.start; history = source.history; last = content_of source } ∷ source_reports names sources
source_reports _ _ = []

abbrev pub view_reports : List (List ℕ) → List View → List Watched → List ViewReport
view_reports (name ∷ names) (view ∷ views) (watched ∷ others) =
    record { name = name; kind = kind_of_view view; rows = watched.rows; last = replay_of (nothing_shown (view_tree view)) watched.rows }
    ∷ view_reports names views others
view_reports _ _ _ = []

abbrev pub source_names : Script → List (List ℕ)
source_names script = map (λ (source : SourceDef). source.name) script.sources ++ map (λ (share : ShareDef). share.name) script.shares

abbrev pub view_names : Script → List (List ℕ)
view_names script = map (λ (share : ShareDef). share.name) script.shares ++ map (λ (view : ViewDef). view.name) script.views

abbrev pub play : Script → Report
play script = record {
  sources = source_reports (source_names script) (played script).sources;
  views = view_reports (view_names script) (all_views script) (played script).views;
}
