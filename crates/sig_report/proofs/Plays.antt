-- The report of a play is lawful.
use Rattle.std.proofs.Common.{◌≡◌, ◌∙◌, ℕ, ◌+◌, ◌<◌, ◌≤◌, ◌==◌, nat_lt, List, [], ◌∷◌, ◌++◌, length, take, map, get_or, Bool, true, false, None, refl, sym, ap, subst, arith}
use Rattle.std.proofs.lemmas.Bool.{eq-eqb, lt-ltb}
use Rattle.std.proofs.lemmas.List.{length-append, length-map, length_push, take_all}
use Rattle.sig_expr.specs.Leaves.{numbered}
use Rattle.sig_expr.specs.Shapes.{view_tree}
use Rattle.sig_expr.specs.Trees.{ViewTree}
use Rattle.sig_expr.specs.declared.expressions.VecExpr.{VecExpr}
use Rattle.sig_expr.specs.declared.expressions.View.{View}
use Rattle.sig_expr.specs.declared.shown.Shown.{Shown}
use Rattle.sig_hist.specs.Histories.{ends_with_leave, has_left, is_closed, is_leave, own_entries}
use Rattle.sig_hist.specs.Plain.{no_source}
use Rattle.sig_hist.specs.Sources.{Source, is_among, writers_of}
use Rattle.sig_hist.specs.declared.edits.Edit.{Edit}
use Rattle.sig_hist.specs.declared.edits.Edit.TheVariants.{Leave}
use Rattle.sig_hist.specs.declared.edits.Entry.{Entry}
use Rattle.sig_hist.specs.declared.plans.SourcePlan.{SourcePlan}
use Rattle.sig_report.proofs.Allowing.{length_plans_of, plan_in_order, writer_within}
use Rattle.sig_report.proofs.Among.{all_among}
use Rattle.sig_report.proofs.Endings.{AllEnded, Writes, all_done, all_ended, all_write, ended_from, written_from}
use Rattle.sig_report.proofs.Events.{IsPlay, map_at, source_at}
use Rattle.sig_report.proofs.Numbering.{nothing_numbered}
use Rattle.sig_report.proofs.Polls.{unseen}
use Rattle.sig_report.proofs.Reports.{each_source, each_view, source_names_are, source_report, sources_are, view_names_are, view_report}
use Rattle.sig_report.proofs.Schedules.{AllSeen, schedule_goes, schedule_seen, seen_later}
use Rattle.sig_report.proofs.Views.{AllInOrder, SeesView, no_shares, view_sound, views_are}
use Rattle.sig_report.proofs.Writers.{edits_on_append, events_on, own_edits, plan_at}
use Rattle.sig_report.specs.Lawful.{EachPair, IsLawfulSource, IsLawfulView, Lawful, all_views, edits_by, no_writer, sources_in, sources_of}
use Rattle.sig_script.specs.Leaving.{has_no_leaves}
use Rattle.sig_report.specs.Playing.{Played, Watched, by_share, edits_of, in_turn, opened, play, played, scheduled, source_names, source_reports, times, view_at, view_names, watched_at}
use Rattle.sig_report.specs.declared.report.SourceReport.{SourceReport}
use Rattle.sig_script.specs.Built.{unbuilt}
use Rattle.sig_script.specs.Plans.{plans_of}
use Rattle.sig_script.specs.Rooms.{edits_on}
use Rattle.sig_script.specs.Starts.{StartsInOrder}
use Rattle.sig_script.specs.declared.types.Script.{Script}
use Rattle.sig_script.specs.declared.types.ShareDef.{ShareDef}
use Rattle.sig_script.specs.declared.types.SourceDef.{SourceDef}
use Rattle.sig_script.specs.declared.types.ViewDef.{ViewDef}
use Rattle.sig_script.specs.declared.types.WriterDef.{WriterDef}
use Rattle.sig_rows.proofs.RowsShow.{show_the_end}
use Rattle.sig_rows.specs.SoundRows.{AreSound, are_complete, replay_of, without_tags}

-- ---- who has left

-- whether the last edit is a leave
abbrev is_last_leave : List Edit → Bool
is_last_leave [] = false
is_last_leave (edit ∷ []) = is_leave edit
is_last_leave (edit ∷ next ∷ edits) = is_last_leave (next ∷ edits)

by_edits : (entries : List Entry) → ends_with_leave entries ≡ is_last_leave (map (λ (entry : Entry). entry.edit) entries)
by_edits [] = refl
by_edits (entry ∷ []) = refl
by_edits (entry ∷ next ∷ entries) = by_edits (next ∷ entries)

leave_is_last : (edits : List Edit) → is_last_leave (edits ++ Leave ∷ []) ≡ true
leave_is_last [] = refl
leave_is_last (edit ∷ []) = refl
leave_is_last (edit ∷ next ∷ edits) = leave_is_last (next ∷ edits)

-- ---- the start

none_had : (script : Script) (writer : ℕ) → get_or (opened script).done writer 0 ≡ 0
none_had script writer = map_at (λ (writer : WriterDef). 0) script.writers writer no_writer

pub opened_play : (script : Script) → script.shares ≡ [] → IsPlay script (opened script)
opened_play script unshared = record {
  sources = length-map (plans_of script) _ ∙ length_plans_of script unshared;
  done = length-map script.writers _;
  made = λ number.
      let source : Source = record { plan = plan_at script number; history = [] } in
      let is : source_at (opened script) number ≡ source = map_at (λ (plan : SourcePlan). record { plan = plan; history = [] }) (plans_of script) number no_source.plan in
      rw is (record {
        plan = refl;
        legal = tt;
        by_writers = refl;
        own = λ writer among. rw (none_had script writer) refl;
      });
}

-- ---- a view at the end

-- sound rows that have ended show the view from scratch
view_lawful : (name : List ℕ) (shown : View) (sources : List Source) (watched : Watched) → AreSound (numbered (view_tree shown)) (sources_of sources shown) watched.rows → are_complete watched.rows ≡ true →
    IsLawfulView sources shown (view_report name shown watched)
view_lawful name shown sources watched sound complete =
    let tree : ViewTree ℕ = view_tree shown in
    let at_end = show_the_end (numbered tree) (sources_of sources shown) watched.rows sound complete in
    record {
      kind = refl;
      sound = sound;
      complete = complete;
      last = refl;
      shows = ap (λ (nothing : Shown). without_tags (replay_of nothing watched.rows)) (sym (nothing_numbered tree)) ∙ at_end.shows;
    }

module _ (script : Script) (all_built : unbuilt script ≡ None) (no_leaves : has_no_leaves script ≡ true) where
  opened_seen : (final : List Source) → AllInOrder final → AllSeen script all_built final (opened script)
  opened_seen final in_order = record {
    in_order = in_order;
    views = length-map (all_views script) _;
    sees = λ number within.
        let nothing : Watched = record { at = []; rows = [] } in
        let is : watched_at (opened script) number ≡ nothing = map_at (λ (view : View). nothing) (all_views script) number (View.Vector (VecExpr.Vector 0)) in
        subst (λ (watched : Watched). SeesView (view_at script number) (opened script).sources final watched) (sym is) (unseen []);
  }

  -- ---- the end

  -- the moment after the writers, whose sources are the last ones
  abbrev pub written_out : Played
  written_out = written_from script 0 script.writers (scheduled script script.schedule (opened script))

  pub played_is : played script ≡ ended_from script 0 script.views written_out
  played_is = ap (λ (shares : List ShareDef). ended_from script (length shares) script.views (in_turn (λ number (share : ShareDef). times 2 (by_share script number)) 0 shares written_out)) (no_shares script all_built)

  scheduled_play : IsPlay script (scheduled script script.schedule (opened script))
  scheduled_play = (schedule_goes script all_built no_leaves script.schedule (opened script) (opened_play script (no_shares script all_built))).play

  writing : Writes script (scheduled script script.schedule (opened script)) written_out
  writing = all_write script all_built no_leaves 0 script.writers _ scheduled_play

  module _ (number : ℕ) where
    writes_it : (writer : ℕ) → is_among writer (writers_of (source_at written_out number).plan.allow) ≡ true → writer < length script.writers
    writes_it writer among = writer_within script (no_shares script all_built) number writer (rw (writing.goes.play.made number).plan at among)

    -- each writer has made its edits, and has left
    own_at_last : (writer : ℕ) → is_among writer (writers_of (source_at written_out number).plan.allow) ≡ true →
        own_edits writer (source_at written_out number).history ≡ edits_on number (edits_of script writer) ++ Leave ∷ []
    own_at_last writer among =
        let edits : List (ℕ × Edit) = edits_of script writer in
        let done = all_done script all_built no_leaves 0 script.writers _ scheduled_play (omega arith) writer (writes_it writer among) in
        let same : 0 + writer ≡ writer = omega arith in
        let had : length edits + 1 ≤ get_or written_out.done writer 0 = rw same at done in
        let all : take (get_or written_out.done writer 0) (events_on number edits) ≡ events_on number edits = take_all _ (events_on number edits) (omega (arith, had, length_push edits (number, Leave))) in
        let own : (number == number) ≡ true = eq-eqb number number refl in
        (writing.goes.play.made number).own writer among ∙ ap (edits_on number) all ∙ edits_on_append number edits ((number, Leave) ∷ []) ∙ rw own refl

    closed_at_last : is_closed (writers_of (source_at written_out number).plan.allow) (source_at written_out number).history ≡ true
    closed_at_last = all_among (λ writer. has_left writer (source_at written_out number).history) (writers_of (source_at written_out number).plan.allow) (λ writer among.
        by_edits (own_entries writer (source_at written_out number).history) ∙ ap is_last_leave (own_at_last writer among) ∙ leave_is_last (edits_on number (edits_of script writer)))

  module _ (in_order : StartsInOrder script) where
    in_order_at_last : AllInOrder written_out.sources
    in_order_at_last number = rw (writing.goes.play.made number).plan (plan_in_order script in_order number)

    seen_at_last : AllSeen script all_built written_out.sources written_out
    seen_at_last =
        seen_later script all_built written_out.sources (scheduled script script.schedule (opened script)) written_out writing.views writing.goes.grows
        (schedule_seen script all_built no_leaves written_out.sources script.schedule (opened script) (opened_play script (no_shares script all_built)) writing.goes.grows (opened_seen written_out.sources in_order_at_last))

    views_within : length script.views ≡ length (all_views script)
    views_within = sym (ap length (views_are script (no_shares script all_built)) ∙ length-map script.views _)

    over : AllEnded script all_built written_out.sources closed_at_last 0 (length script.views) written_out (played script)
    over = rw played_is (all_ended script all_built written_out.sources closed_at_last 0 script.views written_out (omega (arith, views_within)) (record { seen = seen_at_last; sources = refl }))

    -- ---- the report

    lawful_source : (number : ℕ) (name : List ℕ) → IsLawfulSource (source_at written_out number) (edits_by script (play script) number) (source_report name (source_at written_out number))
    lawful_source number name = record {
      start = refl;
      legal = (writing.goes.play.made number).legal;
      last = refl;
      edits = λ writer among. own_at_last number writer among ∙ (let exists : nat_lt writer (length script.writers) ≡ true = lt-ltb writer (length script.writers) (writes_it number writer among) in rw exists refl);
      nothing_else = (writing.goes.play.made number).by_writers;
    }

    lawful_view : (number : ℕ) (name : List ℕ) → number < length (all_views script) → IsLawfulView written_out.sources (view_at script number) (view_report name (view_at script number) (watched_at (played script) number))
    lawful_view number name within =
        let same : 0 + number ≡ number = omega arith in
        let complete : are_complete (watched_at (played script) number).rows ≡ true = rw same at (over.ended number (rw views_within within)) in
        view_lawful name (view_at script number) written_out.sources (watched_at (played script) number)
        (view_sound (view_at script number) (played script).sources written_out.sources (watched_at (played script) number) (over.last.seen.sees number within) complete) complete

    length_source_names : length (source_names script) ≡ length written_out.sources
    length_source_names =
        let shares : length (map (λ (share : ShareDef). share.name) script.shares) ≡ 0 = rw (no_shares script all_built) refl in
        omega (arith, length-append (map (λ (source : SourceDef). source.name) script.sources) (map (λ (share : ShareDef). share.name) script.shares), length-map script.sources (λ (source : SourceDef). source.name), shares, writing.goes.play.sources)

    length_view_names : length (view_names script) ≡ length (all_views script)
    length_view_names =
        let shares : length (map (λ (share : ShareDef). share.name) script.shares) ≡ 0 = rw (no_shares script all_built) refl in
        omega (arith, length-append (map (λ (share : ShareDef). share.name) script.shares) (map (λ (view : ViewDef). view.name) script.views), length-map script.views (λ (view : ViewDef). view.name), shares, views_within)

    reported_are : (play script).sources ≡ source_reports (source_names script) written_out.sources
    reported_are = ap (source_reports (source_names script)) over.last.sources

    listed_are : sources_in (plans_of script) (source_reports (source_names script) written_out.sources) ≡ written_out.sources
    listed_are =
        let planned : length (plans_of script) ≡ length written_out.sources = length_plans_of script (no_shares script all_built) ∙ sym writing.goes.play.sources in
        sources_are (plans_of script) (source_names script) written_out.sources length_source_names planned (λ number. (writing.goes.play.made number).plan)

    abbrev LawfulAt : ℕ → Source → SourceReport → Type 0
    LawfulAt number source reported = IsLawfulSource source (edits_by script (play script) number) reported

    sources_lawful : EachPair LawfulAt 0 (sources_in (plans_of script) (play script).sources) (play script).sources
    sources_lawful =
        let each : EachPair LawfulAt 0 written_out.sources (source_reports (source_names script) written_out.sources) =
        each_source LawfulAt 0 (source_names script) written_out.sources length_source_names (λ place name within.
        subst (λ (number : ℕ). LawfulAt number (source_at written_out place) (source_report name (source_at written_out place))) (omega arith) (lawful_source place name)) in
        subst (λ (reported : List SourceReport). EachPair LawfulAt 0 (sources_in (plans_of script) reported) reported) (sym reported_are)
        (subst (λ (sources : List Source). EachPair LawfulAt 0 sources (source_reports (source_names script) written_out.sources)) (sym listed_are) each)

    abbrev pub ViewsLawful : List Source → Type 0
    ViewsLawful sources = EachPair (λ number shown reported. IsLawfulView sources shown reported) 0 (all_views script) (play script).views

    lawful_at_last : ViewsLawful written_out.sources
    lawful_at_last =
        each_view (λ number shown reported. IsLawfulView written_out.sources shown reported) 0 (view_names script) (all_views script) (played script).views (View.Vector (VecExpr.Vector 0)) (record { at = []; rows = [] })
        length_view_names over.last.seen.views (λ place name within. lawful_view place name within)

    -- each view is lawful for the sources at the end of the play
    pub views_at_last : ViewsLawful (played script).sources
    views_at_last = subst ViewsLawful (sym over.last.sources) lawful_at_last

    views_lawful : ViewsLawful (sources_in (plans_of script) (play script).sources)
    views_lawful = subst ViewsLawful (sym (ap (sources_in (plans_of script)) reported_are ∙ listed_are)) lawful_at_last

    pub play_is_lawful : Lawful script (play script)
    play_is_lawful = record {
      source_names = ap (map (λ (source : SourceReport). source.name)) reported_are ∙ source_names_are (source_names script) written_out.sources length_source_names;
      sources = sources_lawful;
      view_names = view_names_are (view_names script) (all_views script) (played script).views length_view_names over.last.seen.views;
      views = views_lawful;
    }
