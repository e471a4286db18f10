-- The reports of the code are those of the play.
use Rattle.std.proofs.Common.{◌≡◌, ◌⊎◌, inl, inr, ◌∙◌, ℕ, ◌+◌, List, [], ◌∷◌, ◌++◌, length, map, refl, sym, ap, ap₂, arith}
use Rattle.std.proofs.lemmas.List.{append-nil}
use Rattle.std.specs.List.{zip}
use Rattle.sig_diff.specs.declared.contents.Content.{Content}
use Rattle.sig_expr.specs.Shapes.{view_tree}
use Rattle.sig_expr.specs.declared.expressions.View.{View}
use Rattle.sig_hist.specs.Sources.{Source, content_of}
use Rattle.sig_hist.specs.declared.plans.SourcePlan.{SourcePlan}
use Rattle.sig_report.proofs.Allowing.{length_plans_of, plans_are}
use Rattle.sig_report.proofs.Endings.{ended_from, written_from}
use Rattle.sig_report.proofs.Plays.{played_is}
use Rattle.sig_report.proofs.Reports.{plans_kept}
use Rattle.sig_report.proofs.Views.{no_shares, views_are}
use Rattle.sig_report.specs.Lawful.{Lawful, all_views, kind_of_view}
use Rattle.sig_report.specs.Playing.{Played, opened, play, played, scheduled, source_names, source_reports, view_names, view_reports}
use Rattle.sig_report.specs.Text.{report_text}
use Rattle.sig_report.specs.declared.report.Report.{Report}
use Rattle.sig_report.specs.declared.report.SourceReport.{SourceReport}
use Rattle.sig_report.specs.declared.report.ViewReport.{ViewReport}
use Rattle.sig_run.specs.Program.{IsReportOf}
use Rattle.sig_run.specs.Reporting.{reports_of, view_reports_of}
use Rattle.sig_run.specs.Stages.{IsInStep, IsPlayable, played_of, reported}
use Rattle.sig_run.specs.Watching.{watched_of}
use Rattle.sig_run.specs.declared.stage.Stage.{Stage}
use Rattle.sig_view.specs.declared.watching.WatchedView.{WatchedView}
use Rattle.sig_script.specs.Plans.{plans_of, source_plans}
use Rattle.sig_script.specs.declared.types.Script.{Script}
use Rattle.sig_script.specs.declared.types.ShareDef.{ShareDef}
use Rattle.sig_script.specs.declared.types.SourceDef.{SourceDef}
use Rattle.sig_script.specs.declared.types.ViewDef.{ViewDef}
use Rattle.sig_script.specs.declared.types.WriterDef.{WriterDef}
use Rattle.sig_rows.specs.SoundRows.{nothing_shown, replay_of}

-- ---- a loop over a list and another beside it

zip_none : {A B : Type 0} (xs : List A) (ys : List B) → (length xs ≡ 0) ⊎ (length ys ≡ 0) → zip xs ys ≡ []
zip_none [] ys none = refl
zip_none (x ∷ xs) [] none = refl
zip_none (x ∷ xs) (y ∷ ys) (inl none) = absurd (omega (arith, none))
zip_none (x ∷ xs) (y ∷ ys) (inr none) = absurd (omega (arith, none))

pub none_left : {A B C : Type 0} (f : A × B → C) (done all : List C) (xs : List A) (ys : List B) → (length xs ≡ 0) ⊎ (length ys ≡ 0) → done ++ map f (zip xs ys) ≡ all → done ≡ all
none_left f done all xs ys none is = sym (append-nil done) ∙ ap (λ (pairs : List (_ × _)). done ++ map f pairs) (sym (zip_none xs ys none)) ∙ is

-- ---- sources

plan_starts : (writers : List WriterDef) (number : ℕ) (defs : List SourceDef) → map (λ (plan : SourcePlan). plan.start) (source_plans writers number defs) ≡ map (λ (def : SourceDef). def.start) defs
plan_starts writers number [] = refl
plan_starts writers number (def ∷ defs) = ap (λ (others : List Content). def.start ∷ others) (plan_starts writers (number + 1) defs)

starts_of : (sources : List Source) → map (λ (source : Source). source.plan.start) sources ≡ map (λ (plan : SourcePlan). plan.start) (map (λ (source : Source). source.plan) sources)
starts_of [] = refl
starts_of (source ∷ sources) = ap (λ (others : List Content). source.plan.start ∷ others) (starts_of sources)

sources_reported : (defs : List SourceDef) (sources : List Source) → map (λ (source : Source). source.plan.start) sources ≡ map (λ (def : SourceDef). def.start) defs →
    reports_of defs sources ≡ source_reports (map (λ (def : SourceDef). def.name) defs) sources
sources_reported [] [] starts = refl
sources_reported [] (source ∷ sources) starts = cc
sources_reported (def ∷ defs) [] starts = cc
sources_reported (def ∷ defs) (source ∷ sources) starts =
    let first : def.start ≡ source.plan.start = cc in
    let others : map (λ (source : Source). source.plan.start) sources ≡ map (λ (def : SourceDef). def.start) defs = cc in
    ap₂ (λ (start : Content) (others : List SourceReport). record { name = def.name; start = start; history = source.history; last = content_of source } ∷ others) first (sources_reported defs sources others)

-- ---- views

views_reported : (defs : List ViewDef) (views : List WatchedView) →
    view_reports_of defs views ≡ view_reports (map (λ (def : ViewDef). def.name) defs) (map (λ (def : ViewDef). def.view) defs) (map watched_of views)
views_reported [] views = refl
views_reported (def ∷ defs) [] = refl
views_reported (def ∷ defs) (view ∷ views) =
    ap (λ (others : List ViewReport). record { name = def.name; kind = kind_of_view def.view; rows = view.rows; last = replay_of (nothing_shown (view_tree def.view)) view.rows } ∷ others) (views_reported defs views)

-- ---- the report

module _ (script : Script) (stage : Stage) (step : IsInStep script stage) where
  unshared : script.shares ≡ []
  unshared = no_shares script step.playable.built

  pub sources_are : reports_of script.sources stage.port.sources ≡ (reported script (played_of stage)).sources
  sources_are =
      let sources : List Source = stage.port.sources in
      let planned : plans_of script ≡ map (λ (source : Source). source.plan) sources =
      plans_kept (plans_of script) sources (length_plans_of script unshared ∙ sym step.play.sources) (λ number. (step.play.made number).plan) in
      let starts : map (λ (source : Source). source.plan.start) sources ≡ map (λ (def : SourceDef). def.start) script.sources =
      starts_of sources ∙ ap (map (λ (plan : SourcePlan). plan.start)) (sym planned ∙ plans_are script unshared) ∙ plan_starts script.writers 0 script.sources in
      let names : source_names script ≡ map (λ (def : SourceDef). def.name) script.sources =
      ap (λ (shares : List ShareDef). map (λ (def : SourceDef). def.name) script.sources ++ map (λ (share : ShareDef). share.name) shares) unshared ∙ append-nil _ in
      sources_reported script.sources sources starts ∙ ap (λ (names : List (List ℕ)). source_reports names sources) (sym names)

  pub views_reports_are : view_reports_of script.views stage.views.items ≡ (reported script (played_of stage)).views
  views_reports_are =
      let shown : all_views script ≡ map (λ (def : ViewDef). def.view) script.views = views_are script unshared in
      let names : view_names script ≡ map (λ (def : ViewDef). def.name) script.views =
      ap (λ (shares : List ShareDef). map (λ (share : ShareDef). share.name) shares ++ map (λ (def : ViewDef). def.name) script.views) unshared in
      views_reported script.views stage.views.items
      ∙ ap₂ (λ (names : List (List ℕ)) (shown : List View). view_reports names shown (map watched_of stage.views.items)) (sym names) (sym shown)

-- a play that has gone on to its end, and its report
pub play_over : (script : Script) (p : Played) → IsPlayable script → p ≡ ended_from script 0 script.views (written_from script 0 script.writers (scheduled script script.schedule (opened script))) → p ≡ played script
play_over script p playable ends = ends ∙ sym (played_is script playable.built playable.no_leaves)

pub reported_play : (script : Script) (p : Played) → p ≡ played script → reported script p ≡ play script
reported_play script p over = ap (reported script) over

pub reports_of_play : (script : Script) (report : Report) (text : List ℕ) → Lawful script (play script) → report ≡ play script → text ≡ report_text script report → IsReportOf script text
reports_of_play script report text lawful played is_text = record { report = report; lawful = rw played lawful; played = played; is_text = is_text }
