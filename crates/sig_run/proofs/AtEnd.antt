-- At the end of a play each view's rows can be shown, and show the view from scratch of its sources' last contents.
use Rattle.std.proofs.Common.{◌≡◌, ◌∙◌, ℕ, zero, suc, ◌+◌, List, [], ◌∷◌, ◌++◌, length, map, get_or, false, refl, sym, ap, subst, arith, rules}
use Rattle.std.proofs.lemmas.List.{append-nil, length-map}
use Rattle.sig_diff.specs.declared.contents.Content.{Content}
use Rattle.sig_expr.specs.Leaves.{leaves, numbered}
use Rattle.sig_expr.specs.Shapes.{view_tree}
use Rattle.sig_expr.specs.Shows.{content_of as content_at, shows}
use Rattle.sig_expr.specs.Trees.{ViewTree, signal_view, vector_view, map_view, entries_view, tagged_view}
use Rattle.sig_expr.specs.declared.expressions.VecExpr.{VecExpr}
use Rattle.sig_expr.specs.declared.expressions.View.{View}
use Rattle.sig_expr.specs.declared.expressions.View.TheVariants.{Enumerate}
use Rattle.sig_expr.specs.declared.shown.Shown.{Shown}
use Rattle.sig_expr.specs.declared.shown.Shown.TheVariants as shown
use Rattle.sig_hist.specs.Plain.{no_source}
use Rattle.sig_hist.specs.Sources.{Source, content_of}
use Rattle.sig_report.proofs.Numbering.{nothing_numbered}
use Rattle.sig_report.proofs.Plays.{views_at_last}
use Rattle.sig_report.proofs.Reports.{view_report}
use Rattle.sig_report.proofs.Views.{no_shares, views_are}
use Rattle.sig_report.specs.Lawful.{EachPair, IsLawfulView, all_views}
use Rattle.sig_report.specs.Playing.{Played, played, source_names, source_reports, view_names, view_reports}
use Rattle.sig_report.specs.declared.report.SourceReport.{SourceReport}
use Rattle.sig_rows.proofs.Showing.{kind_stays}
use Rattle.sig_rows.specs.Flow.{first_body}
use Rattle.sig_rows.specs.SoundRows.{AreSound, AreSoundAfter, IsSoundRow, Seen, has_tags, nothing_seen, nothing_shown, replay_of, seen_after, shown_after, without_tags}
use Rattle.sig_rows.specs.laws.SoundRows.{last_contents}
use Rattle.sig_rows.specs.declared.rows.Body.{Body}
use Rattle.sig_rows.specs.declared.rows.Body.TheVariants.{Ended}
use Rattle.sig_rows.specs.declared.rows.Row.{Row}
use Rattle.sig_run.specs.Reporting.{AreOver}
use Rattle.sig_run.specs.Showing.{AreShowable, IsOver, IsShowable, contents_under, last_of}
use Rattle.sig_run.specs.Stages.{IsInStep, played_of, reported}
use Rattle.sig_run.specs.Watching.{watched_of}
use Rattle.sig_run.specs.declared.stage.Stage.{Stage}
use Rattle.sig_view.specs.declared.watching.WatchedView.{WatchedView}
use Rattle.sig_script.specs.declared.types.Script.{Script}
use Rattle.sig_script.specs.declared.types.ShareDef.{ShareDef}
use Rattle.sig_script.specs.declared.types.SourceDef.{SourceDef}
use Rattle.sig_script.specs.declared.types.ViewDef.{ViewDef}

-- ---- sound rows can be shown

first_is_showable : (view : ViewTree ℕ) (s : ℕ → Content) → IsShowable (nothing_shown view) (first_body view s)
first_is_showable (signal_view e) s = tt
first_is_showable (vector_view e) s = (refl, tt)
first_is_showable (map_view m) s = search rules
first_is_showable (entries_view m) s = (refl, tt)
first_is_showable (tagged_view e) s = (refl, tt)

row_is_showable : (view : ViewTree ℕ) (sources : List Source) (from : List ℕ) (seen : Seen) (at : List ℕ) (given : Body) (later : List Row) → IsSoundRow view sources from seen at given later → IsShowable seen.shown given
row_is_showable view sources from seen at Ended later is = tt
row_is_showable view sources from seen at given later is = is.lawful

later_are_showable : (view : ViewTree ℕ) (sources : List Source) (from : List ℕ) (seen : Seen) (rows : List Row) → AreSoundAfter view sources from seen rows → AreShowable seen.shown rows
later_are_showable view sources from seen [] sound = tt
later_are_showable view sources from seen (row ∷ rows) sound =
    (row_is_showable view sources from seen row.at row.body rows sound.0, later_are_showable view sources row.at (seen_after seen row.body) rows sound.1)

are_showable : (view : ViewTree ℕ) (sources : List Source) (rows : List Row) → AreSound view sources rows → AreShowable (nothing_shown view) rows
are_showable view sources [] sound = tt
are_showable view sources (row ∷ rows) sound =
    (rw sound.0.whole (first_is_showable view _), later_are_showable view sources row.at (seen_after (nothing_seen view) row.body) rows sound.1)

-- ---- with tags and without

kind_of_rows : (seen : Shown) (rows : List Row) → has_tags (replay_of seen rows) ≡ has_tags seen
kind_of_rows seen [] = refl
kind_of_rows seen (row ∷ rows) = kind_of_rows (shown_after seen row.body) rows ∙ kind_stays seen row.body

bare : (seen : Shown) → has_tags seen ≡ false → without_tags seen ≡ seen
bare (shown.Tagged elements) none = cc
bare seen none = refl

untagged : (view : View) → ((list : VecExpr) → view ≡ Enumerate list → ⊥) → has_tags (nothing_shown (view_tree view)) ≡ false
untagged (Enumerate list) other = absurd (other list refl)
untagged view other = refl

-- what has no tags is the view from scratch
pub shown_from_scratch : (view : View) (rows : List Row) → ((list : VecExpr) → view ≡ Enumerate list → ⊥) →
    without_tags (replay_of (nothing_shown (view_tree view)) rows) ≡ replay_of (nothing_shown (view_tree view)) rows
shown_from_scratch view rows other = let nothing : Shown = nothing_shown (view_tree view) in bare (replay_of nothing rows) (kind_of_rows nothing rows ∙ untagged view other)

-- ---- last contents

last_is : (names : List (List ℕ)) (sources : List Source) → length names ≡ length sources → (number : ℕ) → last_of (source_reports names sources) number ≡ content_of (get_or sources number no_source)
last_is [] [] same number = refl
last_is [] (source ∷ sources) same number = absurd (omega (arith, same))
last_is (name ∷ names) [] same number = absurd (omega (arith, same))
last_is (name ∷ names) (source ∷ sources) same zero = refl
last_is (name ∷ names) (source ∷ sources) same (suc number) = last_is names sources (omega (arith, same)) number

module _ (reports : List SourceReport) (sources : List Source) (each : (number : ℕ) → last_of reports number ≡ content_of (get_or sources number no_source)) where
  same_content : (labels : List ℕ) (leaf : ℕ) → last_contents (map (λ source. get_or sources source no_source) labels) leaf ≡ content_at (contents_under reports labels) leaf
  same_content [] leaf = refl
  same_content (label ∷ labels) zero = sym (each label)
  same_content (label ∷ labels) (suc leaf) = same_content labels leaf

  -- ---- views

  is_over : (name : List ℕ) (shown : View) (view : WatchedView) → IsLawfulView sources shown (view_report name shown (watched_of view)) → IsOver reports shown view.rows
  is_over name shown view is =
      let tree : ViewTree ℕ = view_tree shown in
      record {
        showable = subst (λ (nothing : Shown). AreShowable nothing view.rows) (nothing_numbered tree) (are_showable (numbered tree) _ view.rows is.sound);
        ends = is.shows ∙ (λ i. shows (numbered tree) (λ leaf. same_content (leaves tree) leaf i));
      }

  are_over : (number : ℕ) (defs : List ViewDef) (views : List WatchedView) →
      EachPair (λ number shown reported. IsLawfulView sources shown reported) number (map (λ (def : ViewDef). def.view) defs) (view_reports (map (λ (def : ViewDef). def.name) defs) (map (λ (def : ViewDef). def.view) defs) (map watched_of views)) →
      AreOver reports defs views
  are_over number [] views each_lawful = tt
  are_over number (def ∷ defs) [] each_lawful = tt
  are_over number (def ∷ defs) (view ∷ views) each_lawful = (is_over def.name def.view view each_lawful.0, are_over (number + 1) defs views each_lawful.1)

-- ---- the stage

module _ (script : Script) (stage : Stage) (step : IsInStep script stage) (over : played_of stage ≡ played script) where
  abbrev AreLawfulFor : List Source → List (List ℕ) → List View → Played → Type 0
  AreLawfulFor sources names shown p = EachPair (λ number shown reported. IsLawfulView sources shown reported) 0 shown (view_reports names shown p.views)

  pub views_over : (reports : List SourceReport) → reports ≡ (reported script (played_of stage)).sources → AreOver reports script.views stage.views.items
  views_over reports are =
      let unshared : script.shares ≡ [] = no_shares script step.playable.built in
      let shown : all_views script ≡ map (λ (def : ViewDef). def.view) script.views = views_are script unshared in
      let names : view_names script ≡ map (λ (def : ViewDef). def.name) script.views =
      ap (λ (shares : List ShareDef). map (λ (share : ShareDef). share.name) shares ++ map (λ (def : ViewDef). def.name) script.views) unshared in
      let lawful : AreLawfulFor stage.port.sources (view_names script) (all_views script) (played_of stage) =
      subst (λ (p : Played). AreLawfulFor p.sources (view_names script) (all_views script) p) (sym over) (views_at_last script step.playable.built step.playable.no_leaves step.playable.in_order) in
      let count : length (source_names script) ≡ length stage.port.sources =
      ap (λ (shares : List ShareDef). length (map (λ (def : SourceDef). def.name) script.sources ++ map (λ (share : ShareDef). share.name) shares)) unshared
      ∙ ap length (append-nil (map (λ (def : SourceDef). def.name) script.sources)) ∙ length-map script.sources _ ∙ sym step.play.sources in
      are_over reports stage.port.sources (λ number. ap (λ (reports : List SourceReport). last_of reports number) are ∙ last_is (source_names script) stage.port.sources count number) 0 script.views stage.views.items
      (subst (λ (names : List (List ℕ)). AreLawfulFor stage.port.sources names (map (λ (def : ViewDef). def.view) script.views) (played_of stage)) names
      (subst (λ (shown : List View). AreLawfulFor stage.port.sources (view_names script) shown (played_of stage)) shown lawful))
