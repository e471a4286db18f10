-- A lawful report: what it says is true of its script, whichever way it was made.
use Rattle.std.specs.Prelude.{◌≡◌, ℕ, ◌+◌, ◌-◌, ℤ, pos, List, [], ◌∷◌, ◌++◌, length, map, get_or, filter_map, true, nat_lt, if◌then◌else◌, Option, None}
use Rattle.std.specs.List.{list_all}
use Rattle.sig_expr.specs.Leaves.{leaves, numbered}
use Rattle.sig_expr.specs.Shapes.{view_tree}
use Rattle.sig_expr.specs.Shows.{shows}
use Rattle.sig_expr.specs.declared.shown.Shown.{Shown}
use Rattle.sig_expr.specs.declared.expressions.View.{View}
use Rattle.sig_expr.specs.declared.expressions.View.TheVariants as view
use Rattle.sig_hist.specs.Histories.{IsLegal, own_entries}
use Rattle.sig_hist.specs.Plain.{no_source}
use Rattle.sig_hist.specs.Sources.{Source, content_of, is_among, writers_of}
use Rattle.sig_hist.specs.declared.edits.Edit.{Edit}
use Rattle.sig_hist.specs.declared.edits.Edit.TheVariants.{Set, Leave}
use Rattle.sig_hist.specs.declared.edits.Entry.{Entry}
use Rattle.sig_hist.specs.declared.plans.SourcePlan.{SourcePlan}
use Rattle.sig_report.specs.declared.report.Report.{Report}
use Rattle.sig_report.specs.declared.report.SourceReport.{SourceReport}
use Rattle.sig_report.specs.declared.report.ViewReport.{ViewReport}
use Rattle.sig_script.specs.Plans.{plans_of}
use Rattle.sig_script.specs.Rooms.{edits_on}
use Rattle.sig_script.specs.declared.grammar.ViewKind.{ViewKind}
use Rattle.sig_script.specs.declared.grammar.ViewKind.TheVariants as kind
use Rattle.sig_script.specs.declared.types.Script.{Script}
use Rattle.sig_script.specs.declared.types.ShareDef.{ShareDef}
use Rattle.sig_script.specs.declared.types.SourceDef.{SourceDef}
use Rattle.sig_script.specs.declared.types.ViewDef.{ViewDef}
use Rattle.sig_script.specs.declared.types.WriterDef.{WriterDef}
use Rattle.sig_rows.specs.SoundRows.{AreSound, are_complete, nothing_shown, replay_of, without_tags}
use Rattle.sig_rows.specs.laws.SoundRows.{last_contents}
use Rattle.sig_rows.specs.declared.rows.Body.{Body}
use Rattle.sig_rows.specs.declared.rows.Body.TheVariants as body
use Rattle.sig_rows.specs.declared.rows.Row.{Row}

-- each of a list and the one of another at its place, by their number from this one on. The lists are of one length
abbrev pub EachPair : {A B : Type 0} → (ℕ → A → B → Type 0) → ℕ → List A → List B → Type 0
EachPair P number [] [] = Unit {0}
EachPair P number (a ∷ as_) (b ∷ bs) = P number a b × EachPair P (number + 1) as_ bs
EachPair P number _ _ = ⊥

-- ---- sources

-- the sources as the report has them: each with its plan and its history
abbrev pub sources_in : List SourcePlan → List SourceReport → List Source
sources_in (plan ∷ plans) (source ∷ sources) = record { plan = plan; history = source.history } ∷ sources_in plans sources
sources_in _ _ = []

-- the value that a row of a signal gives
abbrev pub signal_value : Body → Option ℤ
signal_value (body.Signal value) = value
signal_value _ = None

abbrev pub no_writer : WriterDef
no_writer = record { name = []; edits = [] }

abbrev pub no_view : ViewReport
no_view = record { name = []; kind = kind.Signal; rows = []; last = Shown.Signal (pos 0) }

abbrev pub given_value : Row → Option ℤ
given_value row = signal_value row.body

-- the edits of a caller on a source, before its leave: a writer's are the script's, a share sets the values that its own rows give
abbrev pub edits_by : Script → Report → ℕ → ℕ → List Edit
edits_by script report source caller =
    if nat_lt caller (length script.writers)
    then edits_on source (get_or script.writers caller no_writer).edits
    else map Set (filter_map given_value (get_or report.views (caller - length script.writers) no_view).rows)

-- a source has its plan's start, a legal history at whose end its content is the last, each writer's edits once and in order and then
-- its leave, and nothing else
pub record IsLawfulSource (source : Source) (edits_of : ℕ → List Edit) (reported : SourceReport) : Type 0 where
  pub start : reported.start ≡ source.plan.start
  pub legal : IsLegal source.plan.start source.plan.cap source.history
  pub last : reported.last ≡ content_of source
  pub edits : (writer : ℕ) → is_among writer (writers_of source.plan.allow) ≡ true →
      map (λ (entry : Entry). entry.edit) (own_entries writer source.history) ≡ edits_of writer ++ Leave ∷ []
  pub nothing_else : list_all (λ (entry : Entry). is_among entry.caller (writers_of source.plan.allow)) source.history ≡ true

-- ---- views

abbrev pub kind_of_view : View → ViewKind
kind_of_view (view.Signal e) = kind.Signal
kind_of_view (view.Vector e) = kind.Vector
kind_of_view (view.Map m) = kind.Map
kind_of_view (view.Entries m) = kind.Entries
kind_of_view (view.Enumerate e) = kind.Enumerate

-- the views of a script: its shares' signals, and then its views
abbrev pub all_views : Script → List View
all_views script = map (λ (share : ShareDef). view.Signal share.signal) script.shares ++ map (λ (view : ViewDef). view.view) script.views

-- the sources of a view's leaves
abbrev pub sources_of : List Source → View → List Source
sources_of sources shown = map (λ source. get_or sources source no_source) (leaves (view_tree shown))

-- a view has sound and complete rows, and its last content is their replay, and without tags the view from scratch of what its leaves
-- hold at the end
pub record IsLawfulView (sources : List Source) (shown : View) (reported : ViewReport) : Type 0 where
  pub kind : reported.kind ≡ kind_of_view shown
  pub sound : AreSound (numbered (view_tree shown)) (sources_of sources shown) reported.rows
  pub complete : are_complete reported.rows ≡ true
  pub last : reported.last ≡ replay_of (nothing_shown (view_tree shown)) reported.rows
  pub shows : without_tags reported.last ≡ shows (numbered (view_tree shown)) (last_contents (sources_of sources shown))

-- ---- the report

pub record Lawful (script : Script) (report : Report) : Type 0 where
  pub source_names : map (λ (source : SourceReport). source.name) report.sources
      ≡ map (λ (source : SourceDef). source.name) script.sources ++ map (λ (share : ShareDef). share.name) script.shares
  pub sources : EachPair (λ number source reported. IsLawfulSource source (edits_by script report number) reported) 0 (sources_in (plans_of script) report.sources) report.sources
  pub view_names : map (λ (view : ViewReport). view.name) report.views
      ≡ map (λ (share : ShareDef). share.name) script.shares ++ map (λ (view : ViewDef). view.name) script.views
  pub views : EachPair (λ number shown reported. IsLawfulView (sources_in (plans_of script) report.sources) shown reported) 0 (all_views script) report.views
