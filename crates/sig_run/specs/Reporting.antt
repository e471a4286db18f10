-- The reports of a script's sources and views, each by its definition and what the code has of it.
use Rattle.std.specs.Prelude.{List, ◌∷◌, map}
use Rattle.std.specs.List.{zip}
use Rattle.sig_expr.specs.Shapes.{view_tree}
use Rattle.sig_hist.specs.Sources.{Source, content_of}
use Rattle.sig_report.specs.Lawful.{kind_of_view}
use Rattle.sig_report.specs.declared.report.SourceReport.{SourceReport}
use Rattle.sig_report.specs.declared.report.ViewReport.{ViewReport}
use Rattle.sig_run.specs.Showing.{IsOver}
use Rattle.sig_view.specs.declared.watching.WatchedView.{WatchedView}
use Rattle.sig_script.specs.declared.types.SourceDef.{SourceDef}
use Rattle.sig_script.specs.declared.types.ViewDef.{ViewDef}
use Rattle.sig_rows.specs.SoundRows.{nothing_shown, replay_of}

abbrev pub report_of : SourceDef → Source → SourceReport
report_of def source = record { name = def.name; start = def.start; history = source.history; last = content_of source }

abbrev pub view_report_of : ViewDef → WatchedView → ViewReport
view_report_of def view = record { name = def.name; kind = kind_of_view def.view; rows = view.rows; last = replay_of (nothing_shown (view_tree def.view)) view.rows }

abbrev pub reports_of : List SourceDef → List Source → List SourceReport
reports_of defs sources = map (λ (one : SourceDef × Source). report_of one.0 one.1) (zip defs sources)

abbrev pub view_reports_of : List ViewDef → List WatchedView → List ViewReport
view_reports_of defs views = map (λ (one : ViewDef × WatchedView). view_report_of one.0 one.1) (zip defs views)

-- each view is over, beside its definition
abbrev pub AreOver : List SourceReport → List ViewDef → List WatchedView → Type 0
AreOver reports (def ∷ defs) (view ∷ views) = IsOver reports def.view view.rows × AreOver reports defs views
AreOver reports _ _ = Unit {0}
