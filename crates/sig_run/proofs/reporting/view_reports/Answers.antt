use Rattle.std.proofs.Common.{◌≡◌, ◌⊎◌, inl, inr, ◌∙◌, length, sym}
use Rattle.sig_run.proofs.Reported.{none_left}
use Rattle.sig_run.specs.Reporting.{view_report_of}
use Rattle.sig_view.specs.declared.watching.WatchedView.{WatchedView}
use Rattle.sig_run.proofs.reporting.view_reports.Goals as goal
use Rattle.sig_script.specs.declared.types.ViewDef.{ViewDef}

pub returns : goal.returns
returns c =
    let defs = c.views.def-iterator.a.rest.now in
    let views = c.views.def-iterator.b.rest in
    let none : (length defs ≡ 0) ⊎ (length views.items ≡ 0) =
    elim c.in-None.ensures.steps as (λ _. (length defs ≡ 0) ⊎ (length views.items ≡ 0)) [ inl first ↦ inl first.1.0 | inr second ↦ inr (sym views.ok.0 ∙ second.1.0) ] in
    none_left (λ (one : ViewDef × WatchedView). view_report_of one.0 one.1) c.views.reports _ defs views.items none c.views.invariant.1
