use Rattle.std.proofs.Common.{◌∙◌}
use Rattle.sig_run.proofs.AtEnd.{views_over}
use Rattle.sig_run.proofs.Reported.{sources_are, views_reports_are}
use Rattle.sig_run.proofs.stage.Stage.report.Goals as goal

pub view_reports-requires : goal.view_reports-requires
view_reports-requires c =
    let sources = rw (c.as_slice.ensures, c.into_sources.ensures) at c.in_ok-sources.ensures.reports ∙ sources_are c.args.script.now c.args.self c.requires.step in
    rw c.as_slice-2.ensures (views_over c.args.script.now c.args.self c.requires.step c.requires.over _ (c.as_slice-3.ensures ∙ sources))

pub returns-clause-report : goal.returns-clause-report
returns-clause-report c =
    let sources = rw (c.as_slice.ensures, c.into_sources.ensures) at c.in_ok-sources.ensures.reports ∙ sources_are c.args.script.now c.args.self c.requires.step in
    let views = rw c.as_slice-2.ensures at c.in_ok-views.ensures ∙ views_reports_are c.args.script.now c.args.self c.requires.step in
    λ i. record { sources = sources i; views = views i }
