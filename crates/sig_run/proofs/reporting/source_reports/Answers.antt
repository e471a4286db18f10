use Rattle.std.proofs.Common.{◌≡◌, ◌⊎◌, inl, inr, ◌∙◌, ◌<◌, ◌^◌, length, arith, sym}
use Rattle.std.proofs.lemmas.Grind.{common_steps}
use Rattle.std.proofs.lemmas.List.Elements.{All-push}
use Rattle.sig_hist.specs.Sources.{Source}
use Rattle.sig_report.specs.declared.report.SourceReport.{SourceReport}
use Rattle.sig_run.proofs.Reported.{none_left}
use Rattle.sig_run.specs.Reporting.{report_of}
use Rattle.sig_run.proofs.reporting.source_reports.Goals as goal
use Rattle.sig_script.specs.declared.types.SourceDef.{SourceDef}

pub sources-preserved : goal.sources-preserved
sources-preserved c = (
  grind (arith, common_steps),
  rw c.in_ok-push.ensures.ok (All-push (λ (report : SourceReport). length report.history < 2 ^ 32) c.sources.reports c.in_ok-source_report.field-0 c.sources.invariant.1 c.in_ok-source_report.ensures.few),
)

pub returns-clause-reports : goal.returns-clause-reports
returns-clause-reports c =
    let defs = c.sources.def-iterator.a.rest.now in
    let sources = c.sources.def-iterator.b.rest in
    let none : (length defs ≡ 0) ⊎ (length sources.items ≡ 0) =
    elim c.in-None.ensures.steps as (λ _. (length defs ≡ 0) ⊎ (length sources.items ≡ 0)) [ inl first ↦ inl first.1.0 | inr second ↦ inr (sym sources.ok.0 ∙ second.1.0) ] in
    none_left (λ (one : SourceDef × Source). report_of one.0 one.1) c.sources.reports _ defs sources.items none c.sources.invariant.0
