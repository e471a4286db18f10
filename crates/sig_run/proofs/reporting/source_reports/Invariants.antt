use Rattle.std.proofs.Common.{◌≡◌, ◌++◌, ◌<◌, ◌^◌, length, All}
use Rattle.sig_report.specs.declared.report.SourceReport.{SourceReport}
use Rattle.sig_run.specs.Reporting.{reports_of}
use Rattle.sig_run.proofs.reporting.source_reports.Given as goal

abbrev pub invariant-sources : goal.invariant-sources
invariant-sources l =
    (l.reports ++ reports_of l.def-iterator.a.rest.now l.def-iterator.b.rest.items ≡ reports_of l.defs l.fn.sources.items)
    × All (λ (report : SourceReport). length report.history < 2 ^ 32) l.reports
