use Rattle.std.proofs.Common.{◌≡◌, ◌++◌}
use Rattle.sig_run.specs.Reporting.{AreOver, view_reports_of}
use Rattle.sig_run.proofs.reporting.view_reports.Given as goal

abbrev pub invariant-views : goal.invariant-views
invariant-views l =
    AreOver l.sources l.def-iterator.a.rest.now l.def-iterator.b.rest.items
    × (l.reports ++ view_reports_of l.def-iterator.a.rest.now l.def-iterator.b.rest.items ≡ view_reports_of l.defs l.fn.views.items)
