use Rattle.std.proofs.Common.{◌≡◌, drop}
use Rattle.sig_report.proofs.Endings.{ended_from}
use Rattle.sig_run.specs.Stages.{IsInStep, played_of}
use Rattle.sig_run.proofs.stage.Stage.poll_out.Given as goal

abbrev pub invariant-views : goal.invariant-views
invariant-views l =
    IsInStep l.script l.self
    × (ended_from l.script l.view (drop l.view l.script.views) (played_of l.self) ≡ ended_from l.script 0 l.script.views (played_of l.initial.self))
