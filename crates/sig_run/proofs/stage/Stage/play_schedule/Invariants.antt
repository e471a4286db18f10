use Rattle.std.proofs.Common.{◌≡◌, drop, true}
use Rattle.std.specs.List.{list_all}
use Rattle.sig_report.specs.Playing.{scheduled}
use Rattle.sig_run.specs.Stages.{IsInStep, played_of}
use Rattle.sig_run.proofs.stage.Stage.play_schedule.Given as goal
use Rattle.sig_script.specs.SelfContained.{has_event}

abbrev pub invariant-events : goal.invariant-events
invariant-events l =
    IsInStep l.script l.self
    × (list_all (has_event l.script) (drop l.event-index l.event-items) ≡ true)
    × (scheduled l.script (drop l.event-index l.event-items) (played_of l.self) ≡ scheduled l.script l.event-items (played_of l.initial.self))
