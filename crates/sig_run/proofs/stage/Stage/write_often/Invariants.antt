use Rattle.std.proofs.Common.{◌≡◌, ◌-◌, ◌+◌}
use Rattle.sig_report.specs.Playing.{by_writer, times}
use Rattle.sig_run.specs.Stages.{IsInStep, played_of}
use Rattle.sig_run.proofs.stage.Stage.write_often.Given as goal

abbrev pub invariant-rest : goal.invariant-rest
invariant-rest l =
    IsInStep l.script l.self
    × (times (l.count - l._event) (by_writer l.script l.writer) (played_of l.self) ≡ times (l.count + 1) (by_writer l.script l.writer) (played_of l.fn.self))
