use Rattle.std.proofs.Common.{◌≡◌, drop}
use Rattle.sig_report.proofs.Endings.{written_from}
use Rattle.sig_run.specs.Stages.{IsInStep, played_of}
use Rattle.sig_run.proofs.stage.Stage.write_out.Given as goal

abbrev pub invariant-writers : goal.invariant-writers
invariant-writers l =
    IsInStep l.script l.self
    × (written_from l.script l.writer (drop l.writer l.script.writers) (played_of l.self) ≡ written_from l.script 0 l.script.writers (played_of l.initial.self))
