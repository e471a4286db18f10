-- A hub with one poller and an executor over it, between two events.
use Rattle.std.specs.Prelude.{All, IfSome}
use Rattle.sig_exec.specs.Jobs.{AreJobs}
use Rattle.sig_flag.specs.Machines.{Machine}
use Rattle.sig_hub.specs.Passes.{IsOf}
use Rattle.trials.specs.declared.stages.Stage.{Stage}
use Rattle.trials.specs.declared.stages.Writing.{Writing}

-- a writer whose pass is the hub's, or which has left
abbrev pub IsWriting : Machine → Writing → Type 0
IsWriting machine writing = IfSome writing.pass (IsOf machine)

pub record IsStage (stage : Stage) : Type 0 where
  pub writers : All (IsWriting stage.hub.machine) stage.writers.items
  pub jobs : AreJobs stage.hub stage.pass stage.exec
