use Rattle.trials.specs.Stages.{IsStage}
use Rattle.trials.proofs.hub_plays.write_out.Given as goal

abbrev pub invariant-writers : goal.invariant-writers
invariant-writers g l = IsStage l.stage
