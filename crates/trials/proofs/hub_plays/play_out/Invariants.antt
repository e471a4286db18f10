use Rattle.trials.specs.Stages.{IsStage}
use Rattle.trials.proofs.hub_plays.play_out.Given as goal

abbrev pub invariant-events : goal.invariant-events
invariant-events g l = IsStage l.stage
