use Rattle.trials.specs.Stages.{IsStage}
use Rattle.trials.proofs.hub_plays.poll_out.Given as goal

abbrev pub invariant-polls : goal.invariant-polls
invariant-polls g l = IsStage l.stage
