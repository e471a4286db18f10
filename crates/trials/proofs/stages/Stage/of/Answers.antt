use Rattle.trials.proofs.Staged.{all_writing}
use Rattle.trials.proofs.stages.Stage.of.Goals as goal

pub returns : goal.returns
returns c = record { writers = all_writing c.args.watch.hub.machine _ _ c.in_ok-writers.ensures c.requires.writers; jobs = c.requires.jobs }
