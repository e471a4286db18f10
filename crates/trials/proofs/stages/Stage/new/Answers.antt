use Rattle.sig_hub.proofs.AllOf.{all_of_hub}
use Rattle.trials.proofs.stages.Stage.new.Goals as goal

pub of-requires-clause-writers : goal.of-requires-clause-writers
of-requires-clause-writers c = all_of_hub _ _ _ _ c.in-Ok.ensures.ok.writers_are
