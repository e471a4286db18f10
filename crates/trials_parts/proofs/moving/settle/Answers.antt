use Rattle.sig_hist.specs.Plain.{leaf_settled}
use Rattle.sig_hist.proofs.Knowing.{changed_more}
use Rattle.trials_parts.proofs.moving.settle.Goals as goal

pub leaves-preserved : goal.leaves-preserved
leaves-preserved c = changed_more leaf_settled _ _ _ _ _ c.leaves-test.true c.leaves.auto.leaf-items c.leaves.invariant c.settled.ensures
