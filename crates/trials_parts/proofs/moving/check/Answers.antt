use Rattle.sig_hist.proofs.Knowing.{changed_more}
use Rattle.trials_parts.specs.Moving.{leaf_checked}
use Rattle.trials_parts.proofs.moving.check.Goals as goal

pub leaves-preserved : goal.leaves-preserved
leaves-preserved c = changed_more (leaf_checked c.args.version) _ _ _ _ _ c.leaves-test.true c.leaves.auto.leaf-items c.leaves.invariant c.checked.ensures
