use Rattle.sig_hub.proofs.Fair.{source_by}
use Rattle.sig_hub.proofs.plans.is_source.Goals as goal

pub returns-then-is_plan : goal.returns-then-is_plan
returns-then-is_plan c = source_by c.args.writers c.args.plan.now c.as_slice.result.now c.are_by.result c.as_slice.ensures (c.is_plan.ensures.0 c.if-is_plan.true) c.are_by.ensures
