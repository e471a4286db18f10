use Rattle.sig_rows.proofs.HalvesReach.{may_take_left, may_take_right}
use Rattle.sig_nodes.proofs.joining.joined.Goals as goal

pub give_half-requires-clause-may_take : goal.give_half-requires-clause-may_take
give_half-requires-clause-may_take c = may_take_left c.args.op.now c.args.lefts.now c.args.rights.now c.requires

pub give_half-requires-2-clause-may_take : goal.give_half-requires-2-clause-may_take
give_half-requires-2-clause-may_take c = rw c.in_ok-give_half.ensures.state (may_take_right c.args.op.now c.args.lefts.now c.args.rights.now c.requires)
