use Rattle.sig_nodes.proofs.OverGiven.{may_give_lists, may_give_outer}
use Rattle.sig_nodes.proofs.joining.flattened.Goals as goal

pub give_outer-requires : goal.give_outer-requires
give_outer-requires c = record { may_take = may_give_outer c.requires }

pub give_parts-requires : goal.give_parts-requires
give_parts-requires c = record { may_take = rw c.in_ok-give_outer.ensures.state (may_give_lists c.requires) }
