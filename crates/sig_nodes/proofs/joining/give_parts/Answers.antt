use Rattle.sig_nodes.proofs.OverGiven.{next_given}
use Rattle.sig_rows.proofs.GoingAlong.{may_take, one_taken}
use Rattle.sig_nodes.proofs.joining.give_parts.Goals as goal

pub give_part-requires : goal.give_part-requires
give_part-requires c =
    record { may_take = (next_given c.lists.op c.list-item.result _ (may_take c.lists.invariant c.list-item.result c.lists-test.true c.list-item.is)).takes }

pub lists-preserved : goal.lists-preserved
lists-preserved c =
    let may = may_take c.lists.invariant c.list-item.result c.lists-test.true c.list-item.is in
    one_taken c.lists.invariant c.list-item.result c.lists-test.true c.list-item.is c.give_part.new.op c.give_part.new.given c.in_ok-give_part.ensures.state c.in_ok-give_part.ensures.given
    (next_given c.lists.op c.list-item.result _ may).later
