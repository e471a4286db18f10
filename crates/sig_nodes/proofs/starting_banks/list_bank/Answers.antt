use Rattle.sig_nodes.specs.Nodes.{list_ops, one_list}
use Rattle.sig_nodes.proofs.BankStarts.{before_one_more}
use Rattle.sig_nodes.proofs.starting_banks.list_bank.Goals as goal

pub nodes-preserved : goal.nodes-preserved
nodes-preserved c = rw (c.in_ok-bank.ensures, ← before_one_more one_list list_ops _ _ _, ← c.in-Some.ensures.items) c.nodes.invariant
