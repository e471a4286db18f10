use Rattle.sig_nodes.specs.Nodes.{one_signal, signal_ops}
use Rattle.sig_nodes.proofs.BankStarts.{before_one_more}
use Rattle.sig_nodes.proofs.starting_banks.signal_bank.Goals as goal

pub nodes-preserved : goal.nodes-preserved
nodes-preserved c = rw (c.in_ok-bank.ensures, ← before_one_more one_signal signal_ops _ _ _, ← c.in-Some.ensures.items) c.nodes.invariant
