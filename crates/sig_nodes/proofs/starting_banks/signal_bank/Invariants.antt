use Rattle.std.proofs.Common.{◌≡◌, length, map}
use Rattle.sig_nodes.specs.Nodes.{one_signal, signal_ops, signals_ops}
use Rattle.sig_nodes.specs.Starting.{parts_before, signals_bank}
use Rattle.sig_nodes.proofs.starting_banks.signal_bank.Given as goal

abbrev pub invariant-nodes : goal.invariant-nodes
invariant-nodes l = parts_before one_signal (map signal_ops l.nodes.items) (signals_ops l.bank) ≡ signals_bank (map signal_ops l.fn.nodes.items)

abbrev pub decreases-nodes : goal.decreases-nodes
decreases-nodes l = length l.nodes.items
