use Rattle.std.proofs.Common.{◌≡◌, length, map}
use Rattle.sig_nodes.specs.Nodes.{list_ops, lists_ops, one_list}
use Rattle.sig_nodes.specs.Starting.{lists_bank, parts_before}
use Rattle.sig_nodes.proofs.starting_banks.list_bank.Given as goal

abbrev pub invariant-nodes : goal.invariant-nodes
invariant-nodes l = parts_before one_list (map list_ops l.nodes.items) (lists_ops l.bank) ≡ lists_bank (map list_ops l.fn.nodes.items)

abbrev pub decreases-nodes : goal.decreases-nodes
decreases-nodes l = length l.nodes.items
