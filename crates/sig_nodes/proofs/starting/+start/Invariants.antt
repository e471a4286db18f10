use Rattle.std.proofs.Common.{◌≡◌, ◌≤◌, ◌+◌, drop, length, map}
use Rattle.std.specs.List.{All}
use Rattle.sig_expr.specs.Leaves.{number_sigs, number_vecs, sigs_leaves, vecs_leaves}
use Rattle.sig_expr.specs.Shapes.{sig_tree, sig_trees, vec_tree, vec_trees}
use Rattle.sig_nodes.proofs.BankStarts.{AreStarted}
use Rattle.sig_walk.specs.Fetching.{content_in}
use Rattle.sig_expr.specs.Lengths.{sigs_longest, vecs_longest}
use Rattle.sig_nodes.specs.Nodes.{list_ops, one_list, one_signal, signal_ops}
use Rattle.sig_nodes.specs.Starting.{AreListsStarted, AreSignalsStarted, leaf_length}
use Rattle.sig_nodes.proofs.starting.+start.Given as goal

abbrev pub invariant-list_bank_nodes-bank : goal.invariant-list_bank_nodes-bank
invariant-list_bank_nodes-bank l =
    (l.place + length (vecs_leaves (vec_trees (map vec_tree (drop l.list-index l.bank)))) ≡ l.fn.leaf + length (vecs_leaves (vec_trees (map vec_tree l.bank))))
    × (vecs_longest (leaf_length (content_in l.contents)) (number_vecs (vec_trees (map vec_tree (drop l.list-index l.bank))) l.place) ≤ 65536)
    × All (λ items. length items ≤ 65536) l.lists
    × AreStarted one_list (AreListsStarted (content_in l.contents)) (number_vecs (vec_trees (map vec_tree l.bank)) l.fn.leaf) (number_vecs (vec_trees (map vec_tree (drop l.list-index l.bank))) l.place) (map list_ops l.nodes.items) l.lists

abbrev pub invariant-signal_bank_nodes-bank : goal.invariant-signal_bank_nodes-bank
invariant-signal_bank_nodes-bank l =
    (l.place + length (sigs_leaves (sig_trees (map sig_tree (drop l.signal-index l.bank)))) ≡ l.fn.leaf + length (sigs_leaves (sig_trees (map sig_tree l.bank))))
    × (sigs_longest (leaf_length (content_in l.contents)) (number_sigs (sig_trees (map sig_tree (drop l.signal-index l.bank))) l.place) ≤ 65536)
    × AreStarted one_signal (AreSignalsStarted (content_in l.contents)) (number_sigs (sig_trees (map sig_tree l.bank)) l.fn.leaf) (number_sigs (sig_trees (map sig_tree (drop l.signal-index l.bank))) l.place) (map signal_ops l.nodes.items) l.values
