use Rattle.std.proofs.Common.{◌≡◌, ◌+◌, map, drop, length}
use Rattle.sig_expr.specs.Leaves.{sigs_leaves, vecs_leaves}
use Rattle.sig_expr.specs.Shapes.{sig_tree, vec_tree, sig_trees, vec_trees}
use Rattle.sig_expr.proofs.leaf_counts.+count.Given as goal

abbrev pub invariant-list_bank_leaves-bank : goal.invariant-list_bank_leaves-bank
invariant-list_bank_leaves-bank l = l.count + length (vecs_leaves (vec_trees (map vec_tree (drop l.e-index l.bank)))) ≡ length (vecs_leaves (vec_trees (map vec_tree l.bank)))

abbrev pub invariant-signal_bank_leaves-bank : goal.invariant-signal_bank_leaves-bank
invariant-signal_bank_leaves-bank l = l.count + length (sigs_leaves (sig_trees (map sig_tree (drop l.e-index l.bank)))) ≡ length (sigs_leaves (sig_trees (map sig_tree l.bank)))
