use Rattle.std.proofs.Common.{◌≡◌, ◌++◌, map, drop}
use Rattle.sig_expr.specs.Leaves.{sigs_leaves, vecs_leaves}
use Rattle.sig_expr.specs.Shapes.{sig_tree, sig_trees, vec_tree, vec_trees}
use Rattle.sig_expr.proofs.leaf_lists.+leaves.Given as goal

abbrev pub invariant-push_lists-lists : goal.invariant-push_lists-lists
invariant-push_lists-lists l =
    l.all ++ vecs_leaves (vec_trees (map vec_tree (drop l.list-index l.bank))) ≡ l.initial.all ++ vecs_leaves (vec_trees (map vec_tree l.bank))

abbrev pub invariant-push_signals-signals : goal.invariant-push_signals-signals
invariant-push_signals-signals l =
    l.all ++ sigs_leaves (sig_trees (map sig_tree (drop l.signal-index l.bank))) ≡ l.initial.all ++ sigs_leaves (sig_trees (map sig_tree l.bank))
