use Rattle.std.proofs.Common.{◌≡◌, ◌+◌, ◌++◌, map, drop, length}
use Rattle.sig_expr.specs.Leaves.{sigs_leaves, vecs_leaves, number_sigs, number_vecs}
use Rattle.sig_expr.specs.Evaluation.{signals_of, lists_of}
use Rattle.sig_expr.specs.Shapes.{sig_tree, vec_tree, sig_trees, vec_trees}
use Rattle.sig_expr.specs.Shows.{content_of}
use Rattle.sig_expr.proofs.evaluation.+evaluate.Given as goal

abbrev pub invariant-signals_of-bank : goal.invariant-signals_of-bank
invariant-signals_of-bank l =
    (l.place + length (sigs_leaves (sig_trees (map sig_tree (drop l.e-index l.bank)))) ≡ l.fn.first + length (sigs_leaves (sig_trees (map sig_tree l.bank)))) ×
    (l.signals ++ signals_of (content_of l.contents) (number_sigs (sig_trees (map sig_tree (drop l.e-index l.bank))) l.place) ≡ signals_of (content_of l.contents) (number_sigs (sig_trees (map sig_tree l.bank)) l.fn.first))

abbrev pub invariant-lists_of-bank : goal.invariant-lists_of-bank
invariant-lists_of-bank l =
    (l.place + length (vecs_leaves (vec_trees (map vec_tree (drop l.e-index l.bank)))) ≡ l.fn.first + length (vecs_leaves (vec_trees (map vec_tree l.bank)))) ×
    (l.lists ++ lists_of (content_of l.contents) (number_vecs (vec_trees (map vec_tree (drop l.e-index l.bank))) l.place) ≡ lists_of (content_of l.contents) (number_vecs (vec_trees (map vec_tree l.bank)) l.fn.first))
