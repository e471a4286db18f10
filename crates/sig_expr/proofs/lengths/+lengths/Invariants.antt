use Rattle.std.proofs.Common.{◌≡◌, ◌-◌, ◌^◌, map, drop, min, max}
use Rattle.sig_expr.specs.Bounds.{cap_of}
use Rattle.sig_expr.specs.Lengths.{sigs_longest, vecs_longest}
use Rattle.sig_expr.specs.Shapes.{sig_tree, sig_trees, vec_tree, vec_trees}
use Rattle.sig_expr.proofs.lengths.+lengths.Given as goal

abbrev pub invariant-longest_in_lists-lists : goal.invariant-longest_in_lists-lists
invariant-longest_in_lists-lists l =
    max l.greatest (min (vecs_longest (cap_of l.caps) (vec_trees (map vec_tree (drop l.list-index l.bank)))) (2 ^ 64 - 1)) ≡ min (vecs_longest (cap_of l.caps) (vec_trees (map vec_tree l.bank))) (2 ^ 64 - 1)

abbrev pub invariant-longest_in_signals-signals : goal.invariant-longest_in_signals-signals
invariant-longest_in_signals-signals l =
    max l.greatest (min (sigs_longest (cap_of l.caps) (sig_trees (map sig_tree (drop l.signal-index l.bank)))) (2 ^ 64 - 1)) ≡ min (sigs_longest (cap_of l.caps) (sig_trees (map sig_tree l.bank))) (2 ^ 64 - 1)
