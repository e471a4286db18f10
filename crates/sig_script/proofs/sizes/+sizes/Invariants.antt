use Rattle.std.proofs.Common.{◌≡◌, drop, map}
use Rattle.sig_expr.specs.Bounds.{cap_of}
use Rattle.sig_expr.specs.Shapes.{sig_tree, sig_trees, vec_tree, vec_trees}
use Rattle.sig_script.specs.Sizes.{sigs_size, vecs_size}
use Rattle.sig_script.proofs.sizes.+sizes.Given as goal

abbrev pub invariant-signals_size-signals : goal.invariant-signals_size-signals
invariant-signals_size-signals l =
    sigs_size (cap_of l.caps) l.place (sig_trees (map sig_tree (drop l.place l.bank))) ≡ sigs_size (cap_of l.caps) 0 (sig_trees (map sig_tree l.bank))

abbrev pub invariant-lists_size-lists : goal.invariant-lists_size-lists
invariant-lists_size-lists l =
    vecs_size (cap_of l.caps) l.place (vec_trees (map vec_tree (drop l.place l.bank))) ≡ vecs_size (cap_of l.caps) 0 (vec_trees (map vec_tree l.bank))
