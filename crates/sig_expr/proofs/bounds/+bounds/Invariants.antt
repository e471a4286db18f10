use Rattle.std.proofs.Common.{◌≡◌, ◌-◌, ◌^◌, map, drop, min, max}
use Rattle.sig_expr.specs.Bounds.{cap_of, greatest_bound}
use Rattle.sig_expr.specs.Shapes.{vec_tree, vec_trees}
use Rattle.sig_expr.proofs.bounds.+bounds.Given as goal

abbrev pub invariant-greatest_bound-lists : goal.invariant-greatest_bound-lists
invariant-greatest_bound-lists l =
    max l.greatest (min (greatest_bound (cap_of l.caps) (vec_trees (map vec_tree (drop l.list-index l.bank)))) (2 ^ 64 - 1)) ≡ min (greatest_bound (cap_of l.caps) (vec_trees (map vec_tree l.bank))) (2 ^ 64 - 1)
