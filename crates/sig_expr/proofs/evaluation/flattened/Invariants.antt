use Rattle.std.proofs.Common.{◌≡◌, ◌++◌, drop}
use Rattle.std.specs.List.{flat_map}
use Rattle.sig_diff.specs.Choosing.{list_for}
use Rattle.sig_expr.proofs.evaluation.flattened.Given as goal

abbrev pub invariant-numbers : goal.invariant-numbers
invariant-numbers l = l.all.items ++ flat_map (list_for l.lists) (drop l.number-index l.numbers) ≡ flat_map (list_for l.lists) l.numbers
