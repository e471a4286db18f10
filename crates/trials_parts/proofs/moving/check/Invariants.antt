use Rattle.std.proofs.Common.{◌≡◌, ◌++◌, map, take, drop}
use Rattle.trials_parts.specs.Moving.{leaf_checked}
use Rattle.trials_parts.proofs.moving.check.Given as goal

abbrev pub invariant-leaves : goal.invariant-leaves
invariant-leaves l = l.leaf-items ≡ map (leaf_checked l.version) (take l.leaf-index l.fn.leaves) ++ drop l.leaf-index l.fn.leaves
