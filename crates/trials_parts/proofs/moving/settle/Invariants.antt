use Rattle.std.proofs.Common.{◌≡◌, ◌++◌, map, take, drop}
use Rattle.sig_hist.specs.Plain.{leaf_settled}
use Rattle.trials_parts.proofs.moving.settle.Given as goal

abbrev pub invariant-leaves : goal.invariant-leaves
invariant-leaves l = l.leaf-items ≡ map leaf_settled (take l.leaf-index l.fn.leaves) ++ drop l.leaf-index l.fn.leaves
