use Rattle.std.proofs.Common.{◌≡◌, ◌++◌, map, take}
use Rattle.sig_exec.specs.Views.{leaf_of}
use Rattle.sig_exec.proofs.views.push_leaves.Given as goal

abbrev pub invariant-sources : goal.invariant-sources
invariant-sources l = l.plans.items ≡ l.initial.plans.items ++ map (leaf_of l.task) (take l.source-index l.source-items)
