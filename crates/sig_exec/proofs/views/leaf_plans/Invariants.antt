use Rattle.std.proofs.Common.{◌≡◌, ◌++◌, drop}
use Rattle.sig_exec.specs.Views.{leaves_from}
use Rattle.sig_exec.proofs.views.leaf_plans.Given as goal

abbrev pub invariant-views : goal.invariant-views
invariant-views l = l.plans.items ++ leaves_from l.task (drop l.task l.views) ≡ leaves_from 0 l.views
