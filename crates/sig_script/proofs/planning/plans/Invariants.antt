use Rattle.std.proofs.Common.{◌+◌, drop, length, All}
use Rattle.sig_hist.specs.Sources.{IsPlan}
use Rattle.sig_script.proofs.Allowing.{WithSharePlans}
use Rattle.sig_script.specs.Plans.{plans_of}
use Rattle.sig_script.proofs.planning.plans.Given as goal

abbrev pub invariant-shares : goal.invariant-shares
invariant-shares l =
    WithSharePlans l.plans l.rooms (length l.writers + l.number) (drop l.number l.script.shares) (plans_of l.script)
    × All IsPlan l.plans
