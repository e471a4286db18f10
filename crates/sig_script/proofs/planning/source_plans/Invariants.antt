use Rattle.std.proofs.Common.{◌≡◌, ◌++◌, drop, All}
use Rattle.sig_hist.specs.Sources.{IsPlan}
use Rattle.sig_script.specs.Plans.{source_plans}
use Rattle.sig_script.proofs.planning.source_plans.Given as goal

abbrev pub invariant-sources : goal.invariant-sources
invariant-sources l =
    (l.plans ++ source_plans l.writers l.number (drop l.number l.sources) ≡ source_plans l.writers 0 l.sources)
    × All IsPlan l.plans
