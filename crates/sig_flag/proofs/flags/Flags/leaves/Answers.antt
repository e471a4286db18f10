use Rattle.std.proofs.Common.{◌∙◌, ap, subst, length, All}
use Rattle.sig_flag.specs.Layouts.{IsLeafOf}
use Rattle.sig_flag.specs.Machines.{Machine}
use Rattle.sig_flag.proofs.flags.Flags.leaves.Goals as goal

pub returns-clause-leaves : goal.returns-clause-leaves
returns-clause-leaves g c = c.as_slice.ensures ∙ c.self.invariant.1 ∙ ap (λ (m : Machine). m.layout.leaves) c.self.view_is

pub returns-clause-range : goal.returns-clause-range
returns-clause-range g c = subst (λ (m : Machine). All (IsLeafOf (length m.layout.plans) (length m.layout.pollers)) m.layout.leaves) c.self.view_is c.self.invariant.0.leaves
