use Rattle.std.proofs.Common.{◌≡◌, ◌++◌, ◌+◌, ◌-◌}
use Rattle.sig_flat.specs.Flattening.{shifts}
use Rattle.sig_flat.proofs.flattening.shifts.Given as goal

abbrev pub invariant-moved : goal.invariant-moved
invariant-moved l = l.given ++ shifts (l.count - l.place) (l.from + l.place) (l.to + l.place) ≡ l.initial.given ++ shifts l.count l.from l.to
