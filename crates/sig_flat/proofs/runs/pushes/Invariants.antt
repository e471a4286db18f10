use Rattle.std.proofs.Common.{◌≡◌, ◌++◌, drop}
use Rattle.sig_flat.specs.Runs.{pushes}
use Rattle.sig_flat.proofs.runs.pushes.Given as goal

abbrev pub invariant-values : goal.invariant-values
invariant-values l = l.given ++ pushes (drop l.value-index l.values) ≡ l.initial.given ++ pushes l.values
