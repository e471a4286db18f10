use Rattle.std.proofs.Common.{◌≡◌, ◌++◌}
use Rattle.sig_flat.specs.Runs.{removes}
use Rattle.sig_flat.proofs.runs.removes.Given as goal

abbrev pub invariant-removed : goal.invariant-removed
invariant-removed l = l.given ≡ l.initial.given ++ removes l.counter l.place
