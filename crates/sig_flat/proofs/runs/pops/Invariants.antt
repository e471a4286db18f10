use Rattle.std.proofs.Common.{◌≡◌, ◌++◌}
use Rattle.sig_flat.specs.Runs.{pops}
use Rattle.sig_flat.proofs.runs.pops.Given as goal

abbrev pub invariant-popped : goal.invariant-popped
invariant-popped l = l.given ≡ l.initial.given ++ pops l.counter
