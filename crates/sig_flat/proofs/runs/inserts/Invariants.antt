use Rattle.std.proofs.Common.{◌≡◌, ◌++◌, ◌+◌, drop}
use Rattle.sig_flat.specs.Runs.{inserts}
use Rattle.sig_flat.proofs.runs.inserts.Given as goal

abbrev pub invariant-values : goal.invariant-values
invariant-values l =
    (l.given ++ inserts l.index (drop l.value-index l.values) ≡ l.initial.given ++ inserts l.place l.values) × (l.index ≡ l.place + l.value-index)
