use Rattle.std.proofs.Common.{◌≡◌, ◌++◌, ◌+◌, drop}
use Rattle.sig_ops.specs.Enumerating.{tagged_from}
use Rattle.sig_ops.proofs.enumerating.tagged_from.Given as goal

abbrev pub invariant-values : goal.invariant-values
invariant-values l = (l.elements ++ tagged_from l.tag (drop l.value-index l.values) ≡ tagged_from l.first l.values) × (l.tag ≡ l.first + l.value-index)
