use Rattle.std.proofs.Common.{◌≡◌, ◌≤◌}
use Rattle.std.specs.Vec.{vec_len, vec_capacity}
use Rattle.sig_ops.specs.TagIndex.{numbered}
use Rattle.sig_ops.proofs.enumerating.number.Given as goal

abbrev pub invariant-places : goal.invariant-places
invariant-places l = (l.index.items ≡ numbered l.first l.place) × (vec_len l.index ≡ l.place) × (l.count ≤ vec_capacity l.index) × (l.place ≤ l.count)
