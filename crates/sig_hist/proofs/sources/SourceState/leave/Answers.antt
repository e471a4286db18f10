use Rattle.std.proofs.Common.{arith}
use Rattle.sig_hist.proofs.Counts.{stays, kept_leave}
use Rattle.sig_hist.proofs.sources.SourceState.leave.Goals as goal

pub push_reserved-requires : goal.push_reserved-requires
push_reserved-requires c = let writer = stays c.self.invariant (rw c.self.view_is c.requires) (rw c.as_slice.ensures.value at c.place_of-place.ensures) c.index_mut.ensures.value in omega arith

pub invariant_of-self : goal.invariant_of-self
invariant_of-self c =
    rw (c.push_reserved.ensures.items, c.push_reserved.ensures.capacity)
    (kept_leave c.self.invariant (rw c.self.view_is c.requires) (rw c.as_slice.ensures.value at c.place_of-place.ensures) c.index_mut.ensures.value)

pub returns-clause-source : goal.returns-clause-source
returns-clause-source c = (invariant_of-self c).of_source
