use Rattle.std.proofs.Common.{arith}
use Rattle.sig_hist.proofs.Counts.{stays}
use Rattle.sig_hist.proofs.sources.SourceState.check_allowance.Goals as goal

pub returns-then-is_spent-clause-refused : goal.returns-then-is_spent-clause-refused
returns-then-is_spent-clause-refused c =
    let writer = stays (rw c.self.view_is at c.self.invariant) c.requires (rw c.as_slice.ensures.value at c.place_of.ensures) c.index-writer.ensures in (omega arith, writer.may_make)

pub returns-clause-may : goal.returns-clause-may
returns-clause-may c =
    let writer = stays (rw c.self.view_is at c.self.invariant) c.requires (rw c.as_slice.ensures.value at c.place_of.ensures) c.index-writer.ensures in record { made_fewer = omega arith }
