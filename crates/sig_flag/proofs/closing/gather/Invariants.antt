use Rattle.std.proofs.Common.{length}
use Rattle.sig_flag.proofs.Gathers.{IsGathering}
use Rattle.sig_flag.proofs.closing.gather.Given as goal

abbrev pub invariant-seats : goal.invariant-seats
invariant-seats g l = IsGathering l.shared.table_id l.initial.seats l.initial.first l.seats l.first

abbrev pub decreases-seats : goal.decreases-seats
decreases-seats g l = length l.seats
