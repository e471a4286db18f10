use Rattle.sig_flag.proofs.Peels.{IsDealing}
use Rattle.sig_flag.specs.Opening.{layout_of}
use Rattle.sig_flag.proofs.opening.deal.Given as goal

abbrev pub invariant-seats : goal.invariant-seats
invariant-seats g l = IsDealing l.shared.table_id (layout_of g.V.Kept.plan l.shared.key) l.shared.key.seats l._number l.first l.seats.items
