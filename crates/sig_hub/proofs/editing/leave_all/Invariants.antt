use Rattle.sig_hub.specs.Turns.{IsLeaving}
use Rattle.sig_hub.proofs.editing.leave_all.Given as goal

abbrev pub decreases-sources : goal.decreases-sources
decreases-sources g l = goal.left-sources g l

abbrev pub invariant-sources : goal.invariant-sources
invariant-sources g l = IsLeaving l.flags l.number l.initial.seat l.seat l.sources.items
