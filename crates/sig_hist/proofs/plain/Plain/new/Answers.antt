use Rattle.sig_hist.proofs.Knowing.{started}
use Rattle.sig_hist.proofs.plain.Plain.new.Goals as goal

pub invariant_of-port : goal.invariant_of-port
invariant_of-port c = started _ _ _ _ c.requires.plans c.requires.leaves c.in_ok-sources_of.ensures (rw c.as_slice.ensures at c.in_ok-new.ensures)
