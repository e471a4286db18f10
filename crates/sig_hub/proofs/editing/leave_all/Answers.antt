use Rattle.sig_hub.proofs.Leaving.{none_left, left_one}
use Rattle.sig_hub.proofs.editing.leave_all.Goals as goal

pub sources-init : goal.sources-init
sources-init g c = none_left _ _ _ _ c.requires.station c.requires.sources

pub sources-preserved : goal.sources-preserved
sources-preserved g c = let left = c.leave_in_turn.ensures in left_one _ _ _ _ _ _ _ c.sources.invariant c.in-Some.ensures.items _ left.station left.same left.left
