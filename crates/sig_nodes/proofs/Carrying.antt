-- What a list gives on the way that a walk took its leaf leads from what it was to what it is.
use Rattle.sig_expr.specs.Evaluation.{list_of}
use Rattle.sig_hist.specs.Ports.{PortState}
use Rattle.sig_walk.proofs.Holding.{held_before, never_back}
use Rattle.sig_rows.proofs.Reaching.{flow_reaches}
use Rattle.sig_rows.proofs.Entered.{Reaches}
use Rattle.sig_rows.specs.Flow.{list_flow}
use Rattle.sig_nodes.specs.Nodes.{ListOps, list_tree}
use Rattle.sig_hist.specs.Ways.{GoOn, contents_at, ways}
use Rattle.sig_walk.specs.Walking.{CanWalk, HasGone, Progress, sources_in}

module _ (s t : PortState) (old new : Progress) (can : CanWalk s old) (gone : HasGone s t old new) where
  module _ (goes_on : GoOn old.positions new.positions) where
    pub carries : (ops : ListOps) → Reaches (list_of (contents_at (sources_in s old) old.positions) (list_tree ops)) (list_flow (ways (sources_in t new) old.positions new.positions) (list_tree ops)) (list_of (contents_at (sources_in t new) new.positions) (list_tree ops))
    carries ops = rw (← held_before s t old new can gone) (flow_reaches (ways (sources_in t new) old.positions new.positions) (never_back s t old new can gone goes_on) (list_tree ops))
