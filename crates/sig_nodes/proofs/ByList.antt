-- A list has gone on, and then another part with leaves of its own.
use Rattle.std.proofs.Common.{ℤ, ℕ, ◌≤◌, List}
use Rattle.sig_diff.specs.declared.differences.VecDiff.{VecDiff}
use Rattle.sig_expr.specs.Bounds.{vec_bound}
use Rattle.sig_expr.specs.Evaluation.{list_of}
use Rattle.sig_hist.specs.Ports.{PortState}
use Rattle.sig_nodes.proofs.Carrying.{carries}
use Rattle.sig_nodes.proofs.CarryingShort.{goes_within}
use Rattle.sig_nodes.proofs.Parts.{Part, BothGone, list_part, holds_at, both_gone, first_holds, both_walked, first_flow}
use Rattle.sig_nodes.proofs.Standing.{list_stands}
use Rattle.sig_nodes.specs.Nodes.{ListOps, list_tree, ListStands}
use Rattle.sig_nodes.specs.Steps.{ListGone}
use Rattle.sig_rows.proofs.GoingAlong.{GoesShort}
use Rattle.sig_rows.proofs.Entered.{Reaches}
use Rattle.sig_walk.specs.Walking.{Progress, sources_in, cap_at}

module _ {More : Type 0} {other : Part More} {s t u : PortState} {old mid new : Progress} {of after : ListOps} {diffs : List (VecDiff ℤ)} {more : More}
    (first : ListGone s t old mid of after diffs) (both : BothGone (list_part (list_tree of)) other s t u old mid new diffs more) where
  -- what the list gives leads from what it was to what it is at the end
  pub list_reaches : Reaches (list_of (holds_at s old) (list_tree of)) diffs (list_of (holds_at u new) (list_tree of))
  list_reaches = rw (first_flow both) (carries s u old new both.one.can (both_gone both) (both_walked both).goes_on of)

  pub list_short : (most : ℕ) → vec_bound (cap_at (sources_in s old)) (list_tree of) ≤ most → GoesShort most (list_of (holds_at s old) (list_tree of)) diffs
  list_short most few = rw (first_flow both) (goes_within s u old new both.one.can (both_gone both) (both_walked both).goes_on of most few)

  -- its operators stand till then
  pub list_stays : ListStands (holds_at u new) after
  list_stays = list_stands _ _ after (rw first.tree (first_holds both)) first.stands
