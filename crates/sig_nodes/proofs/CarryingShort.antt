-- No list or map on the way that a walk took its leaves is longer than the caps of their sources allow.
use Rattle.std.proofs.Common.{◌≡◌, ℕ, zero, suc, ◌+◌, ◌≤◌, [], length, take, get_or, slice_index, refl, arith, le_trans}
use Rattle.sig_diff.specs.Contents.{entries_in, list_in}
use Rattle.sig_diff.specs.Replaying.{StaysShort}
use Rattle.sig_expr.specs.Bounds.{greatest_bound, vec_bound}
use Rattle.sig_expr.specs.Evaluation.{list_of, lists_of}
use Rattle.sig_hist.specs.Plain.{no_source}
use Rattle.sig_hist.specs.Ports.{IsSoundPort, PortState}
use Rattle.sig_hist.specs.Sources.{Source}
use Rattle.sig_rows.proofs.BlocksReach.{PartShort}
use Rattle.sig_walk.proofs.Holding.{held_before, never_back, same_sources}
use Rattle.sig_rows.proofs.ByClass.{EachGoes}
use Rattle.sig_rows.proofs.GoingAlong.{GoesShort}
use Rattle.sig_walk.proofs.Staying.{same_plan}
use Rattle.sig_hist.specs.Ways.{before, state_at, GoOn, contents_at, leaf_source, ways}
use Rattle.sig_rows.specs.Flow.{list_flow, list_flows}
use Rattle.sig_expr.specs.Lengths.{vec_longest}
use Rattle.sig_nodes.specs.Nodes.{ListOps, ListsOps, list_tree, list_trees}
use Rattle.sig_walk.specs.Walking.{CanWalk, HasGone, HasLooked, Progress, cap_at, seen_source, seen_sources, sources_in}
use Rattle.sig_rows.proofs.MapShortening.{entries_short, state_within}
use Rattle.sig_rows.proofs.Shortening.{IsShort, bound_within, flows_short, lists_short, no_source_short, start_short, state_short}

-- ---- sources

seen_short : (s : PortState) → IsSoundPort s → (first count leaf : ℕ) → IsShort (get_or (seen_sources s first count) leaf no_source)
seen_short s sound first zero leaf = no_source_short
seen_short s sound first (suc count) zero = λ position.
    state_short (seen_source s first).plan.start (seen_source s first).plan.cap (take position (seen_source s first).history) (start_short _ _ (sound (s.source first)).of_plan.within_cap)
seen_short s sound first (suc count) (suc leaf) = seen_short s sound (first + 1) count leaf

-- no map that a leaf's source holds is longer than its cap
pub seen_map_short : (s : PortState) → IsSoundPort s → (first count leaf position : ℕ) →
    let source : Source = get_or (seen_sources s first count) leaf no_source in length (entries_in (state_at source position)) ≤ source.plan.cap
seen_map_short s sound first zero leaf position = entries_short _ 1 (state_within no_source.plan.start 1 (take position []) tt (omega arith))
seen_map_short s sound first (suc count) zero position =
    let source : Source = seen_source s first in
    let is = (sound (s.source first)).of_plan in
    entries_short _ source.plan.cap (state_within source.plan.start source.plan.cap (take position source.history) is.in_order is.within_cap)
seen_map_short s sound first (suc count) (suc leaf) position = seen_map_short s sound (first + 1) count leaf position

-- ---- walks

module _ (s t : PortState) (looked : HasLooked s t) where
  cap_stays : (first count leaf : ℕ) → cap_at (seen_sources t first count) leaf ≡ cap_at (seen_sources s first count) leaf
  cap_stays first zero leaf = refl
  cap_stays first (suc count) zero = rw (same_plan s t looked first) refl
  cap_stays first (suc count) (suc leaf) = cap_stays (first + 1) count leaf

module _ (s t : PortState) (old new : Progress) (can : CanWalk s old) (gone : HasGone s t old new) where
  pub same_caps : cap_at (sources_in t new) ≡ cap_at (sources_in s old)
  same_caps = rw (same_sources s t old new can gone) (λ i leaf. cap_stays s t gone.looked old.first (length old.positions) leaf i)

  module _ (goes_on : GoOn old.positions new.positions) where
    each_short : (leaf : ℕ) → length (list_in (before (ways (sources_in t new) old.positions new.positions leaf))) ≤ (leaf_source (sources_in t new) leaf).plan.cap
    each_short leaf = seen_short t gone.can.sound new.first (length new.positions) leaf (slice_index old.positions leaf)

    each_map_short : (leaf : ℕ) → length (entries_in (before (ways (sources_in t new) old.positions new.positions leaf))) ≤ (leaf_source (sources_in t new) leaf).plan.cap
    each_map_short leaf = seen_map_short t gone.can.sound new.first (length new.positions) leaf (slice_index old.positions leaf)

    -- the list that an operator stands for is short, and stays so on the way
    pub goes_within : (ops : ListOps) (most : ℕ) → vec_bound (cap_at (sources_in s old)) (list_tree ops) ≤ most →
        GoesShort most (list_of (contents_at (sources_in s old) old.positions) (list_tree ops)) (list_flow (ways (sources_in t new) old.positions new.positions) (list_tree ops))
    goes_within ops most few =
        rw (← held_before s t old new can gone) (flows_short (ways (sources_in t new) old.positions new.positions) (never_back s t old new can gone goes_on) each_short each_map_short most (list_tree ops) (rw same_caps few))

    -- and so are the lists of a bank
    pub bank_within : (bank : ListsOps) (most : ℕ) → greatest_bound (cap_at (sources_in s old)) (list_trees bank) ≤ most →
        EachGoes (PartShort most) (lists_of (contents_at (sources_in s old) old.positions) (list_trees bank)) (list_flows (ways (sources_in t new) old.positions new.positions) (list_trees bank)) (lists_of (contents_at (sources_in t new) new.positions) (list_trees bank))
    bank_within bank most few =
        rw (← held_before s t old new can gone) (lists_short (ways (sources_in t new) old.positions new.positions) (never_back s t old new can gone goes_on) each_short each_map_short most (list_trees bank) (rw same_caps few))

    pub goes_short : (ops : ListOps) (most : ℕ) → vec_longest (cap_at (sources_in s old)) (list_tree ops) ≤ most →
        GoesShort most (list_of (contents_at (sources_in s old) old.positions) (list_tree ops)) (list_flow (ways (sources_in t new) old.positions new.positions) (list_tree ops))
    goes_short ops most few = goes_within ops most (le_trans (bound_within (cap_at (sources_in s old)) (list_tree ops)) few)

    pub carries_short : (ops : ListOps) (most : ℕ) → vec_longest (cap_at (sources_in s old)) (list_tree ops) ≤ most →
        StaysShort most (list_of (contents_at (sources_in s old) old.positions) (list_tree ops)) (list_flow (ways (sources_in t new) old.positions new.positions) (list_tree ops))
    carries_short ops most few = (goes_short ops most few).stays
