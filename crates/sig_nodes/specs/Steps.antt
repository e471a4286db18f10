-- What a step of operators along a walk needs, and what it leaves: of a list's, of a signal's, and of a bank's.
use Rattle.std.specs.Prelude.{◌≡◌, ℕ, ◌≤◌, ℤ, List, [], ◌++◌, get_or, Option, None}
use Rattle.sig_diff.specs.declared.differences.VecDiff.{VecDiff}
use Rattle.sig_diff.specs.declared.map_differences.MapDiff.{MapDiff}
use Rattle.sig_expr.specs.Awaited.{all_of, each_sig_awaits, each_vec_awaits, sig_awaits, vec_awaits}
use Rattle.sig_expr.specs.Bounds.{map_bound}
use Rattle.sig_expr.specs.Trees.{MapTree}
use Rattle.sig_expr.specs.Leaves.{map_leaves, sig_leaves, sigs_leaves, vec_leaves, vecs_leaves}
use Rattle.sig_hist.specs.Ports.{PortState}
use Rattle.sig_hist.specs.Sources.{AreDistinct}
use Rattle.sig_rows.specs.Flow.{list_flow, list_flows, map_flow, value_flow, value_flows}
use Rattle.sig_expr.specs.Lengths.{sig_longest, sigs_longest, vec_longest, vecs_longest}
use Rattle.sig_nodes.specs.Banks.{lists_given, values_given}
use Rattle.sig_nodes.specs.declared.banks.Given.{Given}
use Rattle.sig_nodes.specs.declared.banks.GivenList.{GivenList}
use Rattle.sig_nodes.specs.Nodes.{ListOps, ListStands, ListsOps, ListsStand, SignalOps, SignalStands, SignalsOps, SignalsStand, list_tree, list_trees, signal_tree, signal_trees}
use Rattle.sig_hist.specs.Ways.{contents_at, ways}
use Rattle.sig_walk.specs.Walking.{CanWalk, HasGone, HasLeaves, HasWalked, Progress, cap_at, sources_in}

-- ---- before

-- the walk has the leaves, no two of which are the same; no list gets long; the operators stand for what the leaves hold
module _ (s : PortState) (walk : Progress) where
  pub record ListMayGo (ops : ListOps) : Type 0 where
    pub can : CanWalk s walk
    pub has : HasLeaves walk (vec_leaves (list_tree ops))
    pub apart : AreDistinct (vec_leaves (list_tree ops))
    pub short : vec_longest (cap_at (sources_in s walk)) (list_tree ops) ≤ 65536
    pub stands : ListStands (contents_at (sources_in s walk) walk.positions) ops

  pub record SignalMayGo (ops : SignalOps) : Type 0 where
    pub can : CanWalk s walk
    pub has : HasLeaves walk (sig_leaves (signal_tree ops))
    pub apart : AreDistinct (sig_leaves (signal_tree ops))
    pub short : sig_longest (cap_at (sources_in s walk)) (signal_tree ops) ≤ 65536
    pub stands : SignalStands (contents_at (sources_in s walk) walk.positions) ops

  pub record SignalsMayGo (bank : SignalsOps) : Type 0 where
    pub can : CanWalk s walk
    pub has : HasLeaves walk (sigs_leaves (signal_trees bank))
    pub apart : AreDistinct (sigs_leaves (signal_trees bank))
    pub short : sigs_longest (cap_at (sources_in s walk)) (signal_trees bank) ≤ 65536
    pub stands : SignalsStand (contents_at (sources_in s walk) walk.positions) bank

  pub record ListsMayGo (bank : ListsOps) : Type 0 where
    pub can : CanWalk s walk
    pub has : HasLeaves walk (vecs_leaves (list_trees bank))
    pub apart : AreDistinct (vecs_leaves (list_trees bank))
    pub short : vecs_longest (cap_at (sources_in s walk)) (list_trees bank) ≤ 65536
    pub stands : ListsStand (contents_at (sources_in s walk) walk.positions) bank

  -- a map's operators keep nothing
  pub record MapMayGo (m : MapTree ℕ) : Type 0 where
    pub can : CanWalk s walk
    pub has : HasLeaves walk (map_leaves m)
    pub short : map_bound (cap_at (sources_in s walk)) m ≤ 65536

-- ---- after

-- the awaited leaves were taken along, this is what is given on the way, and the operators stand for what the leaves hold now
module _ (s t : PortState) (old new : Progress) where
  pub record ListGone (ops after : ListOps) (diffs : List (VecDiff ℤ)) : Type 0 where
    pub gone : HasGone s t old new
    pub walked : HasWalked s t old new (vec_awaits (contents_at (sources_in t new) new.positions) (list_tree ops))
    pub flow : diffs ≡ list_flow (ways (sources_in t new) old.positions new.positions) (list_tree ops)
    pub stands : ListStands (contents_at (sources_in t new) new.positions) after
    pub tree : list_tree after ≡ list_tree ops

  pub record SignalGone (ops after : SignalOps) (value : Option ℤ) : Type 0 where
    pub gone : HasGone s t old new
    pub walked : HasWalked s t old new (sig_awaits (contents_at (sources_in t new) new.positions) (signal_tree ops))
    pub flow : value ≡ value_flow (ways (sources_in t new) old.positions new.positions) (signal_tree ops)
    pub stands : SignalStands (contents_at (sources_in t new) new.positions) after
    pub tree : signal_tree after ≡ signal_tree ops

  pub record MapGone (m : MapTree ℕ) (diffs : List (MapDiff ℤ)) : Type 0 where
    pub gone : HasGone s t old new
    pub walked : HasWalked s t old new (map_leaves m)
    pub flow : diffs ≡ map_flow (ways (sources_in t new) old.positions new.positions) m

  -- all signals of a bank from a place on, whose values come behind others; the signal at a place; the list at a place
  pub record SignalsGone (place : ℕ) (bank after : SignalsOps) (before values : List Given) : Type 0 where
    pub gone : HasGone s t old new
    pub walked : HasWalked s t old new (all_of (each_sig_awaits (contents_at (sources_in t new) new.positions) (signal_trees bank)))
    pub flow : values ≡ before ++ values_given place (value_flows (ways (sources_in t new) old.positions new.positions) (signal_trees bank))
    pub stands : SignalsStand (contents_at (sources_in t new) new.positions) after
    pub tree : signal_trees after ≡ signal_trees bank

  pub record SignalAtGone (place : ℕ) (bank after : SignalsOps) (value : Option ℤ) : Type 0 where
    pub gone : HasGone s t old new
    pub walked : HasWalked s t old new (get_or (each_sig_awaits (contents_at (sources_in t new) new.positions) (signal_trees bank)) place [])
    pub flow : value ≡ get_or (value_flows (ways (sources_in t new) old.positions new.positions) (signal_trees bank)) place None
    pub stands : SignalsStand (contents_at (sources_in t new) new.positions) after
    pub tree : signal_trees after ≡ signal_trees bank

  -- all lists of a bank from a place on
  pub record ListsGone (place : ℕ) (bank after : ListsOps) (before lists : List GivenList) : Type 0 where
    pub gone : HasGone s t old new
    pub walked : HasWalked s t old new (all_of (each_vec_awaits (contents_at (sources_in t new) new.positions) (list_trees bank)))
    pub flow : lists ≡ before ++ lists_given place (list_flows (ways (sources_in t new) old.positions new.positions) (list_trees bank))
    pub stands : ListsStand (contents_at (sources_in t new) new.positions) after
    pub tree : list_trees after ≡ list_trees bank

  pub record ListAtGone (place : ℕ) (bank after : ListsOps) (diffs : List (VecDiff ℤ)) : Type 0 where
    pub gone : HasGone s t old new
    pub walked : HasWalked s t old new (get_or (each_vec_awaits (contents_at (sources_in t new) new.positions) (list_trees bank)) place [])
    pub flow : diffs ≡ get_or (list_flows (ways (sources_in t new) old.positions new.positions) (list_trees bank)) place []
    pub stands : ListsStand (contents_at (sources_in t new) new.positions) after
    pub tree : list_trees after ≡ list_trees bank
