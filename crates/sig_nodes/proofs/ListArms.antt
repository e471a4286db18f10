-- A step of a list's operator on one list below it: what the operator needs, and what is left.
use Rattle.std.proofs.Common.{ℤ, Option, ◌≡◌, ◌∙◌, ℕ, ◌≤◌, List, length, refl, sym, ap, pos}
use Rattle.std.specs.List.{flat_map}
use Rattle.sig_diff.specs.Numbers.{clamped, total}
use Rattle.sig_diff.specs.Replaying.{AreLawful, replayed, StaysShort}
use Rattle.sig_diff.specs.declared.differences.VecDiff.{VecDiff}
use Rattle.sig_expr.specs.Functions.{image, passes}
use Rattle.sig_expr.specs.Evaluation.{list_of}
use Rattle.sig_expr.specs.Trees.{filtered, sorted, length_of, total_of}
use Rattle.sig_expr.specs.declared.functions.Fun.{Fun}
use Rattle.sig_expr.specs.declared.functions.Pred.{Pred}
use Rattle.sig_hist.specs.Ports.{PortState}
use Rattle.sig_nodes.proofs.Carrying.{carries}
use Rattle.sig_nodes.proofs.CarryingShort.{goes_short}
use Rattle.sig_nodes.proofs.Parts.{holds_at}
use Rattle.sig_nodes.specs.Nodes.{ListOps, kept, list_tree, images, ordered, count_of, sum_of}
use Rattle.sig_nodes.specs.Steps.{ListGone, SignalGone, ListMayGo, SignalMayGo}
use Rattle.sig_ops.proofs.Sizing.{are_lawful_for_length, length_replayed, sizes_stay_within}
use Rattle.sig_ops.specs.Filtering.{Filter}
use Rattle.sig_ops.specs.Signals.{given}
use Rattle.sig_ops.specs.Sizes.{AreLawfulFor, SizesStayWithin, all_resized}
use Rattle.sig_ops.specs.Tables.{filter_gives, map_gives}
use Rattle.sig_rows.proofs.GoingAlong.{GoesShort, goes}
use Rattle.sig_rows.specs.Joins.{Goes}
use Rattle.sig_rows.proofs.Entered.{Reaches}
use Rattle.sig_rows.specs.Flow.{through}
use Rattle.sig_expr.specs.Lengths.{vec_longest}
use Rattle.sig_sort.specs.Sorting.{SortedList, sorted_gives, sorted_of}
use Rattle.sig_walk.proofs.Holding.{held_before}
use Rattle.sig_walk.specs.Walking.{CanWalk, Progress, sources_in, cap_at}

module _ {s t : PortState} {old new : Progress} {ops after : ListOps} {diffs : List (VecDiff ℤ)} (below : ListGone s t old new ops after diffs) where
  pub map_gone : (fun next : Fun) (given : List (VecDiff ℤ)) → next ≡ fun → given ≡ flat_map (map_gives (image fun)) diffs → ListGone s t old new (images fun ops) (images next after) given
  map_gone fun next given same is =
      record { gone = below.gone; walked = below.walked; flow = is ∙ ap (flat_map (map_gives (image fun))) below.flow; stands = below.stands; tree = rw (same, below.tree) refl }

  -- what the list below gives leads on from what the operator keeps of it
  below_reaches : CanWalk s old → (items : List ℤ) → items ≡ list_of (holds_at s old) (list_tree ops) → Reaches items diffs (list_of (holds_at t new) (list_tree ops))
  below_reaches can items stood = rw (stood, below.flow) (carries s t old new can below.gone below.walked.goes_on ops)

  below_short : CanWalk s old → (items : List ℤ) → items ≡ list_of (holds_at s old) (list_tree ops) → vec_longest (cap_at (sources_in s old)) (list_tree ops) ≤ 65536 → GoesShort 65536 items diffs
  below_short can items stood few = rw (stood, below.flow) (goes_short s t old new can below.gone below.walked.goes_on ops 65536 few)

  below_goes : CanWalk s old → (items : List ℤ) → items ≡ list_of (holds_at s old) (list_tree ops) → vec_longest (cap_at (sources_in s old)) (list_tree ops) ≤ 65536 → Goes 65536 items diffs
  below_goes can items stood few = goes 65536 (below_reaches can items stood) (below_short can items stood few)

  module _ {filter : Filter Pred ℤ} (may : ListMayGo s old (kept filter ops)) where
    pub filter_goes : Goes 65536 filter.items diffs
    filter_goes = below_goes may.can filter.items may.stands.0 may.short

    pub filter_gone : (next : Filter Pred ℤ) (given : List (VecDiff ℤ)) → next ≡ record filter { items = replayed filter.items diffs } → given ≡ through (filter_gives (passes filter.tester)) filter.items diffs →
        ListGone s t old new (kept filter ops) (kept next after) given
    filter_gone next given is flow = record {
      gone = below.gone;
      walked = below.walked;
      flow = flow ∙ rw (may.stands.0, below.flow, ← held_before s t old new may.can below.gone) refl;
      stands = rw is (rw below.tree (below_reaches may.can filter.items may.stands.0).replay, below.stands);
      tree = rw is (ap (filtered filter.tester) below.tree);
    }

  module _ {list : SortedList Fun} (may : ListMayGo s old (ordered list ops)) where
    pub sorted_goes : Goes 65536 list.items diffs
    sorted_goes = below_goes may.can list.items may.stands.0 may.short

    pub sorted_gone : (next : SortedList Fun) (given : List (VecDiff ℤ)) → next ≡ sorted_of list.mapper (replayed list.items diffs) → given ≡ through (sorted_gives (image list.mapper)) list.items diffs →
        ListGone s t old new (ordered list ops) (ordered next after) given
    sorted_gone next given is flow = record {
      gone = below.gone;
      walked = below.walked;
      flow = flow ∙ rw (may.stands.0, below.flow, ← held_before s t old new may.can below.gone) refl;
      stands = rw is (rw below.tree (below_reaches may.can list.items may.stands.0).replay, below.stands);
      tree = rw is (ap (sorted list.mapper) below.tree);
    }

  -- ---- numbers of a list

  module _ {items : List ℤ} (may : SignalMayGo s old (sum_of items ops)) where
    pub total_lawful : AreLawful items diffs
    total_lawful = (below_reaches may.can items may.stands.0).lawful

    pub total_short : StaysShort 65536 items diffs
    total_short = (below_short may.can items may.stands.0 may.short).stays

    pub total_gone : (next : List ℤ) (result : Option ℤ) → next ≡ replayed items diffs → result ≡ given (clamped (total items)) (clamped (total (replayed items diffs))) →
        SignalGone s t old new (sum_of items ops) (sum_of next after) result
    total_gone next result next_is is =
        let now = (below_reaches may.can items may.stands.0).replay in
        record {
          gone = below.gone;
          walked = below.walked;
          flow = is ∙ rw (now, may.stands.0, ← held_before s t old new may.can below.gone) refl;
          stands = (rw (next_is, below.tree) now, below.stands);
          tree = ap total_of below.tree;
        }

  module _ {len : ℕ} (may : SignalMayGo s old (count_of len ops)) where
    abbrev items_of : List ℤ
    items_of = list_of (holds_at s old) (list_tree ops)

    reaches : Reaches items_of diffs (list_of (holds_at t new) (list_tree ops))
    reaches = below_reaches may.can items_of refl

    pub length_lawful : AreLawfulFor len diffs
    length_lawful = rw may.stands.0 (are_lawful_for_length items_of diffs reaches.lawful)

    pub length_short : SizesStayWithin 65536 len diffs
    length_short = rw may.stands.0 (sizes_stay_within 65536 items_of diffs (below_short may.can items_of refl may.short).stays reaches.lawful)

    length_is : all_resized len diffs ≡ length (list_of (holds_at t new) (list_tree ops))
    length_is = rw may.stands.0 (sym (length_replayed items_of diffs reaches.lawful) ∙ ap length reaches.replay)

    pub length_gone : (next : ℕ) (result : Option ℤ) → next ≡ all_resized len diffs → result ≡ given (pos len) (pos (all_resized len diffs)) → SignalGone s t old new (count_of len ops) (count_of next after) result
    length_gone next result next_is is = record {
      gone = below.gone;
      walked = below.walked;
      flow = is ∙ rw (length_is, may.stands.0, ← held_before s t old new may.can below.gone) refl;
      stands = (rw (next_is, below.tree) length_is, below.stands);
      tree = ap length_of below.tree;
    }
