-- No map on the way of a view is longer than the caps of its sources allow.
use Rattle.std.proofs.Common.{ℕ, ◌+◌, ◌≤◌, ℤ, List, [], ◌∷◌, ◌++◌, length, filter_map, cond, Bool, true, false, Option, None, Some, arith, le_trans}
use Rattle.std.specs.Option.{option_map_or, option_to_list}
use Rattle.sig_diff.specs.Contents.{entries_in}
use Rattle.sig_diff.specs.Entries.{IsRising}
use Rattle.sig_diff.specs.MapDifferences.{map_applied}
use Rattle.sig_diff.specs.Replaying.{MapStaysShort}
use Rattle.sig_diff.specs.declared.contents.Content.{Content}
use Rattle.sig_diff.specs.declared.contents.Content.TheVariants.{Cell, Vector, Map}
use Rattle.sig_diff.specs.declared.map_differences.MapDiff.{MapDiff}
use Rattle.sig_diff.specs.declared.map_differences.MapDiff.TheVariants as changed
use Rattle.sig_expr.specs.Bounds.{map_bound}
use Rattle.sig_expr.specs.Functions.{image}
use Rattle.sig_expr.specs.Evaluation.{entries_of}
use Rattle.sig_expr.specs.Trees.{MapTree, map_source, mapped_values}
use Rattle.sig_hist.proofs.Entries.{within_cap}
use Rattle.sig_hist.proofs.InOrder.{edit_in_order}
use Rattle.sig_hist.specs.Changes.{Change, IsInOrder, after, change_of, edited, size_of}
use Rattle.sig_hist.specs.Entering.{as_map, is_far, map_entering}
use Rattle.sig_hist.specs.Histories.{changes_by, state}
use Rattle.sig_hist.specs.declared.edits.Entry.{Entry}
use Rattle.sig_rows.proofs.ByMap.{MapGoesShort, values_go_short}
use Rattle.sig_rows.proofs.Reaching.{map_flow_reaches, order_before}
use Rattle.sig_hist.specs.Ways.{GoesAhead, Way, before, passed}
use Rattle.sig_rows.specs.Flow.{map_flow, old}

-- ---- sources

-- a content in order stays within its cap
pub state_within : (content : Content) (cap : ℕ) (entries : List Entry) → IsInOrder content → size_of content ≤ cap → size_of (state content cap entries) ≤ cap
state_within content cap [] in_order within = within
state_within content cap (entry ∷ entries) in_order within =
    state_within (edited content cap entry.edit) cap entries (edit_in_order content cap entry.edit in_order) (within_cap content cap entry.edit in_order within)

pub entries_short : (content : Content) (cap : ℕ) → size_of content ≤ cap → length (entries_in content) ≤ cap
entries_short (Cell x) cap within = omega arith
entries_short (Vector items) cap within = omega arith
entries_short (Map pairs) cap within = within

-- ---- what enters

abbrev ShortOn : ℕ → List Entry → Type 0
ShortOn cap entries = (pairs : List (ℤ × ℤ)) → IsRising pairs → length pairs ≤ cap → MapStaysShort cap pairs (filter_map as_map (changes_by (Map pairs) cap entries))

change_short : (pairs : List (ℤ × ℤ)) (cap : ℕ) (change : Option Change) (entries : List Entry) → let next : Content = option_map_or (after (Map pairs)) change (Map pairs) in
    IsInOrder next → size_of next ≤ cap → ShortOn cap entries → MapStaysShort cap pairs (filter_map as_map (option_to_list change ++ changes_by next cap entries))
change_short pairs cap None entries in_order within later = later pairs in_order within
change_short pairs cap (Some (Change.map diff)) entries in_order within later = λ taken. (within, later (map_applied pairs diff) in_order within)
change_short pairs cap (Some (Change.number x)) entries in_order within later = later pairs in_order within
change_short pairs cap (Some (Change.list diff)) entries in_order within later = later pairs in_order within

changes_short : (cap : ℕ) (entries : List Entry) → ShortOn cap entries
changes_short cap [] pairs rising within = tt
changes_short cap (entry ∷ entries) pairs rising within =
    change_short pairs cap (change_of (Map pairs) cap entry.edit) entries (edit_in_order (Map pairs) cap entry.edit rising) (within_cap (Map pairs) cap entry.edit rising within) (changes_short cap entries)

far_short : (pairs : List (ℤ × ℤ)) (cap : ℕ) (entries : List Entry) (far : Bool) → IsRising pairs → length pairs ≤ cap → let last : List (ℤ × ℤ) = entries_in (state (Map pairs) cap entries) in
    MapStaysShort cap pairs (cond far (changed.Replace last ∷ []) (filter_map as_map (changes_by (Map pairs) cap entries)))
far_short pairs cap entries true rising within = λ taken. (entries_short (state (Map pairs) cap entries) cap (state_within (Map pairs) cap entries rising within), tt)
far_short pairs cap entries false rising within = changes_short cap entries pairs rising within

map_entering_short : (content : Content) (cap : ℕ) (entries : List Entry) → IsInOrder content → length (entries_in content) ≤ cap → MapStaysShort cap (entries_in content) (map_entering content cap entries)
map_entering_short (Cell x) cap entries in_order within = tt
map_entering_short (Vector items) cap entries in_order within = tt
map_entering_short (Map pairs) cap entries in_order within = far_short pairs cap entries (is_far entries) in_order within

-- ---- maps

stays_for_more : (most more : ℕ) → most ≤ more → (entries : List (ℤ × ℤ)) (diffs : List (MapDiff ℤ)) → MapStaysShort most entries diffs → MapStaysShort more entries diffs
stays_for_more most more larger entries [] short = tt
stays_for_more most more larger entries (diff ∷ diffs) short = λ taken. (le_trans (short taken).0 larger, stays_for_more most more larger (map_applied entries diff) diffs (short taken).1)

module _ {L : Type 0} (way : L → Way) (goes : (leaf : L) → GoesAhead (way leaf)) (short : (leaf : L) → length (entries_in (before (way leaf))) ≤ (way leaf).source.plan.cap) (most : ℕ) where
  pub map_flow_short : (m : MapTree L) → map_bound (λ leaf. (way leaf).source.plan.cap) m ≤ most → MapGoesShort most (entries_of (old way) m) (map_flow way m)
  map_flow_short (map_source leaf) few = record {
    before = le_trans (short leaf) few;
    stays = stays_for_more (way leaf).source.plan.cap most few _ _ (map_entering_short (before (way leaf)) (way leaf).source.plan.cap (passed (way leaf)) (order_before way goes leaf) (short leaf));
  }
  map_flow_short (mapped_values f m) few = values_go_short (image f) most (entries_of (old way) m) (map_flow way m) (map_flow_reaches way goes m).lawful (map_flow_short m few)
