-- The view from scratch: what an expression shows, where each leaf has a content.
use Rattle.std.specs.Prelude.{ℤ, pos, List, [], ◌∷◌, ◌++◌, map, length}
use Rattle.std.specs.List.{filter, flat_map}
use Rattle.std.specs.Option.{unwrap_or}
use Rattle.sig_diff.specs.Choosing.{signal_for, list_for, is_let_in, raised_by}
use Rattle.sig_diff.specs.Entries.{value_at, keys_of, values_of, values_mapped}
use Rattle.sig_diff.specs.Numbers.{clamped, total}
use Rattle.sig_diff.specs.Sorting.{by_key, in_order}
use Rattle.sig_diff.specs.Contents.{number_in, list_in, entries_in}
use Rattle.sig_diff.specs.declared.contents.Content.{Content}
use Rattle.sig_expr.specs.Functions.{image, passes}
use Rattle.sig_expr.specs.Trees.{MapTree, map_source, mapped_values, SigTree, cell, mapped_signal, deduped, switched, length_of, total_of, at_key, VecTree, vector, mapped, filtered, filtered_by, mapped_by, sorted, joined, flattened, picked, keys_in, values_in, SigTrees, no_signals, more_signals, VecTrees, no_lists, more_lists}

module _ {L : Type 0} (s : L → Content) where
  abbrev pub entries_of : MapTree L → List (ℤ × ℤ)
  entries_of (map_source l) = entries_in (s l)
  entries_of (mapped_values f m) = values_mapped (image f) (entries_of m)

  abbrev mutual
    pub value_of : SigTree L → ℤ
    value_of (cell l) = number_in (s l)
    value_of (mapped_signal f e) = image f (value_of e)
    value_of (deduped e) = value_of e
    value_of (switched e bank) = signal_for (signals_of bank) (value_of e)
    value_of (length_of e) = pos (length (list_of e))
    value_of (total_of e) = clamped (total (list_of e))
    value_of (at_key key default m) = unwrap_or (value_at key (entries_of m)) default

    pub list_of : VecTree L → List ℤ
    list_of (vector l) = list_in (s l)
    list_of (mapped f e) = map (image f) (list_of e)
    list_of (filtered p e) = filter (passes p) (list_of e)
    list_of (filtered_by e bank) = filter (is_let_in (signals_of bank)) (list_of e)
    list_of (mapped_by e bank) = map (raised_by (signals_of bank)) (list_of e)
    list_of (sorted f e) = in_order (by_key (image f)) (list_of e)
    list_of (joined a b) = list_of a ++ list_of b
    list_of (flattened e bank) = flat_map (list_for (lists_of bank)) (list_of e)
    list_of (picked e bank) = list_for (lists_of bank) (value_of e)
    list_of (keys_in m) = keys_of (entries_of m)
    list_of (values_in m) = values_of (entries_of m)

    pub signals_of : SigTrees L → List ℤ
    signals_of no_signals = []
    signals_of (more_signals e bank) = value_of e ∷ signals_of bank

    pub lists_of : VecTrees L → List (List ℤ)
    lists_of no_lists = []
    lists_of (more_lists e bank) = list_of e ∷ lists_of bank
