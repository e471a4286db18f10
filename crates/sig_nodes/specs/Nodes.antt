-- The operators of a view as trees beside its expression, and when they stand for contents of the leaves.
use Rattle.std.specs.Prelude.{◌≡◌, ℕ, suc, ℤ, List, length, Bool, true, false, Option, None, Some}
use Rattle.sig_bank.specs.Banks.{BySignals, Choice}
use Rattle.sig_diff.specs.Entries.{value_at}
use Rattle.sig_diff.specs.declared.contents.Content.{Content}
use Rattle.sig_expr.specs.Evaluation.{entries_of, list_of, lists_of, signals_of, value_of}
use Rattle.sig_expr.specs.Trees.{SigTree, cell, mapped_signal, deduped, switched, length_of, total_of, at_key, VecTree, vector, mapped, filtered, filtered_by, mapped_by, sorted, picked, keys_in, values_in, SigTrees, no_signals, more_signals, VecTrees, no_lists, more_lists, MapTree, map_source, mapped_values, ViewTree, signal_view, vector_view, map_view, entries_view, tagged_view, joined, flattened}
use Rattle.sig_expr.specs.declared.functions.Fun.{Fun}
use Rattle.sig_expr.specs.declared.functions.Pred.{Pred}
use Rattle.sig_maps.specs.Keys.{KeyView}
use Rattle.sig_ops.specs.Enumerating.{Enumeration, IsEnumeration}
use Rattle.sig_flat.specs.Flattening.{Blocks}
use Rattle.sig_flat.specs.Joining.{Halves}
use Rattle.sig_ops.specs.Filtering.{Filter}
use Rattle.sig_sort.specs.Sorting.{SortedList}
use Rattle.sig_nodes.specs.declared.nodes.MapNode.{MapNode, MapNode-F, fold-MapNode}
use Rattle.sig_nodes.specs.declared.nodes.ListNode.{ListNode, ListNode-F, fold-ListNode}
use Rattle.sig_nodes.specs.declared.nodes.SignalNode.{SignalNode, SignalNode-F, fold-SignalNode}
use Rattle.sig_nodes.specs.declared.nodes.SignalBank.{SignalBank, SignalBank-F, fold-SignalBank}
use Rattle.sig_nodes.specs.declared.nodes.ListBank.{ListBank, ListBank-F, fold-ListBank}
use Rattle.sig_nodes.specs.declared.nodes.ViewNode.{ViewNode}
use Rattle.sig_nodes.specs.declared.nodes.ViewNode.TheVariants as node

-- ---- operators

mutual
  -- a list's operators, from its leaves on
  pub data ListOps : Type 0 where
    source : ℕ → ListOps
    images : Fun → ListOps → ListOps
    kept : Filter Pred ℤ → ListOps → ListOps
    ordered : SortedList Fun → ListOps → ListOps
    let_in : BySignals → ListOps → SignalsOps → ListOps
    raised : BySignals → ListOps → SignalsOps → ListOps
    halves_of : Halves → ListOps → ListOps → ListOps
    blocks_of : Blocks → ListOps → ListsOps → ListOps
    pick_of : Choice (List ℤ) → SignalOps → ListsOps → ListOps
    keys_by : List (ℤ × ℤ) → MapTree ℕ → ListOps
    values_by : List (ℤ × ℤ) → MapTree ℕ → ListOps

  -- a signal's
  pub data SignalOps : Type 0 where
    number : ℕ → SignalOps
    image_of : Fun → SignalOps → SignalOps
    without_repeats : ℤ → SignalOps → SignalOps
    switch_of : Choice ℤ → SignalOps → SignalsOps → SignalOps
    count_of : ℕ → ListOps → SignalOps
    sum_of : List ℤ → ListOps → SignalOps
    value_at_key : KeyView → MapTree ℕ → SignalOps

  -- those of a bank's parts
  pub data SignalsOps : Type 0 where
    no_signal : SignalsOps
    one_signal : SignalOps → SignalsOps → SignalsOps

  pub data ListsOps : Type 0 where
    no_list : ListsOps
    one_list : ListOps → ListsOps → ListsOps

abbrev pub has_no_signal : SignalsOps → Bool
has_no_signal no_signal = true
has_no_signal (one_signal ops bank) = false

abbrev pub has_no_list : ListsOps → Bool
has_no_list no_list = true
has_no_list (one_list ops bank) = false

-- how many parts a bank has
abbrev pub signal_count : SignalsOps → ℕ
signal_count no_signal = 0
signal_count (one_signal ops bank) = suc (signal_count bank)

abbrev pub list_count : ListsOps → ℕ
list_count no_list = 0
list_count (one_list ops bank) = suc (list_count bank)

-- a map's operators keep nothing: they are the expression that they work on
abbrev pub map_step : MapNode-F (MapTree ℕ) → MapTree ℕ
map_step (MapNode-F.Source leaf) = map_source leaf
map_step (MapNode-F.Value fun of) = mapped_values fun of.value

abbrev pub map_ops : MapNode → MapTree ℕ
map_ops = fold-MapNode (MapTree ℕ) map_step

abbrev pub list_step : ListNode-F ListsOps ListOps SignalsOps SignalOps → ListOps
list_step (ListNode-F.Source leaf) = source leaf
list_step (ListNode-F.ListNode::Map fun of) = images fun of.value
list_step (ListNode-F.Filter filter of) = kept filter of.value
list_step (ListNode-F.Sorted list of) = ordered list of.value
list_step (ListNode-F.FilterBy by of bank) = let_in by of.value bank.value
list_step (ListNode-F.MapBy by of bank) = raised by of.value bank.value
list_step (ListNode-F.Concat halves left right) = halves_of halves left.value right.value
list_step (ListNode-F.Flatten blocks of bank) = blocks_of blocks of.value bank.value
list_step (ListNode-F.Pick choice of bank) = pick_of choice of.value bank.value
list_step (ListNode-F.Keys entries of) = keys_by entries (map_ops of)
list_step (ListNode-F.Values entries of) = values_by entries (map_ops of)

abbrev pub signal_step : SignalNode-F ListsOps ListOps SignalsOps SignalOps → SignalOps
signal_step (SignalNode-F.Cell leaf) = number leaf
signal_step (SignalNode-F.SignalNode::Map fun of) = image_of fun of.value
signal_step (SignalNode-F.Dedupe last of) = without_repeats last of.value
signal_step (SignalNode-F.Switch choice of bank) = switch_of choice of.value bank.value
signal_step (SignalNode-F.Len len of) = count_of len of.value
signal_step (SignalNode-F.Sum items of) = sum_of items of.value
signal_step (SignalNode-F.Key key of) = value_at_key key (map_ops of)

abbrev pub signals_step : SignalBank-F ListsOps ListOps SignalsOps SignalOps → SignalsOps
signals_step SignalBank-F.SignalBank::Empty = no_signal
signals_step (SignalBank-F.Signal of bank) = one_signal of.value bank.value

abbrev pub lists_step : ListBank-F ListsOps ListOps SignalsOps SignalOps → ListsOps
lists_step ListBank-F.ListBank::Empty = no_list
lists_step (ListBank-F.List of bank) = one_list of.value bank.value

abbrev pub list_ops : ListNode → ListOps
list_ops = fold-ListNode ListsOps ListOps SignalsOps SignalOps lists_step list_step signals_step signal_step

abbrev pub signal_ops : SignalNode → SignalOps
signal_ops = fold-SignalNode ListsOps ListOps SignalsOps SignalOps lists_step list_step signals_step signal_step

abbrev pub signals_ops : SignalBank → SignalsOps
signals_ops = fold-SignalBank ListsOps ListOps SignalsOps SignalOps lists_step list_step signals_step signal_step

abbrev pub lists_ops : ListBank → ListsOps
lists_ops = fold-ListBank ListsOps ListOps SignalsOps SignalOps lists_step list_step signals_step signal_step

-- ---- the expressions that the operators work on, their leaves by their numbers

abbrev mutual
  pub list_tree : ListOps → VecTree ℕ
  list_tree (source leaf) = vector leaf
  list_tree (images fun ops) = mapped fun (list_tree ops)
  list_tree (kept filter ops) = filtered filter.tester (list_tree ops)
  list_tree (ordered list ops) = sorted list.mapper (list_tree ops)
  list_tree (let_in by ops bank) = filtered_by (list_tree ops) (signal_trees bank)
  list_tree (raised by ops bank) = mapped_by (list_tree ops) (signal_trees bank)
  list_tree (halves_of halves left right) = joined (list_tree left) (list_tree right)
  list_tree (blocks_of blocks ops bank) = flattened (list_tree ops) (list_trees bank)
  list_tree (pick_of choice ops bank) = picked (signal_tree ops) (list_trees bank)
  list_tree (keys_by entries m) = keys_in m
  list_tree (values_by entries m) = values_in m

  pub signal_tree : SignalOps → SigTree ℕ
  signal_tree (number leaf) = cell leaf
  signal_tree (image_of fun ops) = mapped_signal fun (signal_tree ops)
  signal_tree (without_repeats last ops) = deduped (signal_tree ops)
  signal_tree (switch_of choice ops bank) = switched (signal_tree ops) (signal_trees bank)
  signal_tree (count_of len ops) = length_of (list_tree ops)
  signal_tree (sum_of items ops) = total_of (list_tree ops)
  signal_tree (value_at_key key m) = at_key key.key key.default m

  pub signal_trees : SignalsOps → SigTrees ℕ
  signal_trees no_signal = no_signals
  signal_trees (one_signal ops bank) = more_signals (signal_tree ops) (signal_trees bank)

  pub list_trees : ListsOps → VecTrees ℕ
  list_trees no_list = no_lists
  list_trees (one_list ops bank) = more_lists (list_tree ops) (list_trees bank)

-- ---- each operator stands for what its parts are by these contents

abbrev mutual
  pub ListStands : (ℕ → Content) → ListOps → Type 0
  ListStands s (source leaf) = Unit {0}
  ListStands s (images fun ops) = ListStands s ops
  ListStands s (kept filter ops) = (filter.items ≡ list_of s (list_tree ops)) × ListStands s ops
  ListStands s (ordered list ops) = (list.items ≡ list_of s (list_tree ops)) × ListStands s ops
  ListStands s (let_in by ops bank) =
      (by.items ≡ list_of s (list_tree ops)) × (by.signals ≡ signals_of s (signal_trees bank)) × ListStands s ops × SignalsStand s bank
  ListStands s (raised by ops bank) =
      (by.items ≡ list_of s (list_tree ops)) × (by.signals ≡ signals_of s (signal_trees bank)) × ListStands s ops × SignalsStand s bank
  ListStands s (halves_of halves left right) =
      (halves.left ≡ length (list_of s (list_tree left))) × (halves.right ≡ length (list_of s (list_tree right))) × ListStands s left × ListStands s right
  ListStands s (blocks_of blocks ops bank) =
      (blocks.outer ≡ list_of s (list_tree ops)) × (blocks.parts ≡ lists_of s (list_trees bank)) × ListStands s ops × ListsStand s bank
  ListStands s (pick_of choice ops bank) =
      (choice.chooser ≡ value_of s (signal_tree ops)) × (choice.parts ≡ lists_of s (list_trees bank)) × SignalStands s ops × ListsStand s bank
  ListStands s (keys_by entries m) = entries ≡ entries_of s m
  ListStands s (values_by entries m) = entries ≡ entries_of s m

  pub SignalStands : (ℕ → Content) → SignalOps → Type 0
  SignalStands s (number leaf) = Unit {0}
  SignalStands s (image_of fun ops) = SignalStands s ops
  SignalStands s (without_repeats last ops) = (last ≡ value_of s (signal_tree ops)) × SignalStands s ops
  SignalStands s (switch_of choice ops bank) =
      (choice.chooser ≡ value_of s (signal_tree ops)) × (choice.parts ≡ signals_of s (signal_trees bank)) × SignalStands s ops × SignalsStand s bank
  SignalStands s (count_of len ops) = (len ≡ length (list_of s (list_tree ops))) × ListStands s ops
  SignalStands s (sum_of items ops) = (items ≡ list_of s (list_tree ops)) × ListStands s ops
  SignalStands s (value_at_key key m) = key.value ≡ value_at key.key (entries_of s m)

  pub SignalsStand : (ℕ → Content) → SignalsOps → Type 0
  SignalsStand s no_signal = Unit {0}
  SignalsStand s (one_signal ops bank) = SignalStands s ops × SignalsStand s bank

  pub ListsStand : (ℕ → Content) → ListsOps → Type 0
  ListsStand s no_list = Unit {0}
  ListsStand s (one_list ops bank) = ListStands s ops × ListsStand s bank

-- ---- views

pub data ViewOps : Type 0 where
  signal : SignalOps → ViewOps
  list : ListOps → ViewOps
  map : MapTree ℕ → ViewOps
  pairs_by : List (ℤ × ℤ) → MapTree ℕ → ViewOps
  tagged : Enumeration → ListOps → ViewOps

abbrev pub view_ops : ViewNode → ViewOps
view_ops (node.Signal of) = signal (signal_ops of)
view_ops (node.Vector of) = list (list_ops of)
view_ops (node.Map of) = map (map_ops of)
view_ops (node.Entries pairs of) = pairs_by pairs (map_ops of)
view_ops (node.Enumerate op of) = tagged op (list_ops of)

abbrev pub view_tree_of : ViewOps → ViewTree ℕ
view_tree_of (signal ops) = signal_view (signal_tree ops)
view_tree_of (list ops) = vector_view (list_tree ops)
view_tree_of (map m) = map_view m
view_tree_of (pairs_by pairs m) = entries_view m
view_tree_of (tagged op ops) = tagged_view (list_tree ops)

abbrev pub ViewStands : (ℕ → Content) → ViewOps → Type 0
ViewStands s (signal ops) = SignalStands s ops
ViewStands s (list ops) = ListStands s ops
ViewStands s (map m) = Unit {0}
ViewStands s (pairs_by pairs m) = pairs ≡ entries_of s m
ViewStands s (tagged op ops) = IsEnumeration op (list_of s (list_tree ops)) × ListStands s ops

-- the elements with their tags, where a view's elements have tags
abbrev pub op_tags : ViewOps → Option Enumeration
op_tags (tagged op ops) = Some op
op_tags ops = None
