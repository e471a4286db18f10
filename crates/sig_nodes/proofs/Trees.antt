-- The operators of nodes, by their variants.
use Rattle.std.proofs.Common.{◌≡◌, List, ℕ, ℤ, Box, Global, rules}
use Rattle.sig_bank.specs.Banks.{BySignals, Choice}
use Rattle.sig_expr.specs.declared.functions.Fun.{Fun}
use Rattle.sig_expr.specs.declared.functions.Pred.{Pred}
use Rattle.sig_flat.specs.Flattening.{Blocks}
use Rattle.sig_flat.specs.Joining.{Halves}
use Rattle.sig_ops.specs.Filtering.{Filter}
use Rattle.sig_sort.specs.Sorting.{SortedList}
use Rattle.sig_nodes.specs.Nodes.{blocks_of, count_of, halves_of, image_of, images, kept, let_in, list_ops, lists_ops, one_list, one_signal, ordered, pick_of, raised, signal_ops, signals_ops, sum_of, switch_of, without_repeats}
use Rattle.sig_nodes.specs.declared.nodes.ListBank
use Rattle.sig_nodes.specs.declared.nodes.ListBank.{ListBank}
use Rattle.sig_nodes.specs.declared.nodes.ListNode
use Rattle.sig_nodes.specs.declared.nodes.ListNode.{ListNode}
use Rattle.sig_nodes.specs.declared.nodes.SignalBank
use Rattle.sig_nodes.specs.declared.nodes.SignalBank.{SignalBank}
use Rattle.sig_nodes.specs.declared.nodes.SignalNode
use Rattle.sig_nodes.specs.declared.nodes.SignalNode.{SignalNode}

-- ---- lists

pub ops_of_map : (op : Fun) (of : Box ListNode Global) → list_ops (ListNode.Map op of) ≡ images op (list_ops of.value)
ops_of_map op of = search (rules, ListNode.the_lemmas)

pub ops_of_filter : (op : Filter Pred ℤ) (of : Box ListNode Global) → list_ops (ListNode.Filter op of) ≡ kept op (list_ops of.value)
ops_of_filter op of = search (rules, ListNode.the_lemmas)

pub ops_of_sorted : (op : SortedList Fun) (of : Box ListNode Global) → list_ops (ListNode.Sorted op of) ≡ ordered op (list_ops of.value)
ops_of_sorted op of = search (rules, ListNode.the_lemmas)

pub ops_of_filter_by : (op : BySignals) (of : Box ListNode Global) (bank : Box SignalBank Global) → list_ops (ListNode.FilterBy op of bank) ≡ let_in op (list_ops of.value) (signals_ops bank.value)
ops_of_filter_by op of bank = search (rules, ListNode.the_lemmas)

pub ops_of_map_by : (op : BySignals) (of : Box ListNode Global) (bank : Box SignalBank Global) → list_ops (ListNode.MapBy op of bank) ≡ raised op (list_ops of.value) (signals_ops bank.value)
ops_of_map_by op of bank = search (rules, ListNode.the_lemmas)

pub ops_of_concat : (op : Halves) (left right : Box ListNode Global) → list_ops (ListNode.Concat op left right) ≡ halves_of op (list_ops left.value) (list_ops right.value)
ops_of_concat op left right = search (rules, ListNode.the_lemmas)

pub ops_of_flatten : (op : Blocks) (of : Box ListNode Global) (bank : Box ListBank Global) → list_ops (ListNode.Flatten op of bank) ≡ blocks_of op (list_ops of.value) (lists_ops bank.value)
ops_of_flatten op of bank = search (rules, ListNode.the_lemmas)

pub ops_of_pick : (op : Choice (List ℤ)) (of : Box SignalNode Global) (bank : Box ListBank Global) → list_ops (ListNode.Pick op of bank) ≡ pick_of op (signal_ops of.value) (lists_ops bank.value)
ops_of_pick op of bank = search (rules, ListNode.the_lemmas)

-- ---- signals

pub ops_of_image : (fun : Fun) (of : Box SignalNode Global) → signal_ops (SignalNode.Map fun of) ≡ image_of fun (signal_ops of.value)
ops_of_image fun of = search (rules, SignalNode.the_lemmas)

pub ops_of_dedupe : (last : ℤ) (of : Box SignalNode Global) → signal_ops (SignalNode.Dedupe last of) ≡ without_repeats last (signal_ops of.value)
ops_of_dedupe last of = search (rules, SignalNode.the_lemmas)

pub ops_of_switch : (op : Choice ℤ) (of : Box SignalNode Global) (bank : Box SignalBank Global) → signal_ops (SignalNode.Switch op of bank) ≡ switch_of op (signal_ops of.value) (signals_ops bank.value)
ops_of_switch op of bank = search (rules, SignalNode.the_lemmas)

pub ops_of_length : (len : ℕ) (of : Box ListNode Global) → signal_ops (SignalNode.Len len of) ≡ count_of len (list_ops of.value)
ops_of_length len of = search (rules, SignalNode.the_lemmas)

pub ops_of_total : (items : List ℤ) (of : Box ListNode Global) → signal_ops (SignalNode.Sum items of) ≡ sum_of items (list_ops of.value)
ops_of_total items of = search (rules, SignalNode.the_lemmas)

-- ---- banks

pub ops_of_signals : (of : Box SignalNode Global) (bank : Box SignalBank Global) → signals_ops (SignalBank.Signal of bank) ≡ one_signal (signal_ops of.value) (signals_ops bank.value)
ops_of_signals of bank = search (rules, SignalBank.the_lemmas)

pub ops_of_lists : (of : Box ListNode Global) (bank : Box ListBank Global) → lists_ops (ListBank.List of bank) ≡ one_list (list_ops of.value) (lists_ops bank.value)
ops_of_lists of bank = search (rules, ListBank.the_lemmas)

-- ---- by the parts below

pub map_ops : (node below : ListNode) (op : Fun) (of : Box ListNode Global) → node ≡ ListNode.Map op of → below ≡ of.value → list_ops node ≡ images op (list_ops below)
map_ops node below op of is at = rw (is, at) (ops_of_map op of)

pub filter_ops : (node below : ListNode) (op : Filter Pred ℤ) (of : Box ListNode Global) → node ≡ ListNode.Filter op of → below ≡ of.value → list_ops node ≡ kept op (list_ops below)
filter_ops node below op of is at = rw (is, at) (ops_of_filter op of)

pub sorted_ops : (node below : ListNode) (op : SortedList Fun) (of : Box ListNode Global) → node ≡ ListNode.Sorted op of → below ≡ of.value → list_ops node ≡ ordered op (list_ops below)
sorted_ops node below op of is at = rw (is, at) (ops_of_sorted op of)

pub filter_by_ops : (node below : ListNode) (others : SignalBank) (op : BySignals) (of : Box ListNode Global) (bank : Box SignalBank Global) → node ≡ ListNode.FilterBy op of bank → below ≡ of.value → others ≡ bank.value →
    list_ops node ≡ let_in op (list_ops below) (signals_ops others)
filter_by_ops node below others op of bank is at also = rw (is, at, also) (ops_of_filter_by op of bank)

pub map_by_ops : (node below : ListNode) (others : SignalBank) (op : BySignals) (of : Box ListNode Global) (bank : Box SignalBank Global) → node ≡ ListNode.MapBy op of bank → below ≡ of.value → others ≡ bank.value →
    list_ops node ≡ raised op (list_ops below) (signals_ops others)
map_by_ops node below others op of bank is at also = rw (is, at, also) (ops_of_map_by op of bank)

pub concat_ops : (node below other : ListNode) (op : Halves) (left right : Box ListNode Global) → node ≡ ListNode.Concat op left right → below ≡ left.value → other ≡ right.value →
    list_ops node ≡ halves_of op (list_ops below) (list_ops other)
concat_ops node below other op left right is at also = rw (is, at, also) (ops_of_concat op left right)

pub flatten_ops : (node below : ListNode) (others : ListBank) (op : Blocks) (of : Box ListNode Global) (bank : Box ListBank Global) → node ≡ ListNode.Flatten op of bank → below ≡ of.value → others ≡ bank.value →
    list_ops node ≡ blocks_of op (list_ops below) (lists_ops others)
flatten_ops node below others op of bank is at also = rw (is, at, also) (ops_of_flatten op of bank)

pub pick_ops : (node : ListNode) (below : SignalNode) (others : ListBank) (op : Choice (List ℤ)) (of : Box SignalNode Global) (bank : Box ListBank Global) → node ≡ ListNode.Pick op of bank → below ≡ of.value → others ≡ bank.value →
    list_ops node ≡ pick_of op (signal_ops below) (lists_ops others)
pick_ops node below others op of bank is at also = rw (is, at, also) (ops_of_pick op of bank)

pub image_ops : (node below : SignalNode) (fun : Fun) (of : Box SignalNode Global) → node ≡ SignalNode.Map fun of → below ≡ of.value → signal_ops node ≡ image_of fun (signal_ops below)
image_ops node below fun of is at = rw (is, at) (ops_of_image fun of)

pub dedupe_ops : (node below : SignalNode) (last : ℤ) (of : Box SignalNode Global) → node ≡ SignalNode.Dedupe last of → below ≡ of.value → signal_ops node ≡ without_repeats last (signal_ops below)
dedupe_ops node below last of is at = rw (is, at) (ops_of_dedupe last of)

pub switch_ops : (node below : SignalNode) (others : SignalBank) (op : Choice ℤ) (of : Box SignalNode Global) (bank : Box SignalBank Global) → node ≡ SignalNode.Switch op of bank → below ≡ of.value → others ≡ bank.value →
    signal_ops node ≡ switch_of op (signal_ops below) (signals_ops others)
switch_ops node below others op of bank is at also = rw (is, at, also) (ops_of_switch op of bank)

pub length_ops : (node : SignalNode) (below : ListNode) (len : ℕ) (of : Box ListNode Global) → node ≡ SignalNode.Len len of → below ≡ of.value → signal_ops node ≡ count_of len (list_ops below)
length_ops node below len of is at = rw (is, at) (ops_of_length len of)

pub total_ops : (node : SignalNode) (below : ListNode) (items : List ℤ) (of : Box ListNode Global) → node ≡ SignalNode.Sum items of → below ≡ of.value → signal_ops node ≡ sum_of items (list_ops below)
total_ops node below items of is at = rw (is, at) (ops_of_total items of)

pub bank_ops : (node : SignalBank) (below : SignalNode) (others : SignalBank) (of : Box SignalNode Global) (bank : Box SignalBank Global) → node ≡ SignalBank.Signal of bank → below ≡ of.value → others ≡ bank.value →
    signals_ops node ≡ one_signal (signal_ops below) (signals_ops others)
bank_ops node below others of bank is at also = rw (is, at, also) (ops_of_signals of bank)

pub list_bank_ops : (node : ListBank) (below : ListNode) (others : ListBank) (of : Box ListNode Global) (bank : Box ListBank Global) → node ≡ ListBank.List of bank → below ≡ of.value → others ≡ bank.value →
    lists_ops node ≡ one_list (list_ops below) (lists_ops others)
list_bank_ops node below others of bank is at also = rw (is, at, also) (ops_of_lists of bank)
