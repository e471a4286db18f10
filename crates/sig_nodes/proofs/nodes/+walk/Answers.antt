use Rattle.std.proofs.Common.{◌≡◌, ◌∙◌, ◌-◌, suc, rules, refl, sym, arith, ◌+◌}
use Rattle.std.proofs.lemmas.Result.{IfOk-weaker, on_err_weaker, on_ok_weaker}
use Rattle.sig_nodes.proofs.ByBank.{as_let_in, as_raised, by_bank, by_count, by_each, by_few, by_goes, by_lawful, by_list, by_news, let_in_gone, raised_gone}
use Rattle.sig_nodes.proofs.ByBlocks.{all_lists_gone, blocks_bank, blocks_count, blocks_gone, blocks_may_flatten, blocks_news, no_lists_gone, outer_may_go, rest_lists_may_go}
use Rattle.sig_nodes.proofs.ByHalves.{halves_gone, halves_may_join, halves_news, left_may_go, right_may_go}
use Rattle.sig_nodes.proofs.ListArms.{filter_goes, filter_gone, length_gone, length_lawful, length_short, map_gone, sorted_goes, sorted_gone, total_gone, total_lawful, total_short}
use Rattle.sig_nodes.proofs.MapArms.{key_gone, keys_go, keys_gone, values_go, values_gone}
use Rattle.sig_nodes.proofs.News.{list_at_news, list_news, map_news, on_err_known, rest_news, signal_news}
use Rattle.sig_nodes.proofs.OverGiven.{one_more_place}
use Rattle.sig_nodes.proofs.Parts.{gone_twice, list_gone, signal_gone}
use Rattle.sig_nodes.proofs.PickSteps.{pick_bank, pick_gone, pick_gone_empty, pick_lawful, pick_may_go}
use Rattle.sig_nodes.proofs.SignalArms.{all_gone, dedupe_gone, first_gone, first_list_gone, first_list_may_go, first_may_go, image_gone, no_list_gone, none_at_gone, none_gone, other_gone, other_list_gone, other_lists_may_go, others_may_go, rest_may_go}
use Rattle.sig_nodes.proofs.SwitchSteps.{switch_bank, switch_gone, switch_gone_empty, switch_may_go}
use Rattle.sig_walk.proofs.Composing.{still_gone}
use Rattle.sig_nodes.proofs.MapTrees.{key_ops, keys_ops, ops_of_key, ops_of_keys, ops_of_values, values_ops}
use Rattle.sig_nodes.proofs.Results.{if_ok_also}
use Rattle.sig_nodes.proofs.Trees.{bank_ops, dedupe_ops, filter_by_ops, filter_ops, image_ops, length_ops, list_bank_ops, map_by_ops, map_ops, ops_of_dedupe, ops_of_filter, ops_of_filter_by, ops_of_image, ops_of_length, ops_of_lists, ops_of_map, ops_of_map_by, ops_of_pick, ops_of_signals, ops_of_sorted, ops_of_switch, ops_of_total, pick_ops, sorted_ops, switch_ops, total_ops, concat_ops, flatten_ops, ops_of_concat, ops_of_flatten}
use Rattle.sig_nodes.specs.Nodes.{lists_ops, map_ops as operators, no_list, no_signal, signals_ops}
use Rattle.sig_nodes.specs.declared.nodes.ListBank
use Rattle.sig_nodes.specs.declared.nodes.ListNode
use Rattle.sig_nodes.specs.declared.nodes.SignalBank
use Rattle.sig_nodes.specs.declared.nodes.SignalNode
use Rattle.sig_nodes.proofs.nodes.+walk.Goals as goal

pub ListNode::step-filtered-requires : goal.ListNode::step-filtered-requires
ListNode::step-filtered-requires g t c =
    let ops = filter_ops c.args.self.now c.deref_mut-in-Filter.result.now c.in-Filter.op c.in-Filter.of c.in-Filter.is c.deref_mut-in-Filter.ensures.value in
    filter_goes c.in_ok-diffs-in-Filter.ensures.taken (rw ops at c.requires.may_go)

pub ListNode::step-sorted-requires : goal.ListNode::step-sorted-requires
ListNode::step-sorted-requires g t c =
    let ops = sorted_ops c.args.self.now c.deref_mut-in-Sorted.result.now c.in-Sorted.op c.in-Sorted.of c.in-Sorted.is c.deref_mut-in-Sorted.ensures.value in
    sorted_goes c.in_ok-diffs-in-Sorted.ensures.taken (rw ops at c.requires.may_go)

pub ListNode::step-returns-in_ok-diffs-in-Map-clause-taken : goal.ListNode::step-returns-in_ok-diffs-in-Map-clause-taken
ListNode::step-returns-in_ok-diffs-in-Map-clause-taken g t c =
    let ops = map_ops c.args.self.now c.deref_mut.result.now c.in-Map.op c.in-Map.of c.in-Map.is c.deref_mut.ensures.value in
    if_ok_also c.mapped.result _ _ _ (λ given is same. rw (ops, ops_of_map) (map_gone c.in_ok-diffs-in-Map.ensures.taken c.in-Map.op c.mapped.new.op given same is)) c.mapped.ensures.given c.mapped.ensures.state

pub ListNode::step-returns-in_ok-diffs-in-Filter-clause-taken : goal.ListNode::step-returns-in_ok-diffs-in-Filter-clause-taken
ListNode::step-returns-in_ok-diffs-in-Filter-clause-taken g t c =
    let ops = filter_ops c.args.self.now c.deref_mut-in-Filter.result.now c.in-Filter.op c.in-Filter.of c.in-Filter.is c.deref_mut-in-Filter.ensures.value in
    if_ok_also c.filtered.result _ _ _ (λ given is same. rw (ops, ops_of_filter) (filter_gone c.in_ok-diffs-in-Filter.ensures.taken (rw ops at c.requires.may_go) c.filtered.new.op given same is)) c.filtered.ensures.given c.filtered.ensures.state

pub ListNode::step-returns-in_ok-diffs-in-Sorted-clause-taken : goal.ListNode::step-returns-in_ok-diffs-in-Sorted-clause-taken
ListNode::step-returns-in_ok-diffs-in-Sorted-clause-taken g t c =
    let ops = sorted_ops c.args.self.now c.deref_mut-in-Sorted.result.now c.in-Sorted.op c.in-Sorted.of c.in-Sorted.is c.deref_mut-in-Sorted.ensures.value in
    if_ok_also c.sorted.result _ _ _ (λ given is same. rw (ops, ops_of_sorted) (sorted_gone c.in_ok-diffs-in-Sorted.ensures.taken (rw ops at c.requires.may_go) c.sorted.new.op given same is)) c.sorted.ensures.given c.sorted.ensures.state

pub ListNode::step-step-requires-in-FilterBy : goal.ListNode::step-step-requires-in-FilterBy
ListNode::step-step-requires-in-FilterBy g t c κs within =
    let ops = filter_by_ops c.args.self.now c.deref_mut-in-FilterBy.result.now c.in-FilterBy.bank.value c.in-FilterBy.op c.in-FilterBy.of c.in-FilterBy.bank c.in-FilterBy.is c.deref_mut-in-FilterBy.ensures.value refl in
    (search (rules, ListNode.the_lemmas, c.decreases, c.in-FilterBy.is, c.deref_mut-in-FilterBy.ensures.value), (within.0, (within.1, by_list (as_let_in (rw ops at c.requires.may_go)))))

pub ListNode::step-step-requires-in-FilterBy-2 : goal.ListNode::step-step-requires-in-FilterBy-2
ListNode::step-step-requires-in-FilterBy-2 g t c κs within =
    let ops = filter_by_ops c.args.self.now c.deref_mut-in-FilterBy.result.now c.deref_mut-in-FilterBy-2.result.now c.in-FilterBy.op c.in-FilterBy.of c.in-FilterBy.bank c.in-FilterBy.is c.deref_mut-in-FilterBy.ensures.value c.deref_mut-in-FilterBy-2.ensures.value in
    (search (rules, ListNode.the_lemmas, SignalBank.the_lemmas, c.decreases, c.in-FilterBy.is, c.deref_mut-in-FilterBy-2.ensures.value), (within.0, (within.1, (by_bank (as_let_in (rw ops at c.requires.may_go)) c.in_ok-diffs-in-FilterBy.ensures.taken, by_count (as_let_in (rw ops at c.requires.may_go)) c.in_ok-diffs-in-FilterBy.ensures.taken c.signal_count.result c.signal_count.ensures))))

pub ListNode::step-returns-in_err-step-in-FilterBy-clause-gone : goal.ListNode::step-returns-in_err-step-in-FilterBy-clause-gone
ListNode::step-returns-in_err-step-in-FilterBy-clause-gone g t c =
    gone_twice c.step-in-FilterBy.ensures.gone c.step-in-FilterBy-2.ensures.gone

pub ListNode::step-filtered_by-requires-clause-goes : goal.ListNode::step-filtered_by-requires-clause-goes
ListNode::step-filtered_by-requires-clause-goes g t c =
    let ops = filter_by_ops c.args.self.now c.deref_mut-in-FilterBy.result.now c.deref_mut-in-FilterBy-2.result.now c.in-FilterBy.op c.in-FilterBy.of c.in-FilterBy.bank c.in-FilterBy.is c.deref_mut-in-FilterBy.ensures.value c.deref_mut-in-FilterBy-2.ensures.value in
    by_goes (as_let_in (rw ops at c.requires.may_go)) c.in_ok-diffs-in-FilterBy.ensures.taken (rw c.new-values.ensures.items at c.in_ok-step-in-FilterBy.ensures.taken)

pub ListNode::step-filtered_by-requires-clause-short : goal.ListNode::step-filtered_by-requires-clause-short
ListNode::step-filtered_by-requires-clause-short g t c =
    let ops = filter_by_ops c.args.self.now c.deref_mut-in-FilterBy.result.now c.deref_mut-in-FilterBy-2.result.now c.in-FilterBy.op c.in-FilterBy.of c.in-FilterBy.bank c.in-FilterBy.is c.deref_mut-in-FilterBy.ensures.value c.deref_mut-in-FilterBy-2.ensures.value in
    by_few (as_let_in (rw ops at c.requires.may_go)) c.in_ok-diffs-in-FilterBy.ensures.taken (rw c.new-values.ensures.items at c.in_ok-step-in-FilterBy.ensures.taken)

pub ListNode::step-filtered_by-requires-clause-each : goal.ListNode::step-filtered_by-requires-clause-each
ListNode::step-filtered_by-requires-clause-each g t c =
    let ops = filter_by_ops c.args.self.now c.deref_mut-in-FilterBy.result.now c.deref_mut-in-FilterBy-2.result.now c.in-FilterBy.op c.in-FilterBy.of c.in-FilterBy.bank c.in-FilterBy.is c.deref_mut-in-FilterBy.ensures.value c.deref_mut-in-FilterBy-2.ensures.value in
    rw c.as_slice.ensures.value (by_each (as_let_in (rw ops at c.requires.may_go)) c.in_ok-diffs-in-FilterBy.ensures.taken (rw c.new-values.ensures.items at c.in_ok-step-in-FilterBy.ensures.taken))

pub ListNode::step-returns-in_ok-step-in-FilterBy-clause-gone : goal.ListNode::step-returns-in_ok-step-in-FilterBy-clause-gone
ListNode::step-returns-in_ok-step-in-FilterBy-clause-gone g t c =
    gone_twice c.step-in-FilterBy.ensures.gone c.step-in-FilterBy-2.ensures.gone

pub ListNode::step-returns-in_ok-step-in-FilterBy-clause-taken : goal.ListNode::step-returns-in_ok-step-in-FilterBy-clause-taken
ListNode::step-returns-in_ok-step-in-FilterBy-clause-taken g t c =
    let ops = filter_by_ops c.args.self.now c.deref_mut-in-FilterBy.result.now c.deref_mut-in-FilterBy-2.result.now c.in-FilterBy.op c.in-FilterBy.of c.in-FilterBy.bank c.in-FilterBy.is c.deref_mut-in-FilterBy.ensures.value c.deref_mut-in-FilterBy-2.ensures.value in
    if_ok_also c.filtered_by.result _ _ _ (λ given is same. rw (ops, ops_of_filter_by) (let_in_gone (as_let_in (rw ops at c.requires.may_go)) c.in_ok-diffs-in-FilterBy.ensures.taken (rw c.new-values.ensures.items at c.in_ok-step-in-FilterBy.ensures.taken) c.filtered_by.new.op same given is)) (rw c.as_slice.ensures.value at c.filtered_by.ensures.given) (rw c.as_slice.ensures.value at c.filtered_by.ensures.state)

pub ListNode::step-step-requires-in-MapBy : goal.ListNode::step-step-requires-in-MapBy
ListNode::step-step-requires-in-MapBy g t c κs within =
    let ops = map_by_ops c.args.self.now c.deref_mut-in-MapBy.result.now c.in-MapBy.bank.value c.in-MapBy.op c.in-MapBy.of c.in-MapBy.bank c.in-MapBy.is c.deref_mut-in-MapBy.ensures.value refl in
    (search (rules, ListNode.the_lemmas, c.decreases, c.in-MapBy.is, c.deref_mut-in-MapBy.ensures.value), (within.0, (within.1, by_list (as_raised (rw ops at c.requires.may_go)))))

pub ListNode::step-step-requires-in-MapBy-2 : goal.ListNode::step-step-requires-in-MapBy-2
ListNode::step-step-requires-in-MapBy-2 g t c κs within =
    let ops = map_by_ops c.args.self.now c.deref_mut-in-MapBy.result.now c.deref_mut-in-MapBy-2.result.now c.in-MapBy.op c.in-MapBy.of c.in-MapBy.bank c.in-MapBy.is c.deref_mut-in-MapBy.ensures.value c.deref_mut-in-MapBy-2.ensures.value in
    (search (rules, ListNode.the_lemmas, SignalBank.the_lemmas, c.decreases, c.in-MapBy.is, c.deref_mut-in-MapBy-2.ensures.value), (within.0, (within.1, (by_bank (as_raised (rw ops at c.requires.may_go)) c.in_ok-diffs-in-MapBy.ensures.taken, by_count (as_raised (rw ops at c.requires.may_go)) c.in_ok-diffs-in-MapBy.ensures.taken c.signal_count-in-MapBy.result c.signal_count-in-MapBy.ensures))))

pub ListNode::step-returns-in_err-step-in-MapBy-clause-gone : goal.ListNode::step-returns-in_err-step-in-MapBy-clause-gone
ListNode::step-returns-in_err-step-in-MapBy-clause-gone g t c =
    gone_twice c.step-in-MapBy.ensures.gone c.step-in-MapBy-2.ensures.gone

pub ListNode::step-mapped_by-requires-clause-lawful : goal.ListNode::step-mapped_by-requires-clause-lawful
ListNode::step-mapped_by-requires-clause-lawful g t c =
    let ops = map_by_ops c.args.self.now c.deref_mut-in-MapBy.result.now c.deref_mut-in-MapBy-2.result.now c.in-MapBy.op c.in-MapBy.of c.in-MapBy.bank c.in-MapBy.is c.deref_mut-in-MapBy.ensures.value c.deref_mut-in-MapBy-2.ensures.value in
    by_lawful (as_raised (rw ops at c.requires.may_go)) c.in_ok-diffs-in-MapBy.ensures.taken (rw c.new-values-in-MapBy.ensures.items at c.in_ok-step-in-MapBy.ensures.taken)

pub ListNode::step-mapped_by-requires-clause-short : goal.ListNode::step-mapped_by-requires-clause-short
ListNode::step-mapped_by-requires-clause-short g t c =
    let ops = map_by_ops c.args.self.now c.deref_mut-in-MapBy.result.now c.deref_mut-in-MapBy-2.result.now c.in-MapBy.op c.in-MapBy.of c.in-MapBy.bank c.in-MapBy.is c.deref_mut-in-MapBy.ensures.value c.deref_mut-in-MapBy-2.ensures.value in
    by_few (as_raised (rw ops at c.requires.may_go)) c.in_ok-diffs-in-MapBy.ensures.taken (rw c.new-values-in-MapBy.ensures.items at c.in_ok-step-in-MapBy.ensures.taken)

pub ListNode::step-mapped_by-requires-clause-each : goal.ListNode::step-mapped_by-requires-clause-each
ListNode::step-mapped_by-requires-clause-each g t c =
    let ops = map_by_ops c.args.self.now c.deref_mut-in-MapBy.result.now c.deref_mut-in-MapBy-2.result.now c.in-MapBy.op c.in-MapBy.of c.in-MapBy.bank c.in-MapBy.is c.deref_mut-in-MapBy.ensures.value c.deref_mut-in-MapBy-2.ensures.value in
    rw c.as_slice-in-MapBy.ensures.value (by_each (as_raised (rw ops at c.requires.may_go)) c.in_ok-diffs-in-MapBy.ensures.taken (rw c.new-values-in-MapBy.ensures.items at c.in_ok-step-in-MapBy.ensures.taken))

pub ListNode::step-returns-in_ok-step-in-MapBy-clause-gone : goal.ListNode::step-returns-in_ok-step-in-MapBy-clause-gone
ListNode::step-returns-in_ok-step-in-MapBy-clause-gone g t c =
    gone_twice c.step-in-MapBy.ensures.gone c.step-in-MapBy-2.ensures.gone

pub ListNode::step-returns-in_ok-step-in-MapBy-clause-taken : goal.ListNode::step-returns-in_ok-step-in-MapBy-clause-taken
ListNode::step-returns-in_ok-step-in-MapBy-clause-taken g t c =
    let ops = map_by_ops c.args.self.now c.deref_mut-in-MapBy.result.now c.deref_mut-in-MapBy-2.result.now c.in-MapBy.op c.in-MapBy.of c.in-MapBy.bank c.in-MapBy.is c.deref_mut-in-MapBy.ensures.value c.deref_mut-in-MapBy-2.ensures.value in
    if_ok_also c.mapped_by.result _ _ _ (λ given is same. rw (ops, ops_of_map_by) (raised_gone (as_raised (rw ops at c.requires.may_go)) c.in_ok-diffs-in-MapBy.ensures.taken (rw c.new-values-in-MapBy.ensures.items at c.in_ok-step-in-MapBy.ensures.taken) c.mapped_by.new.op same given is)) (rw c.as_slice-in-MapBy.ensures.value at c.mapped_by.ensures.given) (rw c.as_slice-in-MapBy.ensures.value at c.mapped_by.ensures.state)

pub ListNode::step-step-requires-in-Concat : goal.ListNode::step-step-requires-in-Concat
ListNode::step-step-requires-in-Concat g t c κs within =
    let ops = concat_ops c.args.self.now c.deref_mut-in-Concat.result.now c.in-Concat.right.value c.in-Concat.op c.in-Concat.left c.in-Concat.right c.in-Concat.is c.deref_mut-in-Concat.ensures.value refl in
    (search (rules, ListNode.the_lemmas, c.decreases, c.in-Concat.is, c.deref_mut-in-Concat.ensures.value), (within.0, (within.1, left_may_go (rw ops at c.requires.may_go))))

pub ListNode::step-step-requires-in-Concat-2 : goal.ListNode::step-step-requires-in-Concat-2
ListNode::step-step-requires-in-Concat-2 g t c κs within =
    let ops = concat_ops c.args.self.now c.deref_mut-in-Concat.result.now c.deref_mut-in-Concat-2.result.now c.in-Concat.op c.in-Concat.left c.in-Concat.right c.in-Concat.is c.deref_mut-in-Concat.ensures.value c.deref_mut-in-Concat-2.ensures.value in
    (search (rules, ListNode.the_lemmas, c.decreases, c.in-Concat.is, c.deref_mut-in-Concat-2.ensures.value), (within.0, (within.1, right_may_go (rw ops at c.requires.may_go) c.in_ok-lefts-in-Concat.ensures.taken)))

pub ListNode::step-returns-in_err-rights-in-Concat-clause-gone : goal.ListNode::step-returns-in_err-rights-in-Concat-clause-gone
ListNode::step-returns-in_err-rights-in-Concat-clause-gone g t c =
    gone_twice c.step-in-Concat.ensures.gone c.step-in-Concat-2.ensures.gone

pub ListNode::step-joined-requires : goal.ListNode::step-joined-requires
ListNode::step-joined-requires g t c =
    let ops = concat_ops c.args.self.now c.deref_mut-in-Concat.result.now c.deref_mut-in-Concat-2.result.now c.in-Concat.op c.in-Concat.left c.in-Concat.right c.in-Concat.is c.deref_mut-in-Concat.ensures.value c.deref_mut-in-Concat-2.ensures.value in
    halves_may_join (rw ops at c.requires.may_go) c.in_ok-lefts-in-Concat.ensures.taken c.in_ok-rights-in-Concat.ensures.taken

pub ListNode::step-returns-in_ok-rights-in-Concat-clause-gone : goal.ListNode::step-returns-in_ok-rights-in-Concat-clause-gone
ListNode::step-returns-in_ok-rights-in-Concat-clause-gone g t c =
    gone_twice c.step-in-Concat.ensures.gone c.step-in-Concat-2.ensures.gone

pub ListNode::step-returns-in_ok-rights-in-Concat-clause-taken : goal.ListNode::step-returns-in_ok-rights-in-Concat-clause-taken
ListNode::step-returns-in_ok-rights-in-Concat-clause-taken g t c =
    let ops = concat_ops c.args.self.now c.deref_mut-in-Concat.result.now c.deref_mut-in-Concat-2.result.now c.in-Concat.op c.in-Concat.left c.in-Concat.right c.in-Concat.is c.deref_mut-in-Concat.ensures.value c.deref_mut-in-Concat-2.ensures.value in
    if_ok_also c.joined.result _ _ _ (λ given is same. rw (ops, ops_of_concat) (halves_gone (rw ops at c.requires.may_go) c.in_ok-lefts-in-Concat.ensures.taken c.in_ok-rights-in-Concat.ensures.taken c.joined.new.op given same is)) c.joined.ensures.given c.joined.ensures.state

pub ListNode::step-step-requires-in-Flatten : goal.ListNode::step-step-requires-in-Flatten
ListNode::step-step-requires-in-Flatten g t c κs within =
    let ops = flatten_ops c.args.self.now c.deref_mut-in-Flatten.result.now c.in-Flatten.bank.value c.in-Flatten.op c.in-Flatten.of c.in-Flatten.bank c.in-Flatten.is c.deref_mut-in-Flatten.ensures.value refl in
    (search (rules, ListNode.the_lemmas, c.decreases, c.in-Flatten.is, c.deref_mut-in-Flatten.ensures.value), (within.0, (within.1, outer_may_go (rw ops at c.requires.may_go))))

pub ListNode::step-step-requires-in-Flatten-2 : goal.ListNode::step-step-requires-in-Flatten-2
ListNode::step-step-requires-in-Flatten-2 g t c κs within =
    let ops = flatten_ops c.args.self.now c.deref_mut-in-Flatten.result.now c.deref_mut-in-Flatten-2.result.now c.in-Flatten.op c.in-Flatten.of c.in-Flatten.bank c.in-Flatten.is c.deref_mut-in-Flatten.ensures.value c.deref_mut-in-Flatten-2.ensures.value in
    (search (rules, ListNode.the_lemmas, ListBank.the_lemmas, c.decreases, c.in-Flatten.is, c.deref_mut-in-Flatten-2.ensures.value), (within.0, (within.1, (blocks_bank (rw ops at c.requires.may_go) c.in_ok-diffs-in-Flatten.ensures.taken, blocks_count (rw ops at c.requires.may_go) c.in_ok-diffs-in-Flatten.ensures.taken c.part_count.result c.part_count.ensures))))

pub ListNode::step-returns-in_err-step-in-Flatten-clause-gone : goal.ListNode::step-returns-in_err-step-in-Flatten-clause-gone
ListNode::step-returns-in_err-step-in-Flatten-clause-gone g t c =
    gone_twice c.step-in-Flatten.ensures.gone c.step-in-Flatten-2.ensures.gone

pub ListNode::step-flattened-requires : goal.ListNode::step-flattened-requires
ListNode::step-flattened-requires g t c =
    let ops = flatten_ops c.args.self.now c.deref_mut-in-Flatten.result.now c.deref_mut-in-Flatten-2.result.now c.in-Flatten.op c.in-Flatten.of c.in-Flatten.bank c.in-Flatten.is c.deref_mut-in-Flatten.ensures.value c.deref_mut-in-Flatten-2.ensures.value in
    rw c.as_slice-in-Flatten.ensures.value (blocks_may_flatten (rw ops at c.requires.may_go) c.in_ok-diffs-in-Flatten.ensures.taken (rw c.new-lists.ensures.items at c.in_ok-step-in-Flatten.ensures.taken))

pub ListNode::step-returns-in_ok-step-in-Flatten-clause-gone : goal.ListNode::step-returns-in_ok-step-in-Flatten-clause-gone
ListNode::step-returns-in_ok-step-in-Flatten-clause-gone g t c =
    gone_twice c.step-in-Flatten.ensures.gone c.step-in-Flatten-2.ensures.gone

pub ListNode::step-returns-in_ok-step-in-Flatten-clause-taken : goal.ListNode::step-returns-in_ok-step-in-Flatten-clause-taken
ListNode::step-returns-in_ok-step-in-Flatten-clause-taken g t c =
    let ops = flatten_ops c.args.self.now c.deref_mut-in-Flatten.result.now c.deref_mut-in-Flatten-2.result.now c.in-Flatten.op c.in-Flatten.of c.in-Flatten.bank c.in-Flatten.is c.deref_mut-in-Flatten.ensures.value c.deref_mut-in-Flatten-2.ensures.value in
    if_ok_also c.flattened.result _ _ _ (λ given is same. rw (ops, ops_of_flatten) (blocks_gone (rw ops at c.requires.may_go) c.in_ok-diffs-in-Flatten.ensures.taken (rw c.new-lists.ensures.items at c.in_ok-step-in-Flatten.ensures.taken) c.flattened.new.op given same is)) (rw c.as_slice-in-Flatten.ensures.value at c.flattened.ensures.given) (rw c.as_slice-in-Flatten.ensures.value at c.flattened.ensures.state)

pub ListNode::step-step-requires-in-Pick : goal.ListNode::step-step-requires-in-Pick
ListNode::step-step-requires-in-Pick g t c κs within =
    let ops = pick_ops c.args.self.now c.deref_mut-in-Pick.result.now c.in-Pick.bank.value c.in-Pick.op c.in-Pick.of c.in-Pick.bank c.in-Pick.is c.deref_mut-in-Pick.ensures.value refl in
    (search (rules, ListNode.the_lemmas, SignalNode.the_lemmas, c.decreases, c.in-Pick.is, c.deref_mut-in-Pick.ensures.value), (within.0, (within.1, pick_may_go (rw ops at c.requires.may_go))))

pub ListNode::step-returns-then-is_empty-clause-taken : goal.ListNode::step-returns-then-is_empty-clause-taken
ListNode::step-returns-then-is_empty-clause-taken g t c =
    let ops = pick_ops c.args.self.now c.deref_mut-in-Pick.result.now c.in-Pick.bank.value c.in-Pick.op c.in-Pick.of c.in-Pick.bank c.in-Pick.is c.deref_mut-in-Pick.ensures.value refl in
    rw (ops, ops_of_pick) (pick_gone_empty (lists_ops c.in-Pick.bank.value) (sym (rw c.deref.ensures at c.if-is_empty.ensures)) (rw ops at c.requires.may_go) c.in_ok-chooser-in-Pick.ensures.taken c.chosen_anew.new.op c.in_ok-given-in-Pick.ensures.chooser c.in_ok-given-in-Pick.ensures.parts c.in_ok-given-in-Pick.given c.in_ok-given-in-Pick.ensures.given)

pub ListNode::step-step_at-requires : goal.ListNode::step-step_at-requires
ListNode::step-step_at-requires g t c κs within =
    let ops = pick_ops c.args.self.now c.deref_mut-in-Pick.result.now c.deref_mut-in-Pick-2.result.now c.in-Pick.op c.in-Pick.of c.in-Pick.bank c.in-Pick.is c.deref_mut-in-Pick.ensures.value c.deref_mut-in-Pick-2.ensures.value in
    (search (rules, ListNode.the_lemmas, ListBank.the_lemmas, c.decreases, c.in-Pick.is, c.deref_mut-in-Pick-2.ensures.value), (within.0, (within.1, pick_bank (rw ops at c.requires.may_go) c.in_ok-chooser-in-Pick.ensures.taken)))

pub ListNode::step-returns-in_err-diffs-in-Pick-clause-gone : goal.ListNode::step-returns-in_err-diffs-in-Pick-clause-gone
ListNode::step-returns-in_err-diffs-in-Pick-clause-gone g t c =
    gone_twice c.step-in-Pick.ensures.gone c.step_at.ensures.gone

pub ListNode::step-picked-requires-clause-lawful : goal.ListNode::step-picked-requires-clause-lawful
ListNode::step-picked-requires-clause-lawful g t c =
    let ops = pick_ops c.args.self.now c.deref_mut-in-Pick.result.now c.deref_mut-in-Pick-2.result.now c.in-Pick.op c.in-Pick.of c.in-Pick.bank c.in-Pick.is c.deref_mut-in-Pick.ensures.value c.deref_mut-in-Pick-2.ensures.value in
    pick_lawful (rw ops at c.requires.may_go) c.in_ok-chooser-in-Pick.ensures.taken c.chosen_anew.new.op c.in_ok-given-in-Pick.ensures.chooser c.in_ok-given-in-Pick.ensures.parts c.in_ok-diffs-in-Pick.ensures.taken c.chosen-place.ensures.place

pub ListNode::step-returns-in_ok-diffs-in-Pick-clause-gone : goal.ListNode::step-returns-in_ok-diffs-in-Pick-clause-gone
ListNode::step-returns-in_ok-diffs-in-Pick-clause-gone g t c =
    gone_twice c.step-in-Pick.ensures.gone c.step_at.ensures.gone

pub ListNode::step-returns-in_ok-diffs-in-Pick-clause-taken : goal.ListNode::step-returns-in_ok-diffs-in-Pick-clause-taken
ListNode::step-returns-in_ok-diffs-in-Pick-clause-taken g t c =
    let ops = pick_ops c.args.self.now c.deref_mut-in-Pick.result.now c.deref_mut-in-Pick-2.result.now c.in-Pick.op c.in-Pick.of c.in-Pick.bank c.in-Pick.is c.deref_mut-in-Pick.ensures.value c.deref_mut-in-Pick-2.ensures.value in
    if_ok_also c.picked.result _ _ _ (λ all is same. rw (ops, ops_of_pick) (pick_gone (rw ops at c.requires.may_go) c.in_ok-chooser-in-Pick.ensures.taken c.chosen_anew.new.op c.in_ok-given-in-Pick.ensures.chooser c.in_ok-given-in-Pick.ensures.parts c.in_ok-diffs-in-Pick.ensures.taken c.chosen-place.ensures.place c.in_ok-given-in-Pick.given c.in_ok-given-in-Pick.ensures.given c.picked.new.op all same is)) c.picked.ensures.given c.picked.ensures.state

pub ListNode::step-keys-requires-clause-lawful : goal.ListNode::step-keys-requires-clause-lawful
ListNode::step-keys-requires-clause-lawful g t c =
    let ops = keys_ops c.args.self.now c.in-Keys.op c.in-Keys.of c.in-Keys.is in
    (keys_go c.in_ok-diffs-in-Keys.ensures.taken (rw ops at c.requires.may_go)).lawful

pub ListNode::step-keys-requires-clause-short_map : goal.ListNode::step-keys-requires-clause-short_map
ListNode::step-keys-requires-clause-short_map g t c =
    let ops = keys_ops c.args.self.now c.in-Keys.op c.in-Keys.of c.in-Keys.is in
    (keys_go c.in_ok-diffs-in-Keys.ensures.taken (rw ops at c.requires.may_go)).few

pub ListNode::step-keys-requires-clause-short : goal.ListNode::step-keys-requires-clause-short
ListNode::step-keys-requires-clause-short g t c =
    let ops = keys_ops c.args.self.now c.in-Keys.op c.in-Keys.of c.in-Keys.is in
    (keys_go c.in_ok-diffs-in-Keys.ensures.taken (rw ops at c.requires.may_go)).short

pub ListNode::step-returns-in_ok-diffs-in-Keys-clause-taken : goal.ListNode::step-returns-in_ok-diffs-in-Keys-clause-taken
ListNode::step-returns-in_ok-diffs-in-Keys-clause-taken g t c =
    let ops = keys_ops c.args.self.now c.in-Keys.op c.in-Keys.of c.in-Keys.is in
    if_ok_also c.keys.result _ _ _ (λ given is same. rw (ops, ops_of_keys) (keys_gone c.in_ok-diffs-in-Keys.ensures.taken (operators c.step-in-Keys.new.self) c.step-in-Keys.ensures.tree c.keys.new.op same given (rw ops at c.requires.may_go) is)) c.keys.ensures.given c.keys.ensures.state

pub ListNode::step-values-requires-clause-lawful : goal.ListNode::step-values-requires-clause-lawful
ListNode::step-values-requires-clause-lawful g t c =
    let ops = values_ops c.args.self.now c.in-Values.op c.in-Values.of c.in-Values.is in
    (values_go c.in_ok-diffs-in-Values.ensures.taken (rw ops at c.requires.may_go)).lawful

pub ListNode::step-values-requires-clause-short_map : goal.ListNode::step-values-requires-clause-short_map
ListNode::step-values-requires-clause-short_map g t c =
    let ops = values_ops c.args.self.now c.in-Values.op c.in-Values.of c.in-Values.is in
    (values_go c.in_ok-diffs-in-Values.ensures.taken (rw ops at c.requires.may_go)).few

pub ListNode::step-values-requires-clause-short : goal.ListNode::step-values-requires-clause-short
ListNode::step-values-requires-clause-short g t c =
    let ops = values_ops c.args.self.now c.in-Values.op c.in-Values.of c.in-Values.is in
    (values_go c.in_ok-diffs-in-Values.ensures.taken (rw ops at c.requires.may_go)).short

pub ListNode::step-returns-in_ok-diffs-in-Values-clause-taken : goal.ListNode::step-returns-in_ok-diffs-in-Values-clause-taken
ListNode::step-returns-in_ok-diffs-in-Values-clause-taken g t c =
    let ops = values_ops c.args.self.now c.in-Values.op c.in-Values.of c.in-Values.is in
    if_ok_also c.values.result _ _ _ (λ given is same. rw (ops, ops_of_values) (values_gone c.in_ok-diffs-in-Values.ensures.taken (operators c.step-in-Values.new.self) c.step-in-Values.ensures.tree c.values.new.op same given (rw ops at c.requires.may_go) is)) c.values.ensures.given c.values.ensures.state

pub SignalNode::step-step-requires-in-Switch : goal.SignalNode::step-step-requires-in-Switch
SignalNode::step-step-requires-in-Switch g t c κs within =
    let ops = switch_ops c.args.self.now c.deref_mut-in-Switch.result.now c.in-Switch.bank.value c.in-Switch.op c.in-Switch.of c.in-Switch.bank c.in-Switch.is c.deref_mut-in-Switch.ensures.value refl in
    (search (rules, SignalNode.the_lemmas, c.decreases, c.in-Switch.is, c.deref_mut-in-Switch.ensures.value), (within.0, (within.1, switch_may_go (rw ops at c.requires.may_go))))

pub SignalNode::step-returns-then-is_empty-clause-taken : goal.SignalNode::step-returns-then-is_empty-clause-taken
SignalNode::step-returns-then-is_empty-clause-taken g t c =
    let ops = switch_ops c.args.self.now c.deref_mut-in-Switch.result.now c.in-Switch.bank.value c.in-Switch.op c.in-Switch.of c.in-Switch.bank c.in-Switch.is c.deref_mut-in-Switch.ensures.value refl in
    rw (ops, ops_of_switch) (switch_gone_empty (signals_ops c.in-Switch.bank.value) (sym (rw c.deref.ensures at c.if-is_empty.ensures)) (rw ops at c.requires.may_go) c.in_ok-chooser-in-Switch.ensures.taken c.switched-anew.new.op c.switched-anew.ensures.state c.switched-anew.result c.switched-anew.ensures.value)

pub SignalNode::step-step_at-requires : goal.SignalNode::step-step_at-requires
SignalNode::step-step_at-requires g t c κs within =
    let ops = switch_ops c.args.self.now c.deref_mut-in-Switch.result.now c.deref_mut-in-Switch-2.result.now c.in-Switch.op c.in-Switch.of c.in-Switch.bank c.in-Switch.is c.deref_mut-in-Switch.ensures.value c.deref_mut-in-Switch-2.ensures.value in
    (search (rules, SignalNode.the_lemmas, SignalBank.the_lemmas, c.decreases, c.in-Switch.is, c.deref_mut-in-Switch-2.ensures.value), (within.0, (within.1, switch_bank (rw ops at c.requires.may_go) c.in_ok-chooser-in-Switch.ensures.taken)))

pub SignalNode::step-returns-in_err-value-in-Switch-clause-gone : goal.SignalNode::step-returns-in_err-value-in-Switch-clause-gone
SignalNode::step-returns-in_err-value-in-Switch-clause-gone g t c =
    gone_twice c.step-in-Switch.ensures.gone c.step_at.ensures.gone

pub SignalNode::step-overflow_add-place : goal.SignalNode::step-overflow_add-place
SignalNode::step-overflow_add-place g t c =
    omega (arith, c.chosen-place.ensures.within, c.chosen-place.ensures.few)

pub SignalNode::step-returns-in_ok-value-in-Switch-clause-gone : goal.SignalNode::step-returns-in_ok-value-in-Switch-clause-gone
SignalNode::step-returns-in_ok-value-in-Switch-clause-gone g t c =
    gone_twice c.step-in-Switch.ensures.gone c.step_at.ensures.gone

pub SignalNode::step-returns-in_ok-value-in-Switch-clause-taken : goal.SignalNode::step-returns-in_ok-value-in-Switch-clause-taken
SignalNode::step-returns-in_ok-value-in-Switch-clause-taken g t c =
    let ops = switch_ops c.args.self.now c.deref_mut-in-Switch.result.now c.deref_mut-in-Switch-2.result.now c.in-Switch.op c.in-Switch.of c.in-Switch.bank c.in-Switch.is c.deref_mut-in-Switch.ensures.value c.deref_mut-in-Switch-2.ensures.value in
    let behind : c.chosen-place.result + 1 ≡ suc c.chosen-place.result = omega arith in
    rw (ops, ops_of_switch) (switch_gone (rw ops at c.requires.may_go) c.in_ok-chooser-in-Switch.ensures.taken c.switched-anew.new.op c.switched-anew.ensures.state c.in_ok-value-in-Switch.ensures.taken c.chosen-place.ensures.place c.switched.new.op (c.chosen-place.result + 1) c.or.result behind c.switched.ensures.state (c.or.ensures ∙ rw (c.switched.ensures.value, c.switched-anew.ensures.value) refl))

pub SignalNode::step-step-requires-in-Len-2-clause-lawful : goal.SignalNode::step-step-requires-in-Len-2-clause-lawful
SignalNode::step-step-requires-in-Len-2-clause-lawful g t c =
    let ops = length_ops c.args.self.now c.deref_mut-in-Len.result.now c.in-Len.op c.in-Len.of c.in-Len.is c.deref_mut-in-Len.ensures.value in
    length_lawful c.in_ok-diffs-in-Len.ensures.taken (rw ops at c.requires.may_go)

pub SignalNode::step-step-requires-in-Len-2-clause-short : goal.SignalNode::step-step-requires-in-Len-2-clause-short
SignalNode::step-step-requires-in-Len-2-clause-short g t c =
    let ops = length_ops c.args.self.now c.deref_mut-in-Len.result.now c.in-Len.op c.in-Len.of c.in-Len.is c.deref_mut-in-Len.ensures.value in
    length_short c.in_ok-diffs-in-Len.ensures.taken (rw ops at c.requires.may_go)

pub SignalNode::step-step-requires-in-Sum-2-clause-lawful : goal.SignalNode::step-step-requires-in-Sum-2-clause-lawful
SignalNode::step-step-requires-in-Sum-2-clause-lawful g t c =
    let ops = total_ops c.args.self.now c.deref_mut-in-Sum.result.now c.in-Sum.op c.in-Sum.of c.in-Sum.is c.deref_mut-in-Sum.ensures.value in
    total_lawful c.in_ok-diffs-in-Sum.ensures.taken (rw ops at c.requires.may_go)

pub SignalNode::step-step-requires-in-Sum-2-clause-short : goal.SignalNode::step-step-requires-in-Sum-2-clause-short
SignalNode::step-step-requires-in-Sum-2-clause-short g t c =
    let ops = total_ops c.args.self.now c.deref_mut-in-Sum.result.now c.in-Sum.op c.in-Sum.of c.in-Sum.is c.deref_mut-in-Sum.ensures.value in
    total_short c.in_ok-diffs-in-Sum.ensures.taken (rw ops at c.requires.may_go)

pub SignalNode::step-returns-in_ok-value-in-Map-clause-taken : goal.SignalNode::step-returns-in_ok-value-in-Map-clause-taken
SignalNode::step-returns-in_ok-value-in-Map-clause-taken g t c =
    let ops = image_ops c.args.self.now c.deref_mut.result.now c.in-Map.fun c.in-Map.of c.in-Map.is c.deref_mut.ensures.value in
    rw (ops, ops_of_image) (image_gone c.in_ok-value-in-Map.ensures.taken c.in-Map.fun c.mapped.result c.mapped.ensures)

pub SignalNode::step-returns-in_ok-value-in-Dedupe-clause-taken : goal.SignalNode::step-returns-in_ok-value-in-Dedupe-clause-taken
SignalNode::step-returns-in_ok-value-in-Dedupe-clause-taken g t c =
    let ops = dedupe_ops c.args.self.now c.deref_mut-in-Dedupe.result.now c.in-Dedupe.signal c.in-Dedupe.of c.in-Dedupe.is c.deref_mut-in-Dedupe.ensures.value in
    rw (ops, ops_of_dedupe) (dedupe_gone c.in_ok-value-in-Dedupe.ensures.taken (rw ops at c.requires.may_go) c.deduped.new.signal c.deduped.result c.deduped.ensures.value c.deduped.ensures.state)

pub SignalNode::step-returns-in_ok-diffs-in-Len-clause-taken : goal.SignalNode::step-returns-in_ok-diffs-in-Len-clause-taken
SignalNode::step-returns-in_ok-diffs-in-Len-clause-taken g t c =
    let ops = length_ops c.args.self.now c.deref_mut-in-Len.result.now c.in-Len.op c.in-Len.of c.in-Len.is c.deref_mut-in-Len.ensures.value in
    rw (ops, ops_of_length) (length_gone c.in_ok-diffs-in-Len.ensures.taken (rw ops at c.requires.may_go) c.step-in-Len-2.new.self c.step-in-Len-2.result c.step-in-Len-2.ensures.state c.step-in-Len-2.ensures.value)

pub SignalNode::step-returns-in_ok-diffs-in-Sum-clause-taken : goal.SignalNode::step-returns-in_ok-diffs-in-Sum-clause-taken
SignalNode::step-returns-in_ok-diffs-in-Sum-clause-taken g t c =
    let ops = total_ops c.args.self.now c.deref_mut-in-Sum.result.now c.in-Sum.op c.in-Sum.of c.in-Sum.is c.deref_mut-in-Sum.ensures.value in
    if_ok_also c.step-in-Sum-2.result _ _ _ (λ given is same. rw (ops, ops_of_total) (total_gone c.in_ok-diffs-in-Sum.ensures.taken (rw ops at c.requires.may_go) c.step-in-Sum-2.new.self given same is)) c.step-in-Sum-2.ensures.value c.step-in-Sum-2.ensures.state

pub SignalNode::step-returns-in_ok-diffs-in-Key-clause-taken : goal.SignalNode::step-returns-in_ok-diffs-in-Key-clause-taken
SignalNode::step-returns-in_ok-diffs-in-Key-clause-taken g t c =
    let ops = key_ops c.args.self.now c.in-Key.op c.in-Key.of c.in-Key.is in
    rw (ops, ops_of_key) (key_gone c.in_ok-diffs-in-Key.ensures.taken (rw ops at c.requires.may_go) (operators c.step-in-Key.new.self) c.step-in-Key.ensures.tree c.step-in-Key-2.new.self c.step-in-Key-2.result (rw c.step-in-Key-2.ensures.state refl) (rw c.step-in-Key-2.ensures.state refl) c.step-in-Key-2.ensures.law c.step-in-Key-2.ensures.value)

pub SignalBank::step-step-requires : goal.SignalBank::step-step-requires
SignalBank::step-step-requires g t c κs within =
    let ops = bank_ops c.args.self.now c.deref_mut.result.now c.in-Signal.others.value c.in-Signal.signal c.in-Signal.others c.in-Signal.is c.deref_mut.ensures.value refl in
    (search (rules, SignalNode.the_lemmas, SignalBank.the_lemmas, c.decreases, c.in-Signal.is, c.deref_mut.ensures.value), (within.0, (within.1, first_may_go (rw ops at c.requires.may_go))))

pub SignalBank::step-step-requires-in-Signal : goal.SignalBank::step-step-requires-in-Signal
SignalBank::step-step-requires-in-Signal g t c κs within =
    let ops = bank_ops c.args.self.now c.deref_mut.result.now c.deref_mut-in-Signal.result.now c.in-Signal.signal c.in-Signal.others c.in-Signal.is c.deref_mut.ensures.value c.deref_mut-in-Signal.ensures.value in
    (search (rules, SignalNode.the_lemmas, SignalBank.the_lemmas, c.decreases, c.in-Signal.is, c.deref_mut-in-Signal.ensures.value), (within.0, (within.1, (rest_may_go (rw ops at c.requires.may_go) c.in_ok-value-in-Signal.ensures.taken, one_more_place c.args.places.start _ c.args.places.end (rw ops at c.requires.places)))))

pub SignalBank::step-returns-in-Empty-clause-taken : goal.SignalBank::step-returns-in-Empty-clause-taken
SignalBank::step-returns-in-Empty-clause-taken g t c =
    let empty : signals_ops c.args.self.now ≡ no_signal = rw c.in-Empty.is (search (rules, SignalBank.the_lemmas)) in
    rw empty (none_gone (g.P.Port.state c.args.port.now) c.args.walk.now c.args.places.start c.args.values.now.items (still_gone (g.P.Port.state c.args.port.now) c.args.walk.now c.requires.may_go.can))

pub SignalBank::step-returns-in_ok-add_value-in-Signal-clause-gone : goal.SignalBank::step-returns-in_ok-add_value-in-Signal-clause-gone
SignalBank::step-returns-in_ok-add_value-in-Signal-clause-gone g t c =
    gone_twice c.step.ensures.gone c.step-in-Signal.ensures.gone

pub SignalBank::step-returns-in_ok-add_value-in-Signal-clause-taken : goal.SignalBank::step-returns-in_ok-add_value-in-Signal-clause-taken
SignalBank::step-returns-in_ok-add_value-in-Signal-clause-taken g t c =
    let ops = bank_ops c.args.self.now c.deref_mut.result.now c.deref_mut-in-Signal.result.now c.in-Signal.signal c.in-Signal.others c.in-Signal.is c.deref_mut.ensures.value c.deref_mut-in-Signal.ensures.value in
    on_ok_weaker c.step-in-Signal.result (λ taken. rw (ops, ops_of_signals) (all_gone (rw ops at c.requires.may_go) c.in_ok-value-in-Signal.ensures.taken c.in_ok-add_value-in-Signal.ensures.given taken)) c.step-in-Signal.ensures.taken

pub SignalBank::step_at-step-requires : goal.SignalBank::step_at-step-requires
SignalBank::step_at-step-requires g t c κs within =
    let ops = bank_ops c.args.self.now c.deref_mut.result.now c.in-Signal.others.value c.in-Signal.signal c.in-Signal.others c.in-Signal.is c.deref_mut.ensures.value refl in
    (search (rules, SignalNode.the_lemmas, SignalBank.the_lemmas, c.decreases, c.in-Signal.is, c.deref_mut.ensures.value), (within.0, (within.1, first_may_go (rw ops at c.requires.may_go))))

pub SignalBank::step_at-step_at-requires : goal.SignalBank::step_at-step_at-requires
SignalBank::step_at-step_at-requires g t c κs within =
    let ops = bank_ops c.args.self.now c.in-Signal.signal.value c.deref_mut-else-place-eq0.result.now c.in-Signal.signal c.in-Signal.others c.in-Signal.is refl c.deref_mut-else-place-eq0.ensures.value in
    (search (rules, SignalNode.the_lemmas, SignalBank.the_lemmas, c.decreases, c.in-Signal.is, c.deref_mut-else-place-eq0.ensures.value), (within.0, (within.1, others_may_go (rw ops at c.requires.may_go))))

pub SignalBank::step_at-returns-in-Empty-clause-taken : goal.SignalBank::step_at-returns-in-Empty-clause-taken
SignalBank::step_at-returns-in-Empty-clause-taken g t c =
    let empty : signals_ops c.args.self.now ≡ no_signal = rw c.in-Empty.is (search (rules, SignalBank.the_lemmas)) in
    rw empty (none_at_gone (g.P.Port.state c.args.port.now) c.args.walk.now c.args.place (still_gone (g.P.Port.state c.args.port.now) c.args.walk.now c.requires.may_go.can))

pub SignalBank::step_at-returns-then-place-eq0-clause-taken : goal.SignalBank::step_at-returns-then-place-eq0-clause-taken
SignalBank::step_at-returns-then-place-eq0-clause-taken g t c =
    let ops = bank_ops c.args.self.now c.deref_mut.result.now c.in-Signal.others.value c.in-Signal.signal c.in-Signal.others c.in-Signal.is c.deref_mut.ensures.value refl in
    let first : c.args.place ≡ 0 = c.if-place-eq0.true in
    IfOk-weaker c.step.result _ _ (λ value taken. rw (ops, ops_of_signals) (first_gone (rw ops at c.requires.may_go) taken c.args.place first)) c.step.ensures.taken

pub SignalBank::step_at-returns-else-place-eq0-clause-taken : goal.SignalBank::step_at-returns-else-place-eq0-clause-taken
SignalBank::step_at-returns-else-place-eq0-clause-taken g t c =
    let ops = bank_ops c.args.self.now c.in-Signal.signal.value c.deref_mut-else-place-eq0.result.now c.in-Signal.signal c.in-Signal.others c.in-Signal.is refl c.deref_mut-else-place-eq0.ensures.value in
    let later : c.args.place ≡ suc (c.args.place - 1) = omega (arith, c.if-place-eq0.false) in
    IfOk-weaker c.step_at.result _ _ (λ value taken. rw (ops, ops_of_signals) (other_gone (rw ops at c.requires.may_go) taken c.args.place later)) c.step_at.ensures.taken

pub ListBank::step-step-requires : goal.ListBank::step-step-requires
ListBank::step-step-requires g t c κs within =
    let ops = list_bank_ops c.args.self.now c.deref_mut.result.now c.in-List.others.value c.in-List.list c.in-List.others c.in-List.is c.deref_mut.ensures.value refl in
    (search (rules, ListNode.the_lemmas, ListBank.the_lemmas, c.decreases, c.in-List.is, c.deref_mut.ensures.value), (within.0, (within.1, first_list_may_go (rw ops at c.requires.may_go))))

pub ListBank::step-step-requires-in-List : goal.ListBank::step-step-requires-in-List
ListBank::step-step-requires-in-List g t c κs within =
    let ops = list_bank_ops c.args.self.now c.deref_mut.result.now c.deref_mut-in-List.result.now c.in-List.list c.in-List.others c.in-List.is c.deref_mut.ensures.value c.deref_mut-in-List.ensures.value in
    (search (rules, ListNode.the_lemmas, ListBank.the_lemmas, c.decreases, c.in-List.is, c.deref_mut-in-List.ensures.value), (within.0, (within.1, (rest_lists_may_go (rw ops at c.requires.may_go) c.in_ok-diffs-in-List.ensures.taken, one_more_place c.args.places.start _ c.args.places.end (rw ops at c.requires.places)))))

pub ListBank::step-returns-in-Empty-clause-taken : goal.ListBank::step-returns-in-Empty-clause-taken
ListBank::step-returns-in-Empty-clause-taken g t c =
    let empty : lists_ops c.args.self.now ≡ no_list = rw c.in-Empty.is (search (rules, ListBank.the_lemmas)) in
    rw empty (no_lists_gone (g.P.Port.state c.args.port.now) c.args.walk.now c.args.places.start c.args.lists.now.items (still_gone (g.P.Port.state c.args.port.now) c.args.walk.now c.requires.may_go.can))

pub ListBank::step-returns-in_ok-add_list-in-List-clause-gone : goal.ListBank::step-returns-in_ok-add_list-in-List-clause-gone
ListBank::step-returns-in_ok-add_list-in-List-clause-gone g t c =
    gone_twice c.step.ensures.gone c.step-in-List.ensures.gone

pub ListBank::step-returns-in_ok-add_list-in-List-clause-taken : goal.ListBank::step-returns-in_ok-add_list-in-List-clause-taken
ListBank::step-returns-in_ok-add_list-in-List-clause-taken g t c =
    let ops = list_bank_ops c.args.self.now c.deref_mut.result.now c.deref_mut-in-List.result.now c.in-List.list c.in-List.others c.in-List.is c.deref_mut.ensures.value c.deref_mut-in-List.ensures.value in
    on_ok_weaker c.step-in-List.result (λ taken. rw (ops, ops_of_lists) (all_lists_gone (rw ops at c.requires.may_go) c.in_ok-diffs-in-List.ensures.taken c.in_ok-add_list-in-List.ensures.given taken)) c.step-in-List.ensures.taken

pub ListBank::step_at-step-requires : goal.ListBank::step_at-step-requires
ListBank::step_at-step-requires g t c κs within =
    let ops = list_bank_ops c.args.self.now c.deref_mut.result.now c.in-List.others.value c.in-List.list c.in-List.others c.in-List.is c.deref_mut.ensures.value refl in
    (search (rules, ListNode.the_lemmas, ListBank.the_lemmas, c.decreases, c.in-List.is, c.deref_mut.ensures.value), (within.0, (within.1, first_list_may_go (rw ops at c.requires.may_go))))

pub ListBank::step_at-step_at-requires : goal.ListBank::step_at-step_at-requires
ListBank::step_at-step_at-requires g t c κs within =
    let ops = list_bank_ops c.args.self.now c.in-List.list.value c.deref_mut-else-place-eq0.result.now c.in-List.list c.in-List.others c.in-List.is refl c.deref_mut-else-place-eq0.ensures.value in
    (search (rules, ListNode.the_lemmas, ListBank.the_lemmas, c.decreases, c.in-List.is, c.deref_mut-else-place-eq0.ensures.value), (within.0, (within.1, other_lists_may_go (rw ops at c.requires.may_go))))

pub ListBank::step_at-returns-in-Empty-clause-taken : goal.ListBank::step_at-returns-in-Empty-clause-taken
ListBank::step_at-returns-in-Empty-clause-taken g t c =
    let empty : lists_ops c.args.self.now ≡ no_list = rw c.in-Empty.is (search (rules, ListBank.the_lemmas)) in
    rw (empty, c.new.ensures) (no_list_gone (g.P.Port.state c.args.port.now) c.args.walk.now c.args.place (still_gone (g.P.Port.state c.args.port.now) c.args.walk.now c.requires.may_go.can))

pub ListBank::step_at-returns-then-place-eq0-clause-taken : goal.ListBank::step_at-returns-then-place-eq0-clause-taken
ListBank::step_at-returns-then-place-eq0-clause-taken g t c =
    let ops = list_bank_ops c.args.self.now c.deref_mut.result.now c.in-List.others.value c.in-List.list c.in-List.others c.in-List.is c.deref_mut.ensures.value refl in
    let first : c.args.place ≡ 0 = c.if-place-eq0.true in
    IfOk-weaker c.step.result _ _ (λ diffs taken. rw (ops, ops_of_lists) (first_list_gone (rw ops at c.requires.may_go) taken c.args.place first)) c.step.ensures.taken

pub ListBank::step_at-returns-else-place-eq0-clause-taken : goal.ListBank::step_at-returns-else-place-eq0-clause-taken
ListBank::step_at-returns-else-place-eq0-clause-taken g t c =
    let ops = list_bank_ops c.args.self.now c.in-List.list.value c.deref_mut-else-place-eq0.result.now c.in-List.list c.in-List.others c.in-List.is refl c.deref_mut-else-place-eq0.ensures.value in
    let later : c.args.place ≡ suc (c.args.place - 1) = omega (arith, c.if-place-eq0.false) in
    IfOk-weaker c.step_at.result _ _ (λ diffs taken. rw (ops, ops_of_lists) (other_list_gone (rw ops at c.requires.may_go) taken c.args.place later)) c.step_at.ensures.taken

pub ListNode::step-returns-in_ok-diffs-in-Map-clause-news : goal.ListNode::step-returns-in_ok-diffs-in-Map-clause-news
ListNode::step-returns-in_ok-diffs-in-Map-clause-news g t c =
    on_err_weaker c.mapped.result (list_news c.in_ok-diffs-in-Map.ensures.taken) c.mapped.ensures.some

pub ListNode::step-returns-in_ok-diffs-in-Filter-clause-news : goal.ListNode::step-returns-in_ok-diffs-in-Filter-clause-news
ListNode::step-returns-in_ok-diffs-in-Filter-clause-news g t c =
    on_err_weaker c.filtered.result (list_news c.in_ok-diffs-in-Filter.ensures.taken) c.filtered.ensures.some

pub ListNode::step-returns-in_ok-diffs-in-Sorted-clause-news : goal.ListNode::step-returns-in_ok-diffs-in-Sorted-clause-news
ListNode::step-returns-in_ok-diffs-in-Sorted-clause-news g t c =
    on_err_weaker c.sorted.result (list_news c.in_ok-diffs-in-Sorted.ensures.taken) c.sorted.ensures.some

pub ListNode::step-returns-in_err-step-in-FilterBy-clause-news : goal.ListNode::step-returns-in_err-step-in-FilterBy-clause-news
ListNode::step-returns-in_err-step-in-FilterBy-clause-news g t c =
    on_err_known _ (rest_news (list_gone c.in_ok-diffs-in-FilterBy.ensures.taken) c.in_err-step-in-FilterBy.ensures.news)

pub ListNode::step-returns-in_ok-step-in-FilterBy-clause-news : goal.ListNode::step-returns-in_ok-step-in-FilterBy-clause-news
ListNode::step-returns-in_ok-step-in-FilterBy-clause-news g t c =
    let ops = filter_by_ops c.args.self.now c.deref_mut-in-FilterBy.result.now c.deref_mut-in-FilterBy-2.result.now c.in-FilterBy.op c.in-FilterBy.of c.in-FilterBy.bank c.in-FilterBy.is c.deref_mut-in-FilterBy.ensures.value c.deref_mut-in-FilterBy-2.ensures.value in
    on_err_weaker c.filtered_by.result (by_news (as_let_in (rw ops at c.requires.may_go)) c.in_ok-diffs-in-FilterBy.ensures.taken (rw c.new-values.ensures.items at c.in_ok-step-in-FilterBy.ensures.taken)) (rw c.as_slice.ensures.value at c.filtered_by.ensures.some)

pub ListNode::step-returns-in_err-step-in-MapBy-clause-news : goal.ListNode::step-returns-in_err-step-in-MapBy-clause-news
ListNode::step-returns-in_err-step-in-MapBy-clause-news g t c =
    on_err_known _ (rest_news (list_gone c.in_ok-diffs-in-MapBy.ensures.taken) c.in_err-step-in-MapBy.ensures.news)

pub ListNode::step-returns-in_ok-step-in-MapBy-clause-news : goal.ListNode::step-returns-in_ok-step-in-MapBy-clause-news
ListNode::step-returns-in_ok-step-in-MapBy-clause-news g t c =
    let ops = map_by_ops c.args.self.now c.deref_mut-in-MapBy.result.now c.deref_mut-in-MapBy-2.result.now c.in-MapBy.op c.in-MapBy.of c.in-MapBy.bank c.in-MapBy.is c.deref_mut-in-MapBy.ensures.value c.deref_mut-in-MapBy-2.ensures.value in
    on_err_weaker c.mapped_by.result (by_news (as_raised (rw ops at c.requires.may_go)) c.in_ok-diffs-in-MapBy.ensures.taken (rw c.new-values-in-MapBy.ensures.items at c.in_ok-step-in-MapBy.ensures.taken)) (rw c.as_slice-in-MapBy.ensures.value at c.mapped_by.ensures.some)

pub ListNode::step-returns-in_err-rights-in-Concat-clause-news : goal.ListNode::step-returns-in_err-rights-in-Concat-clause-news
ListNode::step-returns-in_err-rights-in-Concat-clause-news g t c =
    on_err_known _ (rest_news (list_gone c.in_ok-lefts-in-Concat.ensures.taken) c.in_err-rights-in-Concat.ensures.news)

pub ListNode::step-returns-in_ok-rights-in-Concat-clause-news : goal.ListNode::step-returns-in_ok-rights-in-Concat-clause-news
ListNode::step-returns-in_ok-rights-in-Concat-clause-news g t c =
    let ops = concat_ops c.args.self.now c.deref_mut-in-Concat.result.now c.deref_mut-in-Concat-2.result.now c.in-Concat.op c.in-Concat.left c.in-Concat.right c.in-Concat.is c.deref_mut-in-Concat.ensures.value c.deref_mut-in-Concat-2.ensures.value in
    on_err_weaker c.joined.result (halves_news (rw ops at c.requires.may_go) c.in_ok-lefts-in-Concat.ensures.taken c.in_ok-rights-in-Concat.ensures.taken) c.joined.ensures.some

pub ListNode::step-returns-in_err-step-in-Flatten-clause-news : goal.ListNode::step-returns-in_err-step-in-Flatten-clause-news
ListNode::step-returns-in_err-step-in-Flatten-clause-news g t c =
    on_err_known _ (rest_news (list_gone c.in_ok-diffs-in-Flatten.ensures.taken) c.in_err-step-in-Flatten.ensures.news)

pub ListNode::step-returns-in_ok-step-in-Flatten-clause-news : goal.ListNode::step-returns-in_ok-step-in-Flatten-clause-news
ListNode::step-returns-in_ok-step-in-Flatten-clause-news g t c =
    let ops = flatten_ops c.args.self.now c.deref_mut-in-Flatten.result.now c.deref_mut-in-Flatten-2.result.now c.in-Flatten.op c.in-Flatten.of c.in-Flatten.bank c.in-Flatten.is c.deref_mut-in-Flatten.ensures.value c.deref_mut-in-Flatten-2.ensures.value in
    on_err_weaker c.flattened.result (blocks_news (rw ops at c.requires.may_go) c.in_ok-diffs-in-Flatten.ensures.taken (rw c.new-lists.ensures.items at c.in_ok-step-in-Flatten.ensures.taken)) (rw c.as_slice-in-Flatten.ensures.value at c.flattened.ensures.some)

pub ListNode::step-returns-in_err-given-in-Pick-clause-news : goal.ListNode::step-returns-in_err-given-in-Pick-clause-news
ListNode::step-returns-in_err-given-in-Pick-clause-news g t c =
    on_err_known _ (signal_news c.in_ok-chooser-in-Pick.ensures.taken c.in_err-given-in-Pick.ensures.some)

pub ListNode::step-returns-in_err-diffs-in-Pick-clause-news : goal.ListNode::step-returns-in_err-diffs-in-Pick-clause-news
ListNode::step-returns-in_err-diffs-in-Pick-clause-news g t c =
    on_err_known _ (rest_news (signal_gone c.in_ok-chooser-in-Pick.ensures.taken) c.in_err-diffs-in-Pick.ensures.news)

pub ListNode::step-returns-in_ok-diffs-in-Pick-clause-news : goal.ListNode::step-returns-in_ok-diffs-in-Pick-clause-news
ListNode::step-returns-in_ok-diffs-in-Pick-clause-news g t c =
    on_err_weaker c.picked.result (λ some. rest_news (signal_gone c.in_ok-chooser-in-Pick.ensures.taken) (list_at_news c.in_ok-diffs-in-Pick.ensures.taken some)) c.picked.ensures.some

pub ListNode::step-returns-in_ok-diffs-in-Keys-clause-news : goal.ListNode::step-returns-in_ok-diffs-in-Keys-clause-news
ListNode::step-returns-in_ok-diffs-in-Keys-clause-news g t c =
    on_err_weaker c.keys.result (map_news c.in_ok-diffs-in-Keys.ensures.taken) c.keys.ensures.some

pub ListNode::step-returns-in_ok-diffs-in-Values-clause-news : goal.ListNode::step-returns-in_ok-diffs-in-Values-clause-news
ListNode::step-returns-in_ok-diffs-in-Values-clause-news g t c =
    on_err_weaker c.values.result (map_news c.in_ok-diffs-in-Values.ensures.taken) c.values.ensures.some

pub SignalNode::step-returns-in_err-value-in-Switch-clause-news : goal.SignalNode::step-returns-in_err-value-in-Switch-clause-news
SignalNode::step-returns-in_err-value-in-Switch-clause-news g t c =
    on_err_known _ (rest_news (signal_gone c.in_ok-chooser-in-Switch.ensures.taken) c.in_err-value-in-Switch.ensures.news)

pub SignalNode::step-returns-in_ok-diffs-in-Sum-clause-news : goal.SignalNode::step-returns-in_ok-diffs-in-Sum-clause-news
SignalNode::step-returns-in_ok-diffs-in-Sum-clause-news g t c =
    on_err_weaker c.step-in-Sum-2.result (list_news c.in_ok-diffs-in-Sum.ensures.taken) c.step-in-Sum-2.ensures.some

pub SignalBank::step-returns-in_err-add_value-in-Signal-clause-news : goal.SignalBank::step-returns-in_err-add_value-in-Signal-clause-news
SignalBank::step-returns-in_err-add_value-in-Signal-clause-news g t c =
    on_err_known _ (signal_news c.in_ok-value-in-Signal.ensures.taken c.in_err-add_value-in-Signal.ensures.some)

pub SignalBank::step-returns-in_ok-add_value-in-Signal-clause-news : goal.SignalBank::step-returns-in_ok-add_value-in-Signal-clause-news
SignalBank::step-returns-in_ok-add_value-in-Signal-clause-news g t c =
    on_err_weaker c.step-in-Signal.result (rest_news (signal_gone c.in_ok-value-in-Signal.ensures.taken)) c.step-in-Signal.ensures.news

pub ListBank::step-returns-in_err-add_list-in-List-clause-news : goal.ListBank::step-returns-in_err-add_list-in-List-clause-news
ListBank::step-returns-in_err-add_list-in-List-clause-news g t c =
    on_err_known _ (list_news c.in_ok-diffs-in-List.ensures.taken c.in_err-add_list-in-List.ensures.some)

pub ListBank::step-returns-in_ok-add_list-in-List-clause-news : goal.ListBank::step-returns-in_ok-add_list-in-List-clause-news
ListBank::step-returns-in_ok-add_list-in-List-clause-news g t c =
    on_err_weaker c.step-in-List.result (rest_news (list_gone c.in_ok-diffs-in-List.ensures.taken)) c.step-in-List.ensures.news
