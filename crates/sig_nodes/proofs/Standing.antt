-- Operators stand for contents that agree with those that they stand for on the leaves.
use Rattle.std.proofs.Common.{◌∙◌, ℕ, length, ap}
use Rattle.sig_diff.specs.Entries.{value_at}
use Rattle.sig_diff.specs.declared.contents.Content.{Content}
use Rattle.sig_expr.proofs.Awaiting.{agree_back, agree_front, map_same}
use Rattle.sig_expr.specs.Awaited.{Agree}
use Rattle.sig_expr.specs.Leaves.{sig_leaves, sigs_leaves, vec_leaves, vecs_leaves}
use Rattle.sig_rows.proofs.Along.{same_list, same_lists, same_signals, same_value}
use Rattle.sig_nodes.specs.Nodes.{ListOps, ListStands, ListsOps, ListsStand, SignalOps, SignalStands, SignalsOps, SignalsStand, count_of, image_of, images, kept, keys_by, let_in, list_tree, list_trees, no_list, no_signal, number, one_list, one_signal, ordered, pick_of, raised, signal_tree, signal_trees, source, sum_of, switch_of, value_at_key, values_by, without_repeats, blocks_of, halves_of}

module _ (s t : ℕ → Content) where
  mutual
    pub list_stands : (ops : ListOps) → Agree s t (vec_leaves (list_tree ops)) → ListStands s ops → ListStands t ops
    list_stands (source leaf) agree stands = tt
    list_stands (images fun ops) agree stands = list_stands ops agree stands
    list_stands (kept filter ops) agree stands = (stands.0 ∙ same_list s t (list_tree ops) agree, list_stands ops agree stands.1)
    list_stands (ordered list ops) agree stands = (stands.0 ∙ same_list s t (list_tree ops) agree, list_stands ops agree stands.1)
    list_stands (let_in by ops bank) agree stands =
        let one = agree_front s t (vec_leaves (list_tree ops)) (sigs_leaves (signal_trees bank)) agree in
        let others = agree_back s t (vec_leaves (list_tree ops)) (sigs_leaves (signal_trees bank)) agree in
        (stands.0 ∙ same_list s t (list_tree ops) one, stands.1 ∙ same_signals s t (signal_trees bank) others, list_stands ops one stands.2, signals_stand bank others stands.3)
    list_stands (raised by ops bank) agree stands =
        let one = agree_front s t (vec_leaves (list_tree ops)) (sigs_leaves (signal_trees bank)) agree in
        let others = agree_back s t (vec_leaves (list_tree ops)) (sigs_leaves (signal_trees bank)) agree in
        (stands.0 ∙ same_list s t (list_tree ops) one, stands.1 ∙ same_signals s t (signal_trees bank) others, list_stands ops one stands.2, signals_stand bank others stands.3)
    list_stands (halves_of halves left right) agree stands =
        let one = agree_front s t (vec_leaves (list_tree left)) (vec_leaves (list_tree right)) agree in
        let other = agree_back s t (vec_leaves (list_tree left)) (vec_leaves (list_tree right)) agree in
        (stands.0 ∙ ap length (same_list s t (list_tree left) one), stands.1 ∙ ap length (same_list s t (list_tree right) other), list_stands left one stands.2, list_stands right other stands.3)
    list_stands (blocks_of blocks ops bank) agree stands =
        let one = agree_front s t (vec_leaves (list_tree ops)) (vecs_leaves (list_trees bank)) agree in
        let others = agree_back s t (vec_leaves (list_tree ops)) (vecs_leaves (list_trees bank)) agree in
        (stands.0 ∙ same_list s t (list_tree ops) one, stands.1 ∙ same_lists s t (list_trees bank) others, list_stands ops one stands.2, lists_stand bank others stands.3)
    list_stands (pick_of choice ops bank) agree stands =
        let one = agree_front s t (sig_leaves (signal_tree ops)) (vecs_leaves (list_trees bank)) agree in
        let others = agree_back s t (sig_leaves (signal_tree ops)) (vecs_leaves (list_trees bank)) agree in
        (stands.0 ∙ same_value s t (signal_tree ops) one, stands.1 ∙ same_lists s t (list_trees bank) others, signal_stands ops one stands.2, lists_stand bank others stands.3)
    list_stands (keys_by entries m) agree stands = stands ∙ map_same s t m agree
    list_stands (values_by entries m) agree stands = stands ∙ map_same s t m agree

    pub signal_stands : (ops : SignalOps) → Agree s t (sig_leaves (signal_tree ops)) → SignalStands s ops → SignalStands t ops
    signal_stands (number leaf) agree stands = tt
    signal_stands (image_of fun ops) agree stands = signal_stands ops agree stands
    signal_stands (without_repeats last ops) agree stands = (stands.0 ∙ same_value s t (signal_tree ops) agree, signal_stands ops agree stands.1)
    signal_stands (switch_of choice ops bank) agree stands =
        let one = agree_front s t (sig_leaves (signal_tree ops)) (sigs_leaves (signal_trees bank)) agree in
        let others = agree_back s t (sig_leaves (signal_tree ops)) (sigs_leaves (signal_trees bank)) agree in
        (stands.0 ∙ same_value s t (signal_tree ops) one, stands.1 ∙ same_signals s t (signal_trees bank) others, signal_stands ops one stands.2, signals_stand bank others stands.3)
    signal_stands (count_of len ops) agree stands = (stands.0 ∙ ap length (same_list s t (list_tree ops) agree), list_stands ops agree stands.1)
    signal_stands (sum_of items ops) agree stands = (stands.0 ∙ same_list s t (list_tree ops) agree, list_stands ops agree stands.1)
    signal_stands (value_at_key key m) agree stands = stands ∙ ap (value_at key.key) (map_same s t m agree)

    pub signals_stand : (bank : SignalsOps) → Agree s t (sigs_leaves (signal_trees bank)) → SignalsStand s bank → SignalsStand t bank
    signals_stand no_signal agree stands = tt
    signals_stand (one_signal ops bank) agree stands =
        (signal_stands ops (agree_front s t (sig_leaves (signal_tree ops)) (sigs_leaves (signal_trees bank)) agree) stands.0, signals_stand bank (agree_back s t (sig_leaves (signal_tree ops)) (sigs_leaves (signal_trees bank)) agree) stands.1)

    pub lists_stand : (bank : ListsOps) → Agree s t (vecs_leaves (list_trees bank)) → ListsStand s bank → ListsStand t bank
    lists_stand no_list agree stands = tt
    lists_stand (one_list ops bank) agree stands =
        (list_stands ops (agree_front s t (vec_leaves (list_tree ops)) (vecs_leaves (list_trees bank)) agree) stands.0, lists_stand bank (agree_back s t (vec_leaves (list_tree ops)) (vecs_leaves (list_trees bank)) agree) stands.1)
