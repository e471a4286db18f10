use Rattle.std.proofs.Common.{◌≡◌, ℕ, ◌+◌, ◌≤◌, length, map, arith, length-append, of_z, rules, to_z, w64}
use Rattle.std.proofs.lemmas.Grind.{common_steps}
use Rattle.std.proofs.lemmas.List.{drop_all, drop_more}
use Rattle.sig_expr.specs.Leaves.{sig_leaves, vec_leaves, vecs_leaves, number_vec, number_vecs}
use Rattle.sig_expr.specs.Shapes.{sig_tree, vec_tree, vec_trees, map_tree}
use Rattle.sig_nodes.proofs.BankStarts.{all_lists, all_signals, one_more_list, one_more_signal}
use Rattle.sig_expr.specs.declared.expressions.VecExpr
use Rattle.sig_nodes.proofs.MapStarts.{key_is, keys_is, leaf_within, started_few, values_is}
use Rattle.sig_nodes.proofs.StartsShort.{concat_needs, concat_tree, first_fits, flatten_needs, flatten_tree, pick_tree}
use Rattle.sig_walk.specs.Fetching.{content_in}
use Rattle.sig_expr.specs.Lengths.{vec_longest, vecs_longest}
use Rattle.sig_nodes.specs.Starting.{leaf_length}
use Rattle.sig_diff.specs.Choosing.{list_for}
use Rattle.sig_expr.specs.Evaluation.{list_of, lists_of}
use Rattle.sig_expr.specs.Trees.{VecTree, VecTrees}
use Rattle.std.specs.List.{flat_map}
use Rattle.sig_nodes.proofs.starting.+start.Goals as goal

pub list_node-list_concat-requires : goal.list_node-list_concat-requires
list_node-list_concat-requires t c =
    let tree = concat_tree c.in-Concat.left c.in-Concat.right in
    let needs = concat_needs (content_in c.args.contents.now) (vec_tree c.in-Concat.left) (vec_tree c.in-Concat.right) c.args.leaf (length c.args.contents.now) c.in_ok-left-in-Concat.left.1
    (rw (c.in-Concat.is, tree) at c.requires.room) (rw (c.in-Concat.is, tree) at c.requires.short) (rw c.get-in-Concat-2.ensures at c.in_ok-left-in-Concat.ensures.started.items_are) in
    let s = content_in c.args.contents.now in
    let right : VecTree ℕ = vec_tree c.get-in-Concat-3.result.now in
    let behind : ℕ = c.args.leaf + c.list_leaves-in-Concat.result in
    let there : (behind + length (vec_leaves right) ≤ length c.args.contents.now) × (vec_longest (leaf_length s) (number_vec right behind) ≤ 65536) × (length c.in_ok-left-in-Concat.left.1 + length (list_of s (number_vec right behind)) ≤ 65536) =
    rw (c.get-in-Concat-3.ensures, c.list_leaves-in-Concat.ensures, c.get-in-Concat.ensures) needs in
    (search (rules, VecExpr.the_lemmas, c.decreases, c.in-Concat.is, c.get-in-Concat-3.ensures), search (rules, there))

pub list_node-list_leaves-requires-in-Flatten : goal.list_node-list_leaves-requires-in-Flatten
list_node-list_leaves-requires-in-Flatten t c =
    let room = first_fits (vec_leaves (vec_tree c.in-Flatten.of)) (vecs_leaves (vec_trees (map vec_tree c.in-Flatten.bank))) c.args.leaf _ (rw (c.in-Flatten.is, flatten_tree c.in-Flatten.of c.in-Flatten.bank) at c.requires.room) in
    rw c.get-in-Flatten.ensures (search (rules, room))

pub list_node-overflow_add-behind-in-Flatten : goal.list_node-overflow_add-behind-in-Flatten
list_node-overflow_add-behind-in-Flatten t c =
    let room = first_fits (vec_leaves (vec_tree c.in-Flatten.of)) (vecs_leaves (vec_trees (map vec_tree c.in-Flatten.bank))) c.args.leaf _ (rw (c.in-Flatten.is, flatten_tree c.in-Flatten.of c.in-Flatten.bank) at c.requires.room) in
    rw (c.list_leaves-in-Flatten.ensures, c.get-in-Flatten.ensures) (search (rules, room))

pub list_node-list_flatten-requires : goal.list_node-list_flatten-requires
list_node-list_flatten-requires t c =
    let tree = flatten_tree c.in-Flatten.of c.in-Flatten.bank in
    let needs = flatten_needs (content_in c.args.contents.now) (vec_tree c.in-Flatten.of) (vec_trees (map vec_tree c.in-Flatten.bank)) c.args.leaf (length c.args.contents.now) c.in_ok-of-in-Flatten.of.1
    (rw (c.in-Flatten.is, tree) at c.requires.room) (rw (c.in-Flatten.is, tree) at c.requires.short) (rw c.get-in-Flatten-2.ensures at c.in_ok-of-in-Flatten.ensures.started.items_are) in
    let s = content_in c.args.contents.now in
    let parts : VecTrees ℕ = vec_trees (map vec_tree c.as_slice-in-Flatten.result.now) in
    let behind : ℕ = c.args.leaf + c.list_leaves-in-Flatten.result in
    let there : (behind + length (vecs_leaves parts) ≤ length c.args.contents.now) × (vecs_longest (leaf_length s) (number_vecs parts behind) ≤ 65536) × (length (flat_map (list_for (lists_of s (number_vecs parts behind))) c.in_ok-of-in-Flatten.of.1) ≤ 65536) =
    rw (c.as_slice-in-Flatten.ensures, c.list_leaves-in-Flatten.ensures, c.get-in-Flatten.ensures) needs in
    (search (rules, VecExpr.the_lemmas, c.decreases, c.in-Flatten.is, c.as_slice-in-Flatten.ensures), search (rules, there))

pub list_node-signal_leaves-requires : goal.list_node-signal_leaves-requires
list_node-signal_leaves-requires t c =
    let room = first_fits (sig_leaves (sig_tree c.in-Pick.of)) (vecs_leaves (vec_trees (map vec_tree c.in-Pick.bank))) c.args.leaf _ (rw (c.in-Pick.is, pick_tree c.in-Pick.of c.in-Pick.bank) at c.requires.room) in
    rw c.get-in-Pick.ensures (search (rules, room))

pub list_node-overflow_add-behind-in-Pick : goal.list_node-overflow_add-behind-in-Pick
list_node-overflow_add-behind-in-Pick t c =
    let room = first_fits (sig_leaves (sig_tree c.in-Pick.of)) (vecs_leaves (vec_trees (map vec_tree c.in-Pick.bank))) c.args.leaf _ (rw (c.in-Pick.is, pick_tree c.in-Pick.of c.in-Pick.bank) at c.requires.room) in
    rw (c.signal_leaves.ensures, c.get-in-Pick.ensures) (search (rules, room))

pub list_node-map_node-requires : goal.list_node-map_node-requires
list_node-map_node-requires t c =
    let tree = keys_is c.args.list.now c.get-in-Keys.result.now c.in-Keys.of c.in-Keys.is c.get-in-Keys.ensures in record { room = leaf_within (map_tree c.get-in-Keys.result.now) c.args.leaf _ (rw tree at c.requires.room) }

pub list_node-list_keys-requires : goal.list_node-list_keys-requires
list_node-list_keys-requires t c =
    let tree = keys_is c.args.list.now c.get-in-Keys.result.now c.in-Keys.of c.in-Keys.is c.get-in-Keys.ensures in record { short = started_few _ _ _ _ c.in_ok-of-in-Keys.ensures.started (rw tree at c.requires.short) }

pub list_node-map_node-requires-in-Values : goal.list_node-map_node-requires-in-Values
list_node-map_node-requires-in-Values t c =
    let tree = values_is c.args.list.now c.get-in-Values.result.now c.in-Values.of c.in-Values.is c.get-in-Values.ensures in record { room = leaf_within (map_tree c.get-in-Values.result.now) c.args.leaf _ (rw tree at c.requires.room) }

pub list_node-list_values-requires : goal.list_node-list_values-requires
list_node-list_values-requires t c =
    let tree = values_is c.args.list.now c.get-in-Values.result.now c.in-Values.of c.in-Values.is c.get-in-Values.ensures in record { short = started_few _ _ _ _ c.in_ok-of-in-Values.ensures.started (rw tree at c.requires.short) }

pub signal_node-map_node-requires : goal.signal_node-map_node-requires
signal_node-map_node-requires t c =
    let tree = key_is c.args.signal.now c.in-Key.key c.in-Key.default c.get-in-Key.result.now c.in-Key.of c.in-Key.is c.get-in-Key.ensures in record { room = leaf_within (map_tree c.get-in-Key.result.now) c.args.leaf _ (rw tree at c.requires.room) }

pub list_bank_nodes-bank-preserved : goal.list_bank_nodes-bank-preserved
list_bank_nodes-bank-preserved t c =
    let here = rw (drop_more c.args.bank.now c.bank.list-index c.list-item.result (omega arith), ← c.list-item.is) at c.bank.invariant in (
      omega (arith, c.list_leaves.ensures, length-append {A = ℕ}),
      rw c.list_leaves.ensures (omega arith),
      grind (arith, common_steps),
      rw (c.in_ok-push.ensures.items, c.in_ok-push-2.ensures.ok) (one_more_list _ _ _ _ c.bank.place _ c.bank.nodes.items c.bank.lists _ _ c.list_leaves.ensures c.in_ok-node.ensures.started here.3),
    )

pub list_bank_nodes-returns-clause-started : goal.list_bank_nodes-returns-clause-started
list_bank_nodes-returns-clause-started t c =
    all_lists _ _ c.bank.nodes.items c.bank.lists _ c.in_ok-list_bank.ensures (rw (drop_all c.bank.list-index c.args.bank.now (omega arith)) at c.bank.invariant).3

pub signal_bank_nodes-bank-preserved : goal.signal_bank_nodes-bank-preserved
signal_bank_nodes-bank-preserved t c =
    let here = rw (drop_more c.args.bank.now c.bank.signal-index c.signal-item.result (omega arith), ← c.signal-item.is) at c.bank.invariant in
    let same : to_z w64 (of_z w64 c.in_ok-node.value) ≡ c.in_ok-node.value = search rules in (
      omega (arith, c.signal_leaves.ensures, length-append {A = ℕ}),
      rw c.signal_leaves.ensures (omega arith),
      rw (c.in_ok-push.ensures.items, c.in_ok-push-2.ensures.ok, same) (one_more_signal _ _ _ _ c.bank.place _ c.bank.nodes.items c.bank.values _ _ c.signal_leaves.ensures c.in_ok-node.ensures here.2),
    )

pub signal_bank_nodes-returns : goal.signal_bank_nodes-returns
signal_bank_nodes-returns t c =
    all_signals _ _ c.bank.nodes.items c.bank.values _ c.in_ok-signal_bank.ensures (rw (drop_all c.bank.signal-index c.args.bank.now (omega arith)) at c.bank.invariant).2
