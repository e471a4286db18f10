-- The operators of nodes of maps, by their variants.
use Rattle.std.proofs.Common.{◌≡◌, List, ℤ, Box, Global, rules, refl}
use Rattle.sig_expr.specs.Trees.{mapped_values}
use Rattle.sig_expr.specs.declared.functions.Fun.{Fun}
use Rattle.sig_maps.specs.Keys.{KeyView}
use Rattle.sig_nodes.specs.Nodes.{keys_by, list_ops, map_ops, signal_ops, value_at_key, values_by}
use Rattle.sig_nodes.specs.declared.nodes.ListNode
use Rattle.sig_nodes.specs.declared.nodes.ListNode.{ListNode}
use Rattle.sig_nodes.specs.declared.nodes.MapNode
use Rattle.sig_nodes.specs.declared.nodes.MapNode.{MapNode}
use Rattle.sig_nodes.specs.declared.nodes.SignalNode
use Rattle.sig_nodes.specs.declared.nodes.SignalNode.{SignalNode}

pub ops_of_value : (fun : Fun) (of : Box MapNode Global) → map_ops (MapNode.Value fun of) ≡ mapped_values fun (map_ops of.value)
ops_of_value fun of = search (rules, MapNode.the_lemmas)

pub value_ops : (node below : MapNode) (fun : Fun) (of : Box MapNode Global) → node ≡ MapNode.Value fun of → below ≡ of.value → map_ops node ≡ mapped_values fun (map_ops below)
value_ops node below fun of is at = rw (is, at) (ops_of_value fun of)

-- the node has the same operators while what is below it has
pub value_stays : (node below after : MapNode) (fun next : Fun) (of : Box MapNode Global) (new : Box MapNode Global) → node ≡ MapNode.Value fun of → below ≡ of.value → next ≡ fun → new.value ≡ after → map_ops after ≡ map_ops below →
    map_ops (MapNode.Value next new) ≡ map_ops node
value_stays node below after fun next of new is at same there tree = rw (same, ops_of_value fun new, there, tree, value_ops node below fun of is at) refl

pub ops_of_keys : (entries : List (ℤ × ℤ)) (of : MapNode) → list_ops (ListNode.Keys entries of) ≡ keys_by entries (map_ops of)
ops_of_keys entries of = search (rules, ListNode.the_lemmas)

pub ops_of_values : (entries : List (ℤ × ℤ)) (of : MapNode) → list_ops (ListNode.Values entries of) ≡ values_by entries (map_ops of)
ops_of_values entries of = search (rules, ListNode.the_lemmas)

pub ops_of_key : (key : KeyView) (of : MapNode) → signal_ops (SignalNode.Key key of) ≡ value_at_key key (map_ops of)
ops_of_key key of = search (rules, SignalNode.the_lemmas)

-- ---- by the map below

pub keys_ops : (node : ListNode) (entries : List (ℤ × ℤ)) (of : MapNode) → node ≡ ListNode.Keys entries of → list_ops node ≡ keys_by entries (map_ops of)
keys_ops node entries of is = rw is (ops_of_keys entries of)

pub values_ops : (node : ListNode) (entries : List (ℤ × ℤ)) (of : MapNode) → node ≡ ListNode.Values entries of → list_ops node ≡ values_by entries (map_ops of)
values_ops node entries of is = rw is (ops_of_values entries of)

pub key_ops : (node : SignalNode) (key : KeyView) (of : MapNode) → node ≡ SignalNode.Key key of → signal_ops node ≡ value_at_key key (map_ops of)
key_ops node key of is = rw is (ops_of_key key of)
