use Rattle.sig_expr.specs.Leaves.{number_vec}
use Rattle.sig_expr.specs.Shapes.{map_tree, vec_tree}
use Rattle.sig_nodes.proofs.FirstRows.{enumerated}
use Rattle.sig_nodes.proofs.MapStarts.{has_leaf}
use Rattle.sig_nodes.proofs.Results.{if_ok_both}
use Rattle.sig_walk.specs.Fetching.{content_in}
use Rattle.sig_nodes.specs.Nodes.{list_ops, view_ops}
use Rattle.sig_nodes.proofs.starting.view_node.Goals as goal

pub map_node-requires : goal.map_node-requires
map_node-requires c = record { room = has_leaf (map_tree c.in-Map.of) _ (rw c.in-Map.is at c.requires.room) }

pub map_node-requires-in-Entries : goal.map_node-requires-in-Entries
map_node-requires-in-Entries c = record { room = has_leaf (map_tree c.in-Entries.of) _ (rw c.in-Entries.is at c.requires.room) }

pub returns-in_ok-node-in-Enumerate : goal.returns-in_ok-node-in-Enumerate
returns-in_ok-node-in-Enumerate c =
    let started = c.in_ok-node-in-Enumerate.ensures.started in
    rw c.in-Enumerate.is (if_ok_both c.view_enumerated.result _ _ _
    (λ made ops body. enumerated (content_in c.args.contents.now) (number_vec (vec_tree c.in-Enumerate.of) 0) (list_ops c.in_ok-node-in-Enumerate.node) c.in_ok-node-in-Enumerate.items started (view_ops made.0) made.1 ops body)
    c.view_enumerated.ensures.ops c.view_enumerated.ensures.body)
