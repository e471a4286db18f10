use Rattle.sig_view.proofs.Stepping.{are_apart, has_leaves, lost, short_now, stepped, tree_held}
use Rattle.sig_nodes.specs.Nodes.{view_tree_of}
use Rattle.sig_view.specs.Tasks.{contents_of, ops_of, view_of}
use Rattle.sig_view.proofs.task.ViewTask.step.Goals as goal

pub walk_on-requires-clause-leaves : goal.walk_on-requires-clause-leaves
walk_on-requires-clause-leaves g c =
    let task = c.args.self.now in
    has_leaves task c.requires.ready.is_task (view_tree_of (ops_of task.stage)) (tree_held (contents_of (g.P.Port.state c.args.port.now) task) (view_of task) task.stage c.requires.follows c.requires.ready.holds)

pub walk_on-requires-clause-apart : goal.walk_on-requires-clause-apart
walk_on-requires-clause-apart g c =
    let task = c.args.self.now in
    are_apart task c.requires.ready.is_task (view_tree_of (ops_of task.stage)) (tree_held (contents_of (g.P.Port.state c.args.port.now) task) (view_of task) task.stage c.requires.follows c.requires.ready.holds)

pub walk_on-requires-clause-short : goal.walk_on-requires-clause-short
walk_on-requires-clause-short g c =
    let task = c.args.self.now in
    let s = g.P.Port.state c.args.port.now in
    short_now task c.requires.ready.is_task s (view_tree_of (ops_of task.stage)) c.requires.ready.port (tree_held (contents_of s task) (view_of task) task.stage c.requires.follows c.requires.ready.holds)

pub returns-in-Ok-clause-stepped : goal.returns-in-Ok-clause-stepped
returns-in-Ok-clause-stepped g c =
    let after = c.in-Ok.ensures in
    stepped (g.P.Port.state c.args.port.now) (g.P.Port.state c.walk_on.new.port) c.args.self.now c.walk_on.new.walk c.walk_on.new.stage c.requires.follows c.requires.ready after.gone c.in-Ok.body after.walked after.flow after.tags after.stands after.tree after.follows

pub returns-in-Err-clause-lost : goal.returns-in-Err-clause-lost
returns-in-Err-clause-lost g c =
    rw c.put_stage.ensures (lost (g.P.Port.state c.args.port.now) (g.P.Port.state c.walk_on.new.port) c.args.self.now c.walk_on.new.walk c.put_stage.new.stage c.requires.follows c.requires.ready c.walk_on.ensures.gone c.in-Err.ensures.news)
