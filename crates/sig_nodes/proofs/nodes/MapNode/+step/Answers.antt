use Rattle.std.proofs.Common.{rules, refl}
use Rattle.std.proofs.lemmas.Result.{on_err_weaker}
use Rattle.sig_nodes.proofs.News.{map_news}
use Rattle.sig_nodes.proofs.MapTrees.{value_ops, value_stays}
use Rattle.sig_nodes.specs.declared.nodes.MapNode
use Rattle.sig_nodes.proofs.nodes.MapNode.+step.Goals as goal

pub step-requires : goal.step-requires
step-requires g t c κs within =
    let ops = value_ops c.args.self.now c.deref_mut.result.now c.in-Value.op c.in-Value.of c.in-Value.is c.deref_mut.ensures.value in
    let may = rw ops at c.requires.may_go in
    (search (rules, MapNode.the_lemmas, c.decreases, c.in-Value.is, c.deref_mut.ensures.value), (within.0, (within.1, record { can = may.can; has = may.has; short = may.short })))

pub returns-in_err-diffs-in-Value-clause-tree : goal.returns-in_err-diffs-in-Value-clause-tree
returns-in_err-diffs-in-Value-clause-tree g t c =
    value_stays c.args.self.now c.deref_mut.result.now c.step.new.self c.in-Value.op c.in-Value.op c.in-Value.of _ c.in-Value.is c.deref_mut.ensures.value refl refl c.step.ensures.tree

pub returns-in_ok-diffs-in-Value-clause-tree : goal.returns-in_ok-diffs-in-Value-clause-tree
returns-in_ok-diffs-in-Value-clause-tree g t c =
    value_stays c.args.self.now c.deref_mut.result.now c.step.new.self c.in-Value.op c.mapped.new.op c.in-Value.of _ c.in-Value.is c.deref_mut.ensures.value c.mapped.ensures.state refl c.step.ensures.tree

pub returns-in_ok-diffs-in-Value-clause-news : goal.returns-in_ok-diffs-in-Value-clause-news
returns-in_ok-diffs-in-Value-clause-news g t c = on_err_weaker c.mapped.result (map_news c.in_ok-diffs-in-Value.ensures.taken) c.mapped.ensures.some
