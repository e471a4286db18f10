use Rattle.std.proofs.Common.{◌∙◌}
use Rattle.sig_expr.specs.Functions.{passes}
use Rattle.sig_expr.specs.declared.functions.Pred.{Pred}
use Rattle.sig_ops.specs.laws.Filtering.{filter_after_all, filter_can_follow}
use Rattle.sig_nodes.proofs.Giving.{filter_gives_all}
use Rattle.sig_nodes.proofs.lists.filtered.Goals as goal

pub follow-requires : goal.follow-requires
follow-requires c = filter_can_follow (λ (pred : Pred). Unit {0}) c.args.op.now c.args.diffs.now tt c.requires.lawful c.requires.within c.requires.short

pub returns-clause-given : goal.returns-clause-given
returns-clause-given c = rw c.new-kept.ensures at c.in_ok-follow.ensures.given ∙ filter_gives_all passes c.args.op.now c.args.diffs.now

pub returns-clause-state : goal.returns-clause-state
returns-clause-state c = c.in_ok-follow.ensures.state ∙ filter_after_all c.args.op.now c.args.diffs.now
