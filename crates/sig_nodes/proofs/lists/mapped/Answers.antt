use Rattle.std.proofs.Common.{◌∙◌}
use Rattle.sig_ops.specs.laws.Mapping.{map_after_all, map_can_follow}
use Rattle.sig_expr.specs.declared.functions.Fun.{Fun}
use Rattle.sig_nodes.proofs.lists.mapped.Goals as goal

pub follow-requires : goal.follow-requires
follow-requires c = map_can_follow (λ (fun : Fun). Unit {0}) c.args.op.now c.args.diffs.now tt

pub returns-clause-state : goal.returns-clause-state
returns-clause-state c = c.in_ok-follow.ensures.state ∙ map_after_all c.args.op.now c.args.diffs.now
