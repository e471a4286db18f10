use Rattle.std.proofs.Common.{◌∙◌}
use Rattle.sig_expr.specs.Functions.{image}
use Rattle.sig_expr.specs.declared.functions.Fun.{Fun}
use Rattle.sig_sort.specs.laws.Sorting.{sorted_after_all, sorted_can_follow}
use Rattle.sig_nodes.proofs.Giving.{sorted_gives_all}
use Rattle.sig_nodes.proofs.lists.sorted.Goals as goal

pub follow-requires : goal.follow-requires
follow-requires c = sorted_can_follow (λ (fun : Fun). Unit {0}) c.args.op.now c.args.diffs.now tt c.requires.lawful c.requires.within c.requires.short

pub returns-clause-given : goal.returns-clause-given
returns-clause-given c = c.in_ok-follow.ensures.given ∙ rw c.new-given.ensures (sorted_gives_all image c.args.op.now c.args.diffs.now)

pub returns-clause-state : goal.returns-clause-state
returns-clause-state c = c.in_ok-follow.ensures.state ∙ sorted_after_all c.args.op.now c.args.diffs.now
