use Rattle.std.proofs.Common.{◌≡◌, [], drop, arith}
use Rattle.std.proofs.lemmas.List.{drop_all}
use Rattle.sig_ops.specs.Following.{after_all}
use Rattle.sig_ops.specs.laws.Following.{follows}
use Rattle.sig_ops.proofs.following.follow.Goals as goal

pub returns-clause-law : goal.returns-clause-law
returns-clause-law g c = λ xs stands lawful.
    let diffs = c.as_slice-diff-items.result.now in
    let none : drop c.diffs.diff-index diffs ≡ [] = drop_all c.diffs.diff-index diffs (omega arith) in
    let all : c.diffs.op ≡ after_all g.O.VecOp.next c.args.op.now diffs = rw none at c.diffs.invariant.1 in
    let state : c.diffs.op ≡ after_all g.O.VecOp.next c.args.op.now c.args.diffs.now = rw c.as_slice-diff-items.ensures at all in
    rw state (follows g.O.VecOp.stands_for g.O.VecOp.next g.met.O.VecOp.stands_after g.O.VecOp.view g.O.VecOp.gives g.met.O.VecOp.leads g.met.O.VecOp.view_is_short c.args.op.now xs c.args.diffs.now stands lawful)
