use Rattle.sig_nodes.proofs.Picking.{one_passed}
use Rattle.sig_nodes.proofs.choosing.picked.Goals as goal

pub diffs-preserved : goal.diffs-preserved
diffs-preserved c =
    let all = c.as_slice-diff-items.ensures in
    one_passed c.diffs.op c.args.op.now c.pass_on.new.op c.args.place c.diffs.diff-index c.args.diffs.now c.diffs.given c.args.given c.pass_on.new.given c.diff-item.result c.diffs.invariant c.requires.within (rw all at c.diffs-test.true)
    (rw all at c.diff-item.is) c.in_ok-pass_on.ensures.state c.in_ok-pass_on.ensures.given
