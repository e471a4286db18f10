use Rattle.sig_rows.proofs.GoingAlong.{may_take, one_taken}
use Rattle.sig_rows.proofs.HalvesReach.{half_later}
use Rattle.sig_nodes.proofs.joining.give_half.Goals as goal

pub diffs-preserved : goal.diffs-preserved
diffs-preserved c =
    let all = c.as_slice-diff-items.ensures in
    let may = may_take c.diffs.invariant c.diff-item.result (rw all at c.diffs-test.true) (rw all at c.diff-item.is) in
    one_taken c.diffs.invariant c.diff-item.result (rw all at c.diffs-test.true) (rw all at c.diff-item.is)
    c.step_bank.new.self c.step_bank.new.given c.in_ok-step_bank.ensures.state c.in_ok-step_bank.ensures.given (half_later c.args.child c.diffs.op c.diff-item.result _ may)
