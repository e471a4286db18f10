use Rattle.sig_rows.proofs.BlocksReach.{part_few, part_few_after, part_later}
use Rattle.sig_rows.proofs.GoingAlong.{may_take, one_taken}
use Rattle.sig_nodes.proofs.joining.give_part.Goals as goal

pub step_bank-requires-clause-short : goal.step_bank-requires-clause-short
step_bank-requires-clause-short c =
    let all = c.as_slice-diff-items.ensures in
    part_few c.args.place c.diffs.op c.diff-item.result _ (may_take c.diffs.invariant c.diff-item.result (rw all at c.diffs-test.true) (rw all at c.diff-item.is))

pub step_bank-requires-clause-short_after : goal.step_bank-requires-clause-short_after
step_bank-requires-clause-short_after c =
    let all = c.as_slice-diff-items.ensures in
    part_few_after c.args.place c.diffs.op c.diff-item.result _ (may_take c.diffs.invariant c.diff-item.result (rw all at c.diffs-test.true) (rw all at c.diff-item.is))

pub diffs-preserved : goal.diffs-preserved
diffs-preserved c =
    let all = c.as_slice-diff-items.ensures in
    let may = may_take c.diffs.invariant c.diff-item.result (rw all at c.diffs-test.true) (rw all at c.diff-item.is) in
    one_taken c.diffs.invariant c.diff-item.result (rw all at c.diffs-test.true) (rw all at c.diff-item.is)
    c.step_bank.new.self c.step_bank.new.given c.in_ok-step_bank.ensures.state c.in_ok-step_bank.ensures.given (part_later c.args.place c.diffs.op c.diff-item.result _ may)
