use Rattle.sig_rows.proofs.BlocksReach.{outer_few, outer_few_after, outer_later, outer_list_few, outer_list_few_after}
use Rattle.sig_rows.proofs.GoingAlong.{may_take, one_taken}
use Rattle.sig_nodes.proofs.joining.give_outer.Goals as goal

pub step_list-requires-clause-short : goal.step_list-requires-clause-short
step_list-requires-clause-short c =
    let all = c.as_slice-diff-items.ensures in
    outer_few c.diffs.op c.diff-item.result _ (may_take c.diffs.invariant c.diff-item.result (rw all at c.diffs-test.true) (rw all at c.diff-item.is))

pub step_list-requires-clause-short_after : goal.step_list-requires-clause-short_after
step_list-requires-clause-short_after c =
    let all = c.as_slice-diff-items.ensures in
    outer_few_after c.diffs.op c.diff-item.result _ (may_take c.diffs.invariant c.diff-item.result (rw all at c.diffs-test.true) (rw all at c.diff-item.is))

pub diffs-preserved : goal.diffs-preserved
diffs-preserved c =
    let all = c.as_slice-diff-items.ensures in
    let may = may_take c.diffs.invariant c.diff-item.result (rw all at c.diffs-test.true) (rw all at c.diff-item.is) in
    one_taken c.diffs.invariant c.diff-item.result (rw all at c.diffs-test.true) (rw all at c.diff-item.is)
    c.step_list.new.self c.step_list.new.given c.in_ok-step_list.ensures.state c.in_ok-step_list.ensures.given (outer_later c.diffs.op c.diff-item.result _ may)

pub step_list-requires-clause-short_outer : goal.step_list-requires-clause-short_outer
step_list-requires-clause-short_outer c =
    let all = c.as_slice-diff-items.ensures in
    outer_list_few c.diffs.op c.diff-item.result _ (may_take c.diffs.invariant c.diff-item.result (rw all at c.diffs-test.true) (rw all at c.diff-item.is))

pub step_list-requires-clause-short_outer_after : goal.step_list-requires-clause-short_outer_after
step_list-requires-clause-short_outer_after c =
    let all = c.as_slice-diff-items.ensures in
    outer_list_few_after c.diffs.op c.diff-item.result _ (may_take c.diffs.invariant c.diff-item.result (rw all at c.diffs-test.true) (rw all at c.diff-item.is))
