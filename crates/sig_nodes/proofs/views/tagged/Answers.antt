use Rattle.std.proofs.Common.{◌∙◌, sym}
use Rattle.sig_nodes.proofs.Tagging.{may_tag, one_tagged}
use Rattle.sig_nodes.proofs.views.tagged.Goals as goal

pub step-requires : goal.step-requires
step-requires c =
    let all = c.as_slice-diff-items.ensures in
    may_tag c.diffs.op c.args.op.now c.diffs.diff-index c.args.diffs.now c.diffs.given c.diff-item.result c.diffs.invariant (rw all at c.diffs-test.true) (rw all at c.diff-item.is) (sym c.has_tags.ensures ∙ c.if-not-has_tags.false)

pub diffs-preserved : goal.diffs-preserved
diffs-preserved c =
    let all = c.as_slice-diff-items.ensures in
    one_tagged c.diffs.op c.args.op.now c.diffs.diff-index c.args.diffs.now c.diffs.given c.diff-item.result c.diffs.invariant (rw all at c.diffs-test.true) (rw all at c.diff-item.is) c.step.new.self c.step.new.given
    c.in_ok-step.ensures.state c.in_ok-step.ensures.given
