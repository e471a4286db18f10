use Rattle.std.proofs.Common.{rules, ◌≡◌, ◌∙◌, ℕ, arith, ap, sym}
use Rattle.sig_diff.specs.Differences.{is_lawful}
use Rattle.sig_diff.proofs.Following.{followed_all, followed_next}
use Rattle.sig_ops.specs.Sizes.{all_resized, resized}
use Rattle.sig_ops.proofs.Sizing.{length_replayed}
use Rattle.sig_ops.proofs.signals.LenOp.step.Goals as goal

pub resized-len-requires : goal.resized-len-requires
resized-len-requires c = record { short = (followed_next c.diffs.invariant c.diffs-test.true c.diff-item.is (search rules)).1 }

pub diffs-preserved : goal.diffs-preserved
diffs-preserved c = rw c.resized-len.ensures (followed_next c.diffs.invariant c.diffs-test.true c.diff-item.is (search rules)).2

pub returns-clause-law : goal.returns-clause-law
returns-clause-law c =
    let diffs = c.as_slice-diff-items.result.now in
    let all = followed_all is_lawful resized (λ (size : ℕ). size) 65536 c.args.self.now diffs c.diffs.len c.diffs.diff-index (omega arith) in
    let len : c.diffs.len ≡ all_resized c.args.self.now c.args.diffs.now =
    sym (all c.diffs.invariant).1 ∙ ap (all_resized c.args.self.now) c.as_slice-diff-items.ensures in
    λ xs is lawful. len ∙ rw is (sym (length_replayed xs c.args.diffs.now lawful))
