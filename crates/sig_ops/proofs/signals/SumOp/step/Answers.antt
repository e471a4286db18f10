use Rattle.std.proofs.Common.{rules, ◌≡◌, to_z, of_z, w64}
use Rattle.sig_diff.proofs.Following.{replay_steps}
use Rattle.sig_diff.specs.Numbers.{clamped, total}
use Rattle.sig_diff.specs.Replaying.{replayed}
use Rattle.sig_diff.proofs.Following.{followed_next}
use Rattle.sig_ops.proofs.signals.SumOp.step.Goals as goal

pub follow-requires-clause-lawful : goal.follow-requires-clause-lawful
follow-requires-clause-lawful c = (followed_next c.diffs.invariant c.diffs-test.true c.diff-item.is (search rules)).0

pub follow-requires-clause-short : goal.follow-requires-clause-short
follow-requires-clause-short c = (followed_next c.diffs.invariant c.diffs-test.true c.diff-item.is (search rules)).1

pub diffs-preserved : goal.diffs-preserved
diffs-preserved c = rw c.in_ok-follow.ensures (followed_next c.diffs.invariant c.diffs-test.true c.diff-item.is (search rules)).2

pub returns-clause-value : goal.returns-clause-value
returns-clause-value c =
    let last : to_z w64 (of_z w64 c.clamped-last.result) ≡ c.clamped-last.result = search rules in
    let present : to_z w64 (of_z w64 c.clamped.result) ≡ c.clamped.result = search rules in
    let before : c.clamped-last.result ≡ clamped (total c.args.self.now) = search rules in
    let after : c.clamped.result ≡ clamped (total c.diffs.self) = search rules in
    let all : replayed c.args.self.now c.args.diffs.now ≡ c.diffs.self = search (rules, replay_steps) in
    rw all (rw (last, present, before, after) at c.changed.ensures)
