use Rattle.std.proofs.Common.{rules, length, [], ◌-◌, ◌^◌}
use Rattle.sig_diff.proofs.Following.{followed_more}
use Rattle.sig_diff.specs.Differences.{applied}
use Rattle.sig_diff.specs.Replaying.{list_takes}
use Rattle.sig_diff.proofs.replaying.replay.Goals as goal

pub diffs-preserved : goal.diffs-preserved
diffs-preserved g c =
    let more = followed_more list_takes applied length (2 ^ 32 - 1) [] c.as_slice-diff-items.result.now c.diffs.items c.diffs.diff-index c.diff-item.result (search rules) (search rules) c.diffs.invariant.0 (search rules) in
    (rw c.in_ok-apply.ensures.ok more, search rules)
