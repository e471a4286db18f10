use Rattle.std.proofs.Common.{rules, length, [], ◌-◌, ◌^◌}
use Rattle.sig_diff.proofs.Following.{followed_more}
use Rattle.sig_diff.specs.MapDifferences.{map_is_lawful, map_applied}
use Rattle.sig_diff.proofs.replaying.map_replay.Goals as goal

pub diffs-preserved : goal.diffs-preserved
diffs-preserved g c =
    let more = followed_more map_is_lawful map_applied length (2 ^ 32 - 1) [] c.as_slice-diff-items.result.now c.diffs.map c.diffs.diff-index c.diff-item.result (search rules) (search rules) c.diffs.invariant.0 (search rules) in
    (rw c.in_ok-map_apply.ensures.ok more, search rules)
