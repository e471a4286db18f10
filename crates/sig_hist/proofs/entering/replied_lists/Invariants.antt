use Rattle.std.proofs.Common.{◌≡◌, ◌++◌, drop, filter_map}
use Rattle.sig_hist.specs.ByReplies.{replied_list}
use Rattle.sig_hist.proofs.entering.replied_lists.Given as goal

abbrev pub invariant-passed : goal.invariant-passed
invariant-passed l = l.diffs ++ filter_map (λ entry. replied_list entry.edit entry.reply) (drop l.entry-index l.passed) ≡ filter_map (λ entry. replied_list entry.edit entry.reply) l.passed
