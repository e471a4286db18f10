use Rattle.std.proofs.Common.{◌≡◌, ◌++◌, drop, filter_map}
use Rattle.sig_hist.specs.ByReplies.{replied_map}
use Rattle.sig_hist.proofs.entering.replied_maps.Given as goal

abbrev pub invariant-passed : goal.invariant-passed
invariant-passed l = l.diffs ++ filter_map (λ entry. replied_map entry.edit entry.reply) (drop l.entry-index l.passed) ≡ filter_map (λ entry. replied_map entry.edit entry.reply) l.passed
