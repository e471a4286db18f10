use Rattle.std.proofs.Common.{refl}
use Rattle.sig_hub.proofs.Started.{draft_more}
use Rattle.sig_hub.proofs.starting.drafts_of.Goals as goal

pub writers-preserved : goal.writers-preserved
writers-preserved c = draft_more _ _ _ _ _ c.writers.invariant.0 c.writers.invariant.1 refl c.in_ok-sources.ensures c.in_ok-push.ensures.items
