use Rattle.std.proofs.Common.{◌≡◌, length}
use Rattle.sig_hub.specs.Starting.{AreDrafts}
use Rattle.sig_hub.proofs.starting.drafts_of.Given as goal

abbrev pub invariant-writers : goal.invariant-writers
invariant-writers l = AreDrafts l.plans 0 l.drafts.items × (length l.drafts.items ≡ l.number)
