use Rattle.sig_hub.specs.Passes.{IsOf}
use Rattle.trials.proofs.three_views.edit_all.Given as goal

abbrev pub invariant-edits : goal.invariant-edits
invariant-edits g l = IsOf l.hub.machine l.pass
