use Rattle.std.proofs.Common.{◌≡◌, ◌++◌, drop}
use Rattle.sig_script.specs.Plans.{allowances}
use Rattle.sig_script.proofs.planning.allowances.Given as goal

abbrev pub invariant-writers : goal.invariant-writers
invariant-writers l = l.allow ++ allowances l.source l.number (drop l.number l.writers) ≡ allowances l.source 0 l.writers
