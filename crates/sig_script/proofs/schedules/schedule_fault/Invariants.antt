use Rattle.sig_script.proofs.Spending.{NoneSpent}
use Rattle.sig_script.proofs.schedules.schedule_fault.Given as goal

abbrev pub invariant-events : goal.invariant-events
invariant-events l = NoneSpent l.script.writers l.script.schedule l.place l.left
