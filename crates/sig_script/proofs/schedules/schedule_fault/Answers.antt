use Rattle.std.proofs.Common.{rules, sym, ◌∙◌}
use Rattle.sig_script.proofs.Spending.{goes_on}
use Rattle.sig_script.proofs.schedules.schedule_fault.Goals as goal

pub events-preserved : goal.events-preserved
events-preserved c =
    let is_left = rw (← c.as_slice-in-events.ensures) at c.events.invariant.is_left in
    rw c.count.ensures (goes_on _ _ _ _ _ c.events.invariant (search rules) (search rules) (sym (c.is_spent.ensures _ _ is_left) ∙ c.if-is_spent.false))
