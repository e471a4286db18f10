use Rattle.sig_view.proofs.Beginning.{new_at_start}
use Rattle.sig_view.specs.declared.task.ViewTask.{ViewTask}
use Rattle.sig_view.proofs.task.ViewTask.new.Goals as goal

pub returns : goal.returns
returns c =
    let task : ViewTask = record { alloc = c.args.alloc; view = c.args.view; caps = c.of.result; walk = c.in_ok-walk.walk; stage = c.in_ok-walk.stage } in
    rw (← c.of.ensures) (new_at_start task c.args.first_leaf (rw c.of.ensures c.requires) c.in_ok-walk.ensures.walk c.in_ok-walk.ensures.begun c.in_ok-walk.ensures.contents)
