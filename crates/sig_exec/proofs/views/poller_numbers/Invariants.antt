use Rattle.std.proofs.Common.{◌≡◌, ◌++◌, ◌-◌, ◌≤◌}
use Rattle.sig_exec.specs.Views.{pollers_from}
use Rattle.sig_exec.proofs.views.poller_numbers.Given as goal

abbrev pub invariant-tasks : goal.invariant-tasks
invariant-tasks l = record {
  numbers : l.numbers.items ++ pollers_from l.pollers l.task (l.tasks - l.task) ≡ pollers_from l.pollers 0 l.tasks;
  within : l.task ≤ l.tasks;
}
