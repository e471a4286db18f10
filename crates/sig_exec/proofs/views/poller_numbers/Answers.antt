use Rattle.std.proofs.Common.{◌<◌, ◌++◌, ◌-◌, ◌+◌, ◌∙◌, ℕ, List, ap, arith}
use Rattle.sig_exec.proofs.Planned.{pollers_left}
use Rattle.sig_exec.specs.Views.{pollers_from}
use Rattle.sig_exec.proofs.views.poller_numbers.Goals as goal

pub tasks-preserved : goal.tasks-preserved
tasks-preserved c =
    let within : c.tasks.task < c.args.tasks = omega arith in
    record {
      numbers = ap (λ (items : List ℕ). items ++ pollers_from c.args.pollers (c.tasks.task + 1) (c.args.tasks - (c.tasks.task + 1))) c.in_ok-push.ensures.items
          ∙ pollers_left c.args.pollers c.tasks.task c.args.tasks c.tasks.numbers.items _ within c.tasks.invariant.numbers;
      within = omega (arith, within);
    }
