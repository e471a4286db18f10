use Rattle.std.proofs.Common.{refl}
use Rattle.sig_view.proofs.Beginning.{poll_first}
use Rattle.sig_view.specs.Polling.{IsSameTask}
use Rattle.sig_view.specs.Tasks.{contents_got}
use Rattle.sig_view.specs.declared.task.Stage.TheVariants.{Following}
use Rattle.sig_view.specs.declared.task.ViewTask.{ViewTask}
use Rattle.sig_view.proofs.task.ViewTask.give_first.Goals as goal

pub returns-in-Ok : goal.returns-in-Ok
returns-in-Ok g c = record {
  poll = λ s t old begun held.
      let task : ViewTask = c.args.self.now in
      let after : ViewTask = record task { stage = Following c.in-Ok.node } in
      let same : IsSameTask old after = record { view = begun.same.view; caps = begun.same.caps; first = begun.same.first } in
      rw c.go_on_by.ensures (poll_first s t old after begun.ready begun.before same begun.gone (contents_got task.stage) begun.tried c.args.told c.in-Ok.node c.in-Ok.row refl held c.in-Ok.ensures.at c.in-Ok.ensures.started);
}
