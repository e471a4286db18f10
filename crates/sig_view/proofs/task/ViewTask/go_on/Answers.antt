use Rattle.sig_view.proofs.Finishing.{gone_on}
use Rattle.sig_view.proofs.task.ViewTask.go_on.Goals as goal

pub returns-in-Ok-clause-gone_on : goal.returns-in-Ok-clause-gone_on
returns-in-Ok-clause-gone_on g c =
    gone_on (g.P.Port.state c.args.port.now) (g.P.Port.state c.step.new.port) c.args.self.now c.step.new.self c.answer.new.self c.in-Ok.body c.args.told c.answer.result c.requires.ready c.in-Ok.ensures.stepped c.answer.ensures
