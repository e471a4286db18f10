use Rattle.sig_view.proofs.Finishing.{finds_more, found_nothing}
use Rattle.sig_view.proofs.task.ViewTask.look_again.Goals as goal

pub unreachable-requires : goal.unreachable-requires
unreachable-requires g c =
    let s = g.P.Port.state c.args.port.now in
    let t = g.P.Port.state c.go_on.new.port in
    finds_more s t c.args.self.now c.go_on.new.self c.requires.ready c.requires.behind (found_nothing s t c.args.self.now c.go_on.new.self c.args.told c.in-Nowhere.field-0 c.in-Nowhere.ensures.gone_on)
