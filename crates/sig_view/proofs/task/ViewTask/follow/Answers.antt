use Rattle.std.proofs.Common.{◌≡◌, ◌∙◌}
use Rattle.sig_view.proofs.Finishing.{behind, can_wait, ends, finished, finished_again, found_nothing, paused, paused_not, still_ready, waits}
use Rattle.sig_view.proofs.task.ViewTask.follow.Goals as goal

pub wait-requires-clause-can : goal.wait-requires-clause-can
wait-requires-clause-can g c =
    let s = g.P.Port.state c.args.port.now in
    let t = g.P.Port.state c.go_on.new.port in
    let nothing = found_nothing s t c.args.self.now c.go_on.new.self c.args.told c.in-Nowhere.told c.in-Nowhere.ensures.gone_on in
    can_wait s t c.args.self.now c.go_on.new.self c.requires.follows c.requires.ready nothing

pub look_again-requires-clause-ready : goal.look_again-requires-clause-ready
look_again-requires-clause-ready g c =
    let s = g.P.Port.state c.args.port.now in
    let t = g.P.Port.state c.go_on.new.port in
    let nothing = found_nothing s t c.args.self.now c.go_on.new.self c.args.told c.in-Nowhere.told c.in-Nowhere.ensures.gone_on in
    still_ready t (g.P.Port.state c.wait.new.port) c.go_on.new.self _ c.in-News.ensures.waited.0.listened nothing.stepped.ready c.wait.ensures.sound

pub look_again-requires-clause-behind : goal.look_again-requires-clause-behind
look_again-requires-clause-behind g c =
    let s = g.P.Port.state c.args.port.now in
    let t = g.P.Port.state c.go_on.new.port in
    let nothing = found_nothing s t c.args.self.now c.go_on.new.self c.args.told c.in-Nowhere.told c.in-Nowhere.ensures.gone_on in
    behind s t c.args.self.now c.go_on.new.self c.requires.follows c.requires.ready nothing (g.P.Port.state c.wait.new.port) c.in-News.ensures.waited.0

pub returns-in-Answered-clause-poll : goal.returns-in-Answered-clause-poll
returns-in-Answered-clause-poll g c =
    let s = g.P.Port.state c.args.port.now in
    let task = c.args.self.now in
    finished s s (g.P.Port.state c.go_on.new.port) task task c.go_on.new.self c.requires.follows (paused_not s task) c.requires.ready c.args.told c.in-Answered.polled c.in-Answered.ensures.gone_on

pub returns-in-None-clause-poll : goal.returns-in-None-clause-poll
returns-in-None-clause-poll g c =
    let s = g.P.Port.state c.args.port.now in
    let t = g.P.Port.state c.go_on.new.port in
    let nothing = found_nothing s t c.args.self.now c.go_on.new.self c.args.told c.in-Nowhere.told c.in-Nowhere.ensures.gone_on in
    rw (c.end.ensures.stage, c.end.ensures.ended) (ends s t c.args.self.now c.go_on.new.self c.requires.follows c.requires.ready nothing c.args.told c.in-None.ensures)

pub returns-in-Rests-clause-poll : goal.returns-in-Rests-clause-poll
returns-in-Rests-clause-poll g c =
    let s = g.P.Port.state c.args.port.now in
    let t = g.P.Port.state c.go_on.new.port in
    let nothing = found_nothing s t c.args.self.now c.go_on.new.self c.args.told c.in-Nowhere.told c.in-Nowhere.ensures.gone_on in
    waits s t c.args.self.now c.go_on.new.self c.requires.follows c.requires.ready nothing (g.P.Port.state c.wait.new.port) c.in-Some.last c.in-Some.ensures c.in-Rests.ensures.waited c.args.told c.wait.ensures.sound

pub returns-in-News-clause-poll : goal.returns-in-News-clause-poll
returns-in-News-clause-poll g c =
    let s = g.P.Port.state c.args.port.now in
    let t = g.P.Port.state c.go_on.new.port in
    let u = g.P.Port.state c.wait.new.port in
    let task = c.args.self.now in
    let mid = c.go_on.new.self in
    let nothing = found_nothing s t task mid c.args.told c.in-Nowhere.told c.in-Nowhere.ensures.gone_on in
    let news = c.in-News.ensures.waited.0 in
    let token : c.in-News.told ≡ c.args.told = c.in-News.ensures.waited.1 ∙ c.in-Nowhere.ensures.gone_on.2.3 in
    finished_again s u (g.P.Port.state c.look_again.new.port) task mid c.look_again.new.self c.requires.follows (paused s t task mid c.requires.follows c.requires.ready nothing u news)
    (still_ready t u mid _ news.listened nothing.stepped.ready c.wait.ensures.sound) c.args.told c.in-News.told c.look_again.result token c.look_again.ensures.again
