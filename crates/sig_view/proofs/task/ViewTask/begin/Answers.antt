use Rattle.std.proofs.Common.{◌≡◌, Some, None, rules}
use Rattle.sig_hist.specs.Ports.{PortState}
use Rattle.sig_view.proofs.Beginning.{again_begun, room_begun, short_begun}
use Rattle.sig_view.proofs.task.ViewTask.begin.Goals as goal

pub give_first-requires-clause-short : goal.give_first-requires-clause-short
give_first-requires-clause-short g c =
    let s : PortState = g.P.Port.state c.args.port.now in
    let t : PortState = g.P.Port.state c.fetch.new.port in
    let held : c.fetch.new.self.walk.held ≡ None = search rules in
    short_begun s t c.args.self.now c.fetch.new.self c.in-Ok.ensures.begun held

pub give_first-requires-clause-room : goal.give_first-requires-clause-room
give_first-requires-clause-room g c = room_begun (g.P.Port.state c.args.port.now) (g.P.Port.state c.fetch.new.port) c.args.self.now c.fetch.new.self c.in-Ok.ensures.begun

pub returns-in-Some-clause-poll : goal.returns-in-Some-clause-poll
returns-in-Some-clause-poll g c =
    let s : PortState = g.P.Port.state c.args.port.now in
    let t : PortState = g.P.Port.state c.fetch.new.port in
    let held : c.fetch.new.self.walk.held ≡ Some c.in-Some.word = search rules in
    again_begun s t c.args.self.now c.fetch.new.self c.in-Ok.ensures.begun c.args.told c.in-Some.word held

pub returns-in-None-clause-poll : goal.returns-in-None-clause-poll
returns-in-None-clause-poll g c =
    let s : PortState = g.P.Port.state c.args.port.now in
    let t : PortState = g.P.Port.state c.fetch.new.port in
    let held : c.fetch.new.self.walk.held ≡ None = search rules in
    c.give_first.ensures.poll s t c.args.self.now c.in-Ok.ensures.begun held
