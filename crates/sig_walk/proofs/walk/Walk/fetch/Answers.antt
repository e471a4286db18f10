use Rattle.std.proofs.Common.{◌+◌, rules}
use Rattle.sig_hist.specs.Ports.{PortState}
use Rattle.sig_walk.proofs.Trying.{got_gone, vain_gone}
use Rattle.sig_walk.proofs.walk.Walk.fetch.Goals as goal

pub returns-in-Ok-clause-gone : goal.returns-in-Ok-clause-gone
returns-in-Ok-clause-gone g c =
    let s : PortState = g.P.Port.state c.args.port.now in
    let t : PortState = g.P.Port.state c.fetch.new.self in
    got_gone s t c.args.self.now c.arrive.new.self c.args.leaf (c.self.inside.first + c.args.leaf) c.in-Ok.fetched (search rules) c.requires.can c.in-Ok.ensures.sound c.in-Ok.ensures.ok c.arrive.ensures

pub returns-in-Err-NoMemory-clause-gone : goal.returns-in-Err-NoMemory-clause-gone
returns-in-Err-NoMemory-clause-gone g c =
    let s : PortState = g.P.Port.state c.args.port.now in
    let t : PortState = g.P.Port.state c.fetch.new.self in
    vain_gone s t c.args.self.now (s.source (c.self.inside.first + c.args.leaf)) c.requires.can c.in-Err-NoMemory.ensures.sound (rw c.in-Err-NoMemory.field-0-is at c.in-Err-NoMemory.ensures.err)
