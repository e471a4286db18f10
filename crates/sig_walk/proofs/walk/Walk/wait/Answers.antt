use Rattle.std.proofs.Common.{length, ◌<◌, refl, arith}
use Rattle.sig_walk.proofs.Listening.{can_still, watched_news, watched_still}
use Rattle.sig_walk.specs.Waiting.{is_open_leaf}
use Rattle.sig_walk.proofs.walk.Walk.wait.Goals as goal

pub stays-requires-clause-can : goal.stays-requires-clause-can
stays-requires-clause-can g c = can_still (g.P.Port.state c.args.port.now) c.args.self.now c.requires.can (g.P.Port.state c.leaves.port) c.leaves.leaf c.leaves.invariant.1

pub returns-then-not-stays-clause-waited : goal.returns-then-not-stays-clause-waited
returns-then-not-stays-clause-waited g c =
    let walk = c.args.self.now in
    let within : c.leaves.leaf < length walk.positions = omega (arith, c.requires.last.within, c.requires.can.can.marks) in
    (watched_news (g.P.Port.state c.args.port.now) walk c.requires.can (g.P.Port.state c.leaves.port) c.leaves.leaf c.leaves.invariant.1 (g.P.Port.state c.stays.new.port) (is_open_leaf walk c.leaves.leaf) _ within refl refl c.if-not-stays.ensures.watched, refl)

pub leaves-preserved : goal.leaves-preserved
leaves-preserved g c =
    let walk = c.args.self.now in
    let within : c.leaves.leaf < length walk.positions = omega (arith, c.requires.last.within, c.requires.can.can.marks) in (
      g.met.P.Port.same_later _ _ _ c.leaves.invariant.0 c.stays.ensures.same,
      watched_still (g.P.Port.state c.args.port.now) walk c.requires.can (g.P.Port.state c.leaves.port) c.leaves.leaf c.leaves.invariant.1 (g.P.Port.state c.stays.new.port) (is_open_leaf walk c.leaves.leaf) _ within refl refl c.if-not-stays.ensures.watched c.stays.ensures.sound,
    )

pub rest-requires-clause-can : goal.rest-requires-clause-can
rest-requires-clause-can g c = can_still (g.P.Port.state c.args.port.now) c.args.self.now c.requires.can (g.P.Port.state c.leaves.port) c.leaves.leaf c.leaves.invariant.1
