use Rattle.sig_walk.specs.Waiting.{IsLastOpen}
use Rattle.sig_walk.proofs.walk.Walk.last_open.Given as goal

abbrev pub invariant-leaves : goal.invariant-leaves
invariant-leaves l = IsLastOpen l.self l.leaf l.last
