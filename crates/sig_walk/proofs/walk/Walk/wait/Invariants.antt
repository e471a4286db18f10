use Rattle.sig_walk.proofs.Listening.{ListensBelow}
use Rattle.sig_walk.proofs.walk.Walk.wait.Given as goal

abbrev pub invariant-leaves : goal.invariant-leaves
invariant-leaves g l = g.P.Port.is_same l.fn.port l.port × ListensBelow (g.P.Port.state l.fn.port) (g.P.Port.state l.port) l.self l.leaf
