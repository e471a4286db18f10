use Rattle.sig_walk.specs.Fetching.{HasTried}
use Rattle.sig_walk.proofs.fetching.fetch_all.Given as goal

abbrev pub invariant-leaves : goal.invariant-leaves
invariant-leaves g l =
    (g.P.Port.is_same l.fn.port l.port) ×
    HasTried (g.P.Port.state l.fn.port) (g.P.Port.state l.port) l.fn.walk l.walk l.fn.contents l.contents l.leaf
