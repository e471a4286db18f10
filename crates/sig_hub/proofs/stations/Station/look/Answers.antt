use Rattle.sig_hub.proofs.Called.{look_station, look_state}
use Rattle.sig_hub.proofs.stations.Station.look.Goals as goal

pub invariant_of-self : goal.invariant_of-self
invariant_of-self c = look_station _ _ _ _ _ _ c.self.view_is c.requires.of c.self.invariant c.look.ensures.seat _ _ c.look.ensures.shown c.look.ensures.account

pub returns-clause-state : goal.returns-clause-state
returns-clause-state c = look_state _ _ _ _ _ _ c.self.view_is c.requires.of c.self.invariant c.look.ensures.seat _ c.leaves.ensures.leaves _ _ c.look.ensures.account c.look.ensures.shown
