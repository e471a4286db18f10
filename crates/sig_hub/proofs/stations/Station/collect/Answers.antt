use Rattle.sig_hub.proofs.Called.{collect_station, collect_state}
use Rattle.sig_hub.proofs.stations.Station.collect.Goals as goal

pub invariant_of-self : goal.invariant_of-self
invariant_of-self c = collect_station _ _ _ _ _ _ c.self.view_is c.requires.of c.self.invariant c.collect.ensures.seat _ _ c.collect.ensures.account

pub returns-clause-state : goal.returns-clause-state
returns-clause-state c = collect_state _ _ _ _ _ _ c.self.view_is c.requires.of c.self.invariant c.collect.ensures.seat _ _ c.collect.ensures.account c.requires.task.within
