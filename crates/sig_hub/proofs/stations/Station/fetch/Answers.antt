use Rattle.sig_hub.proofs.Fetching.{fetched_at, refused_at}
use Rattle.sig_hub.proofs.stations.Station.fetch.Goals as goal

pub returns-clause-ok : goal.returns-clause-ok
returns-clause-ok c =
    let leaves = c.leaves.ensures in
    fetched_at _ _ _ _ c.fetch_in_turn.new.seat _ c.self.view_is c.requires.of c.self.invariant _ leaves.leaves _ c.requires.own leaves.range _ _ c.fetch_in_turn.ensures

pub returns-clause-err : goal.returns-clause-err
returns-clause-err c =
    let leaves = c.leaves.ensures in
    refused_at _ _ _ _ c.fetch_in_turn.new.seat _ c.self.view_is c.requires.of c.self.invariant _ leaves.leaves _ c.requires.own leaves.range _ _ c.fetch_in_turn.ensures
