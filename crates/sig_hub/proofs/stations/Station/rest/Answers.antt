use Rattle.std.proofs.Common.{◌≡◌, true}
use Rattle.sig_hist.specs.Ports.{is_news}
use Rattle.sig_hub.proofs.Called.{news_station, news_rest, rest_station, rest_waits}
use Rattle.sig_hub.proofs.Ported.{news_more, news_closed}
use Rattle.sig_hub.proofs.stations.Station.rest.Goals.{then-version-at-via-then-version-at, then-version-at-via-else-version-at+then-version}
use Rattle.sig_hub.proofs.stations.Station.rest.Goals as goal

has_news : (c : goal.Joined-then-version-at) → is_news c.args.at c.look_last-version.result ≡ true
has_news c = elim c.then-version-at.branch [
  | then-version-at-via-then-version-at w ↦ news_more _ _ w.if-version-at.true
  | then-version-at-via-else-version-at+then-version w ↦ news_closed _ _ w.if-version.true
]

pub invariant_of-self : goal.invariant_of-self
invariant_of-self c =
    let last = c.look_last-version.ensures in
    news_station _ _ _ _ _ _ c.self.view_is c.requires.of c.self.invariant last.seat _ _ _ last.account last.shown (has_news c)

pub returns-then-version-at-clause-rest : goal.returns-then-version-at-clause-rest
returns-then-version-at-clause-rest c =
    let last = c.look_last-version.ensures in
    news_rest _ _ _ _ _ _ c.self.view_is c.requires.of c.self.invariant last.seat _ _ _ last.account last.shown c.args.told (has_news c)

pub returns-then-version-at-clause-sound : goal.returns-then-version-at-clause-sound
returns-then-version-at-clause-sound c =
    let last = c.look_last-version.ensures in
    (news_station _ _ _ _ _ _ c.self.view_is c.requires.of c.self.invariant last.seat _ _ _ last.account last.shown (has_news c)).of_layout.sound

pub invariant_of-self-2 : goal.invariant_of-self-2
invariant_of-self-2 c =
    let last = c.look_last-version.ensures in
    rest_station _ _ _ _ _ _ c.self.view_is c.requires.of c.self.invariant last.seat _ _ _ last.account last.shown c.if-version-at.false c.if-version.false

pub returns-clause-rest : goal.returns-clause-rest
returns-clause-rest c =
    let last = c.look_last-version.ensures in
    rest_waits _ _ _ _ _ _ c.self.view_is c.requires.of c.self.invariant last.seat _ _ _ last.account last.shown c.if-version-at.false c.if-version.false c.args.told

pub returns-clause-sound : goal.returns-clause-sound
returns-clause-sound c =
    let last = c.look_last-version.ensures in
    (rest_station _ _ _ _ _ _ c.self.view_is c.requires.of c.self.invariant last.seat _ _ _ last.account last.shown c.if-version-at.false c.if-version.false).of_layout.sound
