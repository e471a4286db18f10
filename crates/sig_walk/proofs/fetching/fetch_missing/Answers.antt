use Rattle.std.proofs.Common.{◌≡◌, true, false}
use Rattle.sig_hist.specs.Ports.{PortState}
use Rattle.sig_walk.proofs.AllTried.{is_there, tried_more, tried_skip}
use Rattle.sig_walk.specs.Fetching.{is_missing}
use Rattle.sig_walk.proofs.fetching.fetch_missing.Goals as goal

pub returns-in_ok-content-clause-more : goal.returns-in_ok-content-clause-more
returns-in_ok-content-clause-more g c = λ s old before tried.
    let t : PortState = g.P.Port.state c.args.port.now in
    let u : PortState = g.P.Port.state c.fetch.new.port in
    let there : is_missing c.args.contents.now c.args.leaf ≡ true = cc in
    rw c.put.ensures (tried_more s t u old c.args.walk.now c.fetch.new.self before c.args.contents.now c.args.leaf tried c.fetch.ensures.gone (is_there _ there) c.requires.leaf c.in_ok-content.content c.in_ok-content.ensures.tried)

pub returns-else-is_missing-clause-more : goal.returns-else-is_missing-clause-more
returns-else-is_missing-clause-more g c = λ s old before tried.
    let there : is_missing c.args.contents.now c.args.leaf ≡ false = cc in
    tried_skip s (g.P.Port.state c.args.port.now) old c.args.walk.now before c.args.contents.now c.args.leaf tried there
