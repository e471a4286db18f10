use Rattle.std.proofs.Common.{◌≡◌, ◌∙◌, ◌+◌, length, arith}
use Rattle.std.specs.Vec.Iter.{into_iter_items}
use Rattle.sig_hub.proofs.Started.{are_new, started_more}
use Rattle.sig_hub.specs.Hubs.{new_pass}
use Rattle.sig_hub.proofs.hub.Hub.poll_passes.Goals as goal

pub seats-preserved : goal.seats-preserved
seats-preserved c =
    let counted : c.len-in-seats.result ≡ length c.seats.passes.items = omega (arith, c.len-in-seats.ensures, c.seats.passes.ok.0) in
    started_more c.args.self.now _ _ _ _ _ _ c.in-Some.seat _ c.seats.invariant c.in-Some.ensures.steps.0 (c.station.ensures ∙ (λ i. new_pass c.args.self.now ((c.self.view_is i).writers + counted i))) c.in_ok-push.ensures.items

pub returns : goal.returns
returns c =
    let all : length c.seats.passes.items ≡ length (into_iter_items c.args.seats) = omega (arith, c.seats.invariant.counted, c.seats.seat-iterator.rest.ok.0, c.in-None.ensures.steps.0) in
    rw c.from_vec.ensures (are_new c.args.self.now _ _ _ c.seats.invariant.passes_are all)
