use Rattle.std.proofs.Common.{arith}
use Rattle.sig_hist.proofs.Listing.{none_listed}
use Rattle.sig_hist.proofs.bells.Bells.new.Goals as goal

pub invariant_of-result : goal.invariant_of-result
invariant_of-result c =
    none_listed c.args.sources.now _ _ _ _ _ c.in_ok-leaves_of.ensures c.in_ok-with_capacity.ensures.items c.in_ok-with_capacity-2.ensures.items
    (omega (arith, c.in_ok-with_capacity.ensures.capacity)) (omega (arith, c.in_ok-with_capacity-2.ensures.capacity))
