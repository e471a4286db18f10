use Rattle.std.proofs.Common.{◌∙◌, refl, ap}
use Rattle.sig_hub.proofs.Gathered.{none_moved, moved_more}
use Rattle.sig_hub.specs.Seats.{at_pass}
use Rattle.sig_hub.proofs.ending.with_pollers.Goals as goal

pub pollers-init : goal.pollers-init
pollers-init c = (none_moved _ _ _ (c.into_iter-pass-iterator.ensures.into_iter_gives.0 ∙ c.into_vec-pass-items.ensures), refl)

pub pollers-preserved : goal.pollers-preserved
pollers-preserved c =
    (moved_more _ _ _ _ _ _ _ _ _ c.pollers.invariant.0 c.in-Some.ensures.steps.0 (c.into_seat.ensures.same ∙ ap at_pass c.pass.view_is) c.into_seat.ensures.rests c.push_reserved.ensures.items, c.push_reserved.ensures.capacity ∙ c.pollers.invariant.1)
