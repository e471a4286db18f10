use Rattle.std.proofs.Common.{refl, arith}
use Rattle.trials_parts.proofs.Seeing.{caught_up_more, one_more}
use Rattle.trials_parts.proofs.moving.catch_up.Goals as goal

pub pushes-preserved : goal.pushes-preserved
pushes-preserved c =
    let edit = c.in_ok-edit.ensures in
    record {
      caught_up = caught_up_more _ c.pushes.source _ _ _ _ c.pushes.invariant.caught_up edit.entered refl edit.source (omega (arith, c.pushes.invariant.place, c.pushes-test.true));
      place = one_more c.pushes.source _ _ _ edit.entered c.pushes.invariant.place;
    }
