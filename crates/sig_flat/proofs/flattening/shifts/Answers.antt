use Rattle.sig_flat.proofs.Standing.{shifts_more}
use Rattle.sig_flat.proofs.flattening.shifts.Goals as goal

pub moved-preserved : goal.moved-preserved
moved-preserved c = rw (c.in_ok-push.ensures.ok, shifts_more c.moved.given c.args.count c.moved.place c.args.from c.args.to c.moved-test.true) c.moved.invariant
