use Rattle.std.proofs.Common.{refl}
use Rattle.sig_walk.specs.declared.walk.Mark.{Mark}
use Rattle.sig_walk.specs.declared.walk.Mark.TheVariants.{Skipped}
use Rattle.sig_hist.proofs.Knowing.{changed_more}
use Rattle.sig_walk.proofs.walk.skip.Goals as goal

pub marks-preserved : goal.marks-preserved
marks-preserved c = changed_more (λ (mark : Mark). Skipped) _ _ _ Skipped Skipped c.marks-test.true c.marks.auto.mark-items c.marks.invariant refl
