use Rattle.std.proofs.Common.{◌≡◌, ◌++◌, map, take, drop}
use Rattle.sig_walk.specs.declared.walk.Mark.{Mark}
use Rattle.sig_walk.specs.declared.walk.Mark.TheVariants.{Skipped}
use Rattle.sig_walk.proofs.walk.skip.Given as goal

abbrev pub invariant-marks : goal.invariant-marks
invariant-marks l = l.mark-items ≡ map (λ (mark : Mark). Skipped) (take l.mark-index l.fn.marks) ++ drop l.mark-index l.fn.marks
