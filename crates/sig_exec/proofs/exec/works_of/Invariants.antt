use Rattle.std.proofs.Common.{◌≡◌}
use Rattle.sig_exec.specs.Jobs.{works_of}
use Rattle.sig_exec.proofs.exec.works_of.Given as goal

abbrev pub invariant-jobs : goal.invariant-jobs
invariant-jobs l = l.works.items ≡ works_of l.yielded
