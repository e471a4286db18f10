use Rattle.sig_exec.specs.Jobs.{AreJobs}
use Rattle.live_list.proofs.follow.Given as goal

abbrev pub invariant-turns : goal.invariant-turns
invariant-turns g l = AreJobs l.hub l.pass l.exec
