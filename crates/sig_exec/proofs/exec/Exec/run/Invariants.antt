use Rattle.sig_hub.specs.Polls.{IsSamePoller}
use Rattle.sig_exec.specs.Jobs.{AreJobs, HasRun}
use Rattle.sig_exec.proofs.exec.Exec.run.Given as goal

abbrev pub invariant-turns : goal.invariant-turns
invariant-turns g l = record {
  same : IsSamePoller l.initial.pass l.pass;
  jobs : AreJobs l.hub l.pass l.self;
  run : HasRun l.initial.self l.self;
}
