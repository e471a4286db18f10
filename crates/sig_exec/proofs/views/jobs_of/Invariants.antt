use Rattle.sig_exec.proofs.Planned.{AreListed}
use Rattle.sig_exec.proofs.views.jobs_of.Given as goal

abbrev pub invariant-views : goal.invariant-views
invariant-views l = AreListed l.views l.caps l.pollers l.poller l.number l.first l.jobs
