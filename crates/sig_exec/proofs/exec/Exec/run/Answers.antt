use Rattle.sig_exec.proofs.Works.{poller_then, run_on}
use Rattle.sig_exec.proofs.exec.Exec.run.Goals as goal

pub returns-then-turned-eq0-clause-run : goal.returns-then-turned-eq0-clause-run
returns-then-turned-eq0-clause-run g c = run_on _ _ _ _ _ _ c.turns.invariant.run c.turn-turned.ensures.turn.worked

pub turns-preserved-then-turned-eq0-2 : goal.turns-preserved-then-turned-eq0-2
turns-preserved-then-turned-eq0-2 g c = record {
  same = poller_then _ _ _ c.turns.invariant.same c.turn-turned.ensures.same;
  jobs = c.turn-turned.ensures.jobs;
  run = run_on _ _ _ _ _ _ c.turns.invariant.run c.turn-turned.ensures.turn.worked;
}

pub turns-preserved : goal.turns-preserved
turns-preserved g c = record {
  same = poller_then _ _ _ c.turns.invariant.same c.turn-turned.ensures.same;
  jobs = c.turn-turned.ensures.jobs;
  run = run_on _ _ _ _ _ _ c.turns.invariant.run c.turn-turned.ensures.turn.worked;
}
