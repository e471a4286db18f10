use Rattle.sig_exec.proofs.Works.{AreTurning}
use Rattle.sig_exec.proofs.exec.turn_all.Given as goal

abbrev pub invariant-works : goal.invariant-works
invariant-works g l = AreTurning l.hub l.initial.pass l.pass l.initial.work-items l.work-items l.work-index l.rows
