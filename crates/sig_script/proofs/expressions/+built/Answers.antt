use Rattle.sig_script.proofs.Levels.{signal_below, vector_below}
use Rattle.sig_script.proofs.expressions.+built.Goals as goal
use Rattle.sig_script.specs.Forms.{form_seen}

pub signal_from-returns-in-Some : goal.signal_from-returns-in-Some
signal_from-returns-in-Some g t c = rw (signal_below _ _ _ _ (form_seen c.in-Some.form) c.if-levels-eq0.false c.in-Some.ensures) c.signal_built.ensures

pub vector_from-returns-in-Some : goal.vector_from-returns-in-Some
vector_from-returns-in-Some g t c = rw (vector_below _ _ _ _ (form_seen c.in-Some.form) c.if-levels-eq0.false c.in-Some.ensures) c.vector_built.ensures
