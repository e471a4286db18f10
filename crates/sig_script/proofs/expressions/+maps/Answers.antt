use Rattle.sig_script.proofs.Levels.{map_below}
use Rattle.sig_script.proofs.expressions.+maps.Goals as goal
use Rattle.sig_script.specs.Forms.{form_seen}

pub map_from-returns-in-Some : goal.map_from-returns-in-Some
map_from-returns-in-Some g t c = rw (map_below _ _ _ _ (form_seen c.in-Some.form) c.if-levels-eq0.false c.in-Some.ensures) c.map_built.ensures
