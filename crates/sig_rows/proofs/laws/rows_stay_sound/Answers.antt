use Rattle.sig_rows.proofs.StayingSound.{stay_sound}
use Rattle.sig_rows.proofs.laws.rows_stay_sound.Goals as goal

pub returns : goal.returns
returns c = λ view sources later grow. stay_sound view sources later grow c.args.rows.now
