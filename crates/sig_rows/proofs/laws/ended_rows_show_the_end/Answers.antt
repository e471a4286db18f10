use Rattle.sig_rows.proofs.RowsShow.{show_the_end}
use Rattle.sig_rows.proofs.laws.ended_rows_show_the_end.Goals as goal

pub returns : goal.returns
returns c = λ view sources. show_the_end view sources c.args.rows.now
