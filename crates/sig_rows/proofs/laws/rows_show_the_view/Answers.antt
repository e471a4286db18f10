use Rattle.sig_rows.proofs.RowsShow.{show_the_view}
use Rattle.sig_rows.proofs.laws.rows_show_the_view.Goals as goal

pub returns : goal.returns
returns c = λ view sources. show_the_view view sources c.args.rows.now
