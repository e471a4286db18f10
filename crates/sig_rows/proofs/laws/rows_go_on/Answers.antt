use Rattle.sig_rows.proofs.RowsShow.{go_on_soundly}
use Rattle.sig_rows.proofs.laws.rows_go_on.Goals as goal

pub returns : goal.returns
returns c = λ view sources. go_on_soundly view sources c.args.rows.now c.args.row.now
