use Rattle.sig_bank.specs.Tables.{filter_by_signal}
use Rattle.sig_rows.proofs.GoingAlong.{Taking}
use Rattle.sig_nodes.proofs.OverGiven.{MayTakeValues}
use Rattle.sig_nodes.specs.Banks.{gives_by, next_by}
use Rattle.sig_nodes.proofs.choosing.filter_signals.Given as goal

abbrev pub invariant-values : goal.invariant-values
invariant-values l = Taking (gives_by filter_by_signal) next_by MayTakeValues l.op l.initial.op l.value-index l.values l.given l.initial.given
