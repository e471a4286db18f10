use Rattle.sig_nodes.proofs.OverGiven.{one_value_taken, value_within}
use Rattle.sig_bank.specs.Tables.{filter_by_signal}
use Rattle.sig_nodes.proofs.choosing.filter_signals.Goals as goal

pub filter_signal-requires-clause-within : goal.filter_signal-requires-clause-within
filter_signal-requires-clause-within c = value_within filter_by_signal c.values.invariant c.values-test.true

pub values-preserved : goal.values-preserved
values-preserved c = one_value_taken filter_by_signal c.values.invariant c.values-test.true c.filter_signal.new.op c.filter_signal.new.given c.in_ok-filter_signal.ensures.state c.in_ok-filter_signal.ensures.given
