use Rattle.sig_nodes.proofs.OverGiven.{one_value_taken, value_within}
use Rattle.sig_bank.specs.Tables.{map_by_signal}
use Rattle.sig_nodes.proofs.choosing.map_signals.Goals as goal

pub map_signal-requires-clause-within : goal.map_signal-requires-clause-within
map_signal-requires-clause-within c = value_within map_by_signal c.values.invariant c.values-test.true

pub values-preserved : goal.values-preserved
values-preserved c = one_value_taken map_by_signal c.values.invariant c.values-test.true c.map_signal.new.op c.map_signal.new.given c.in_ok-map_signal.ensures.state c.in_ok-map_signal.ensures.given
