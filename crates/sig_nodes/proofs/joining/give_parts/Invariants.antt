use Rattle.sig_rows.proofs.GoingAlong.{Taking}
use Rattle.sig_nodes.specs.Banks.{MayTakeGiven, blocks_give, blocks_next}
use Rattle.sig_nodes.proofs.joining.give_parts.Given as goal

abbrev pub invariant-lists : goal.invariant-lists
invariant-lists l = Taking blocks_give blocks_next MayTakeGiven l.op l.initial.op l.list-index l.lists l.given l.initial.given
