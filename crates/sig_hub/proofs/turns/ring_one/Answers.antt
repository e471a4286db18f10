use Rattle.sig_hub.proofs.Rung.{rung_told}
use Rattle.sig_hub.proofs.turns.ring_one.Goals as goal

pub returns-then-ring-clause-has : goal.returns-then-ring-clause-has
returns-then-ring-clause-has c = rung_told _ c.args.leaf c.args.seat.now c.ring.new.seat c.requires.tells c.args.task c.requires.leaf.its_task c.if-ring.ensures.account _ c.tell.result c.tell.ensures.account
