use Rattle.sig_hub.specs.Turns.{IsRinging}
use Rattle.sig_hub.proofs.turns.ring_all.Given as goal

abbrev pub invariant-leaves : goal.invariant-leaves
invariant-leaves l = IsRinging l.flags.layout.leaves l.source l.leaf l.initial.seat l.seat
