use Rattle.std.specs.Vec.Iter.{into_iter_items}
use Rattle.sig_hub.proofs.Started.{AreStarting}
use Rattle.sig_hub.proofs.hub.Hub.poll_passes.Given as goal

abbrev pub invariant-seats : goal.invariant-seats
invariant-seats l = AreStarting l.self l.self.writers (into_iter_items l.fn.seats) (into_iter_items l.seat-iterator) l.passes.items
