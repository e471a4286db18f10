use Rattle.std.proofs.Common.{vec_capacity}
use Rattle.std.specs.Mem.Slots.{slots_items}
use Rattle.sig_flag.proofs.Readies.{AreReading}
use Rattle.sig_flag.proofs.closing.ready_tasks.Given as goal

abbrev pub invariant-tasks : goal.invariant-tasks
invariant-tasks g l = AreReading (slots_items l.closed.words) l.first l.task l.room.items (vec_capacity l.room) l.count
