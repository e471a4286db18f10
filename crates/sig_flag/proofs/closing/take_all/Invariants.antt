use Rattle.std.proofs.Common.{vec_capacity}
use Rattle.std.specs.Mem.Slots.{slots_items, slots_filled, slots_len}
use Rattle.sig_flag.proofs.Empties.{IsEmptying}
use Rattle.sig_flag.proofs.closing.take_all.Given as goal

abbrev pub invariant-slots : goal.invariant-slots
invariant-slots g l =
    IsEmptying (slots_items l.initial.closed.slots) (slots_len l.initial.closed.slots) (slots_items l.closed.slots) (slots_filled l.closed.slots) (slots_len l.closed.slots) l.slot l.room.items (vec_capacity l.room)
