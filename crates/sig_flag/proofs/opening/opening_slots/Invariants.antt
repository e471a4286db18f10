use Rattle.std.proofs.Common.{◌≡◌, map, Some}
use Rattle.sig_flag.proofs.opening.opening_slots.Given as goal

abbrev pub invariant-states : goal.invariant-states
invariant-states g l = l.slots.items ≡ map Some l.yielded
