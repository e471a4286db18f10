use Rattle.std.proofs.Common.{◌≡◌, ◌+◌, drop}
use Rattle.sig_hist.specs.Sources.{room_of}
use Rattle.sig_hist.proofs.writers.room_of.Given as goal

abbrev pub invariant-allow : goal.invariant-allow
invariant-allow l = l.room + room_of (drop l.allowance-index l.allow) ≡ room_of l.allow
