use Rattle.std.proofs.Common.{◌≡◌, ◌++◌, ◌<◌, ◌^◌, drop, map}
use Rattle.sig_hist.specs.Counting.{starting}
use Rattle.sig_hist.specs.Sources.{room_of}
use Rattle.sig_hist.proofs.writers.writers_of.Given as goal

abbrev pub invariant-allow : goal.invariant-allow
invariant-allow l = (l.writers.items ++ map starting (drop l.allowance-index l.allow) ≡ map starting l.allow) × (room_of (drop l.allowance-index l.allow) < 2 ^ 32)
