use Rattle.std.proofs.Common.{◌≡◌, ◌+◌, ◌-◌, true, length, drop}
use Rattle.sig_hist.specs.Sources.{is_among, writers_of}
use Rattle.sig_hist.specs.Counting.{allowances_of, place_of}
use Rattle.sig_hist.proofs.writers.place_of.Given as goal

abbrev pub invariant-loop-place : goal.invariant-loop-place
invariant-loop-place l =
    (l.place + place_of l.number (drop l.place l.writers) ≡ place_of l.number l.writers)
    × (is_among l.number (writers_of (allowances_of (drop l.place l.writers))) ≡ true)

abbrev pub decreases-loop-place : goal.decreases-loop-place
decreases-loop-place l = length l.writers - l.place
