use Rattle.std.proofs.Common.{◌≡◌, ◌-◌, ◌≤◌, length, take}
use Rattle.std.specs.Io.KnownBytes.{Appends}
use Rattle.sig_io.proofs.writing.write_all.Given as goal

abbrev pub invariant-writes : goal.invariant-writes
invariant-writes g l = record {
  within : l.sent ≤ length l.text;
  kept : g.K.Sink.faults l.sink ≡ g.K.Sink.faults l.initial.sink;
  appended : Appends (g.K.Sink.written l.initial.sink) (g.K.Sink.written l.sink) (take l.sent l.text);
}

abbrev pub decreases-writes : goal.decreases-writes
decreases-writes g l = length l.text - l.sent
