use Rattle.std.proofs.Common.{◌≡◌, take}
use Rattle.sig_diff.specs.Entries.{values_of}
use Rattle.sig_diff.proofs.entries.Entries.values.Given as goal

abbrev pub invariant-entries : goal.invariant-entries
invariant-entries g l = l.values ≡ values_of (take l.entry-index l.entry-items)
