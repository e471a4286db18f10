use Rattle.std.proofs.Common.{◌≡◌, take}
use Rattle.sig_diff.specs.Entries.{keys_of}
use Rattle.sig_diff.proofs.entries.Entries.keys.Given as goal

abbrev pub invariant-entries : goal.invariant-entries
invariant-entries g l = l.keys ≡ keys_of (take l.entry-index l.entry-items)
