use Rattle.std.proofs.Common.{◌≡◌, ◌++◌, drop}
use Rattle.sig_script.specs.Rooms.{source_caps}
use Rattle.sig_script.proofs.rooms.source_caps.Given as goal

abbrev pub invariant-sources : goal.invariant-sources
invariant-sources l = l.caps ++ source_caps l.writers l.number (drop l.number l.sources) ≡ source_caps l.writers 0 l.sources
