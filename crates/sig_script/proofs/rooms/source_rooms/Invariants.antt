use Rattle.std.proofs.Common.{◌≡◌, ◌++◌, drop, map}
use Rattle.sig_script.specs.Growths.{clipped}
use Rattle.sig_script.specs.Rooms.{source_rooms}
use Rattle.sig_script.proofs.rooms.source_rooms.Given as goal

abbrev pub invariant-sources : goal.invariant-sources
invariant-sources l =
    l.rooms ++ map clipped (source_rooms l.writers l.number (drop l.number l.script.sources)) ≡ map clipped (source_rooms l.writers 0 l.script.sources)
