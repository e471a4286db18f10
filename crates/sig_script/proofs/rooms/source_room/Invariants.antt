use Rattle.std.proofs.Common.{◌≡◌, ◌+◌, ◌^◌, ◌<◌, drop, map, sum}
use Rattle.sig_script.specs.Growths.{clipped}
use Rattle.sig_script.specs.Rooms.{writer_room}
use Rattle.sig_script.proofs.rooms.source_room.Given as goal

abbrev pub invariant-writers : goal.invariant-writers
invariant-writers l =
    (clipped (l.room + sum (map (writer_room l.source) (drop l.writer-index l.writers))) ≡ clipped (sum (map (writer_room l.source) l.writers))) × (l.room < 2 ^ 64)
