use Rattle.std.proofs.Common.{drop}
use Rattle.sig_script.proofs.Growing.{Grows}
use Rattle.sig_script.specs.Rooms.{edits_on}
use Rattle.sig_script.proofs.rooms.growth_by.Given as goal

abbrev pub invariant-edits : goal.invariant-edits
invariant-edits l = Grows l.growth (edits_on l.source (drop l.on-index l.edits)) (edits_on l.source l.edits)
