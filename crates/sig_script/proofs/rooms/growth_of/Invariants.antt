use Rattle.std.proofs.Common.{drop}
use Rattle.sig_script.proofs.Growing.{Grows}
use Rattle.sig_script.specs.Rooms.{all_edits_on}
use Rattle.sig_script.proofs.rooms.growth_of.Given as goal

abbrev pub invariant-writers : goal.invariant-writers
invariant-writers l = Grows l.growth (all_edits_on l.source (drop l.writer-index l.writers)) (all_edits_on l.source l.writers)
