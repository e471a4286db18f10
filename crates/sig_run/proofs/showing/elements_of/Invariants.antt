use Rattle.std.proofs.Common.{◌≡◌, [], drop}
use Rattle.sig_expr.specs.declared.shown.Shown.TheVariants.{Tagged}
use Rattle.sig_rows.specs.SoundRows.{replay_of}
use Rattle.sig_run.specs.Showing.{AreShowable}
use Rattle.sig_run.proofs.showing.elements_of.Given as goal

abbrev pub invariant-rows : goal.invariant-rows
invariant-rows l = AreShowable (Tagged l.elements) (drop l.row-index l.row-items) × (replay_of (Tagged l.elements) (drop l.row-index l.row-items) ≡ replay_of (Tagged []) l.row-items)
