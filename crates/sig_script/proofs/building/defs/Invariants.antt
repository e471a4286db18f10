use Rattle.std.proofs.Common.{◌≡◌, ◌++◌, drop}
use Rattle.serde_json.specs.View.{items_view}
use Rattle.sig_script.specs.Building.{defs}
use Rattle.sig_script.proofs.building.defs.Given as goal

abbrev pub invariant-values : goal.invariant-values
invariant-values g l = l.list ++ defs (g.B.Builder.builds l.builder) (items_view (drop l.value-index l.values)) ≡ defs (g.B.Builder.builds l.builder) (items_view l.values)
