use Rattle.std.proofs.Common.{◌≡◌, [], drop}
use Rattle.serde_json.specs.View.{items_view}
use Rattle.sig_script.specs.Building.{entries_in}
use Rattle.sig_script.proofs.document_building.entries_in.Given as goal

abbrev pub invariant-values : goal.invariant-values
invariant-values l = entries_in l.entries (items_view (drop l.value-index l.values)) ≡ entries_in [] (items_view l.values)
