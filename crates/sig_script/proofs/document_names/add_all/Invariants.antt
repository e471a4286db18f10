use Rattle.std.proofs.Common.{◌≡◌, ◌++◌, drop}
use Rattle.serde_json.specs.View.{items_view}
use Rattle.sig_script.specs.NamePasses.{stands_for}
use Rattle.sig_script.specs.Names.{names_from}
use Rattle.sig_script.proofs.document_names.add_all.Given as goal

abbrev pub invariant-values : goal.invariant-values
invariant-values l = l.names ++ names_from (stands_for l.named) l.number (items_view (drop l.number l.values)) ≡ l.fn.names ++ names_from (stands_for l.named) 0 (items_view l.values)
