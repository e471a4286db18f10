-- The names of a document's lists, and their faults, by what is named.
use Rattle.std.specs.Prelude.{ℕ, List, Option}
use Rattle.serde_json.specs.Data.{Data}
use Rattle.sig_script.specs.Names.{kind_in, new_name_fault, share_names, view_names, writer_names}
use Rattle.sig_script.specs.declared.document_names.Named.{Named}
use Rattle.sig_script.specs.declared.document_names.Named.TheVariants as named
use Rattle.sig_script.specs.declared.grammar.Meaning.{Meaning}
use Rattle.sig_script.specs.declared.grammar.Meaning.TheVariants.{Source, Share, Writer, View}

-- what the name of a value with a number stands for
abbrev pub stands_for : Named → ℕ → Data → Meaning
stands_for named.Source number value = Source number (kind_in value)
stands_for named.Share number value = Share number
stands_for named.Writer number value = Writer number
stands_for named.View number value = View number

-- the fault of a value after these names
abbrev pub named_fault : Named → List (List ℕ × Meaning) → Data → Option (List ℕ)
named_fault named.Source = new_name_fault
named_fault named.Share = share_names
named_fault named.Writer = writer_names
named_fault named.View = view_names
