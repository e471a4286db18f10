use Rattle.std.proofs.Common.{refl, ◌∙◌}
use Rattle.std.proofs.lemmas.List.{length-append}
use Rattle.sig_script.proofs.Naming.{names_count}
use Rattle.sig_script.proofs.document_names.add_names.Goals as goal

pub returns-clause-count : goal.returns-clause-count
returns-clause-count c = c.len.ensures ∙ rw (c.in_ok-add_all.ensures, length-append, names_count, c.list_at.ensures) refl
