use Rattle.std.proofs.Common.{refl, ◌∙◌}
use Rattle.sig_script.proofs.document_names.names_of.Goals as goal

pub names_fault-requires-clause-names : goal.names_fault-requires-clause-names
names_fault-requires-clause-names c = c.in_ok-add_names.ensures.added ∙ rw (c.in_ok-views.ensures.added, c.in_ok-writers.ensures.added, c.in_ok-shares.ensures.added, c.new-names.ensures) refl
