use Rattle.sig_script.proofs.document_names.shown_names.Goals as goal

pub returns-in-Some : goal.returns-in-Some
returns-in-Some g c = rw (← c.shown_of.ensures, c.in-Some.is, ← c.view_kind_name-field.ensures, ← c.class_of_view.ensures) c.expression_names.ensures
