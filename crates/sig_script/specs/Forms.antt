-- How the code's forms of expressions stand for those of the definitions.
use Rattle.std.specs.Prelude.{List, [], ◌∷◌}
use Rattle.serde_json.specs.View.{view}
use Rattle.sig_script.specs.Grammar.{Field, Form}
use Rattle.sig_script.specs.declared.grammar.Field.{Field as FieldRead}
use Rattle.sig_script.specs.declared.grammar.Fields.{Fields}
use Rattle.sig_script.specs.declared.grammar.Fields.TheVariants.{One, Two, Three}
use Rattle.sig_script.specs.declared.grammar.Form.{Form as FormRead}

abbrev pub field_seen : FieldRead → Field
field_seen field = record { name = field.name.now; part = field.part; value = view field.value.now }

abbrev pub fields_seen : Fields → List Field
fields_seen (One first) = field_seen first ∷ []
fields_seen (Two first second) = field_seen first ∷ field_seen second ∷ []
fields_seen (Three first second third) = field_seen first ∷ field_seen second ∷ field_seen third ∷ []

abbrev pub form_seen : FormRead → Form
form_seen form = record { node = form.node; fields = fields_seen form.fields }
