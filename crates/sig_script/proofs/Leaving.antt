-- No edit that a document says is a leave.
use Rattle.std.proofs.Common.{◌≡◌, ℕ, List, Bool, true, not, Option, None, Some, codes, refl}
use Rattle.std.specs.List.{list_all}
use Rattle.std.specs.Option.{option_map_or}
use Rattle.serde_json.specs.Data.{Data, Items, no_items, item, Members}
use Rattle.sig_hist.specs.Histories.{is_leave}
use Rattle.sig_hist.specs.declared.edits.Edit.{Edit}
use Rattle.sig_script.specs.Building.{defs, edit_def, edit_from, script_of, writer_def}
use Rattle.sig_script.specs.Fields.{list_at, members_in}
use Rattle.sig_script.specs.Grammar.{operation_field}
use Rattle.sig_script.specs.Leaving.{has_no_leaves, leaves_nowhere}
use Rattle.sig_script.specs.declared.grammar.Meaning.{Meaning}
use Rattle.sig_script.specs.declared.grammar.Operation.{Operation}
use Rattle.sig_script.specs.declared.grammar.Operation.TheVariants.{Replace, Insert, Update, Remove, Move, Push, Pop, Clear, Set, SetNeq, Add, Put, Delete, Load, Wipe}

pub all_defs : {T : Type 0} (test : T → Bool) (f : Data → T) → ((value : Data) → test (f value) ≡ true) → (values : Items) → list_all test (defs f values) ≡ true
all_defs test f passes no_items = refl
all_defs test f passes (item value values) = rw (passes value) (all_defs test f passes values)

no_leave : (operation : Operation) (value : Data) → not (is_leave (edit_from operation value)) ≡ true
no_leave Replace value = refl
no_leave Insert value = refl
no_leave Update value = refl
no_leave Remove value = refl
no_leave Move value = refl
no_leave Push value = refl
no_leave Pop value = refl
no_leave Clear value = refl
no_leave Set value = refl
no_leave SetNeq value = refl
no_leave Add value = refl
no_leave Put value = refl
no_leave Delete value = refl
no_leave Load value = refl
no_leave Wipe value = refl

field_stays : (field : Option (Operation × Data)) → not (is_leave (option_map_or (λ field. edit_from field.0 field.1) field Edit.Wipe)) ≡ true
field_stays None = refl
field_stays (Some (operation, value)) = no_leave operation value

module _ (names : List (List ℕ × Meaning)) (sources : ℕ) where
  edit_stays : (value : Data) → not (is_leave (edit_def names sources value).1) ≡ true
  edit_stays value = field_stays (operation_field (members_in value))

  writer_stays : (value : Data) → leaves_nowhere (writer_def names sources value) ≡ true
  writer_stays value = all_defs _ _ edit_stays (list_at (codes "edits") (members_in value))

pub no_leaves : (members : Members) → has_no_leaves (script_of members) ≡ true
no_leaves members = all_defs _ _ (writer_stays _ _) (list_at (codes "writers") members)
