-- A list and an object of the document beside the values and the fields that they stand for.
use Rattle.std.proofs.Common.{◌≡◌, ◌≢◌, ℕ, List, [], ◌∷◌, suc, length, Option, Some, refl, ap, ◌∙◌, add-one}
use Rattle.serde_json.specs.Data.{Data}
use Rattle.serde_json.proofs.Views.{Entry}
use Rattle.serde_json.specs.View.{items_view, members_view}
use Rattle.serde_json.specs.declared.value.Value.{Value}
use Rattle.sig_script.specs.Fields.{item_count, field_count}
use Rattle.sig_script.specs.Shapes.{pair_in}

pub item_count_seen : (values : List Value) → item_count (items_view values) ≡ length values
item_count_seen [] = refl
item_count_seen (value ∷ values) = add-one _ ∙ ap suc (item_count_seen values)

pub field_count_seen : (fields : List Entry) → field_count (members_view fields) ≡ length fields
field_count_seen [] = refl
field_count_seen (field ∷ fields) = add-one _ ∙ ap suc (field_count_seen fields)

pub pair_in_none : (first second : Data → Option (List ℕ)) (values : List Value) → length values ≢ 2 → pair_in first second (items_view values) ≡ Some []
pair_in_none first second [] other = refl
pair_in_none first second (a ∷ []) other = refl
pair_in_none first second (a ∷ b ∷ []) other = absurd (other refl)
pair_in_none first second (a ∷ b ∷ c ∷ values) other = refl
