-- The first fault of shape: a value that isn't of the kind that is asked, or an object with other fields.
use Rattle.std.specs.Prelude.{ℕ, ◌+◌, ◌==◌, ◌&&◌, ◌||◌, ℤ, pos, List, [], ◌∷◌, Bool, true, false, cond, not, nat_eq, int_lt, int_le, if◌then◌else◌, Option, None, Some, option_and_then, is_some, is_none, codes, decimal}
use Rattle.std.specs.Cmp.Lexicographic.{pointwise}
use Rattle.std.specs.Option.{option_map_or, option_or}
use Rattle.std.specs.Ordering.{int_eq}
use Rattle.sig_diff.specs.declared.contents.Kind.{Kind}
use Rattle.sig_diff.specs.declared.contents.Kind.TheVariants as kind
use Rattle.serde_json.specs.Data.{Data, Items, no_items, item, Members}
use Rattle.serde_json.specs.Find.{as_array, as_bool, as_object, as_str, get_member}
use Rattle.sig_script.specs.Fields.{number_of, index_of, name_of, item_count, field_count, only_field}
use Rattle.sig_script.specs.Grammar.{content_field, form_of, kind_name, operation_field, operation_name, view_field, view_kind_name, class_of_view}
use Rattle.sig_script.specs.Paths.{below, first_in, first_of, here_unless, in_field}
use Rattle.sig_script.specs.Walks.{Visit, expression_fault}
use Rattle.sig_script.specs.declared.grammar.Class.{Class}
use Rattle.sig_script.specs.declared.grammar.Class.TheVariants as class
use Rattle.sig_script.specs.declared.grammar.Operation.{Operation}
use Rattle.sig_script.specs.declared.grammar.Operation.TheVariants.{Replace, Insert, Update, Remove, Move, Push, Pop, Clear, Set, SetNeq, Add, Put, Delete, Load, Wipe}
use Rattle.sig_script.specs.declared.grammar.Part.{Part}
use Rattle.sig_script.specs.declared.grammar.Part.TheVariants.{Name, Function, Test, Number, Both}
use Rattle.sig_script.specs.declared.grammar.ViewKind.{ViewKind}

-- ---- single values

abbrev pub number_fault : Data → Option (List ℕ)
number_fault value = here_unless (is_some (number_of value))

abbrev pub index_fault : Data → Option (List ℕ)
index_fault value = here_unless (is_some (index_of value))

abbrev pub name_fault : Data → Option (List ℕ)
name_fault value = here_unless (is_some (name_of value))

-- the value that stands where an operation needs none
abbrev pub yes_fault : Data → Option (List ℕ)
yes_fault value = here_unless (option_map_or (λ yes. yes) (as_bool value) false)

abbrev pub is_text : List ℕ → Data → Bool
is_text text value = option_map_or (pointwise nat_eq text) (as_str value) false

-- ---- lists

abbrev pub list_fault : (Data → Option (List ℕ)) → Data → Option (List ℕ)
list_fault fault value = option_map_or (first_in (λ place. fault)) (as_array value) (Some [])

-- a list of two values
abbrev pub pair_in : (Data → Option (List ℕ)) → (Data → Option (List ℕ)) → Items → Option (List ℕ)
pair_in first second (item a (item b no_items)) = option_or (below (codes "0") (first a)) (below (codes "1") (second b))
pair_in first second items = Some []

abbrev pub pair_fault : (Data → Option (List ℕ)) → (Data → Option (List ℕ)) → Data → Option (List ℕ)
pair_fault first second value = option_map_or (pair_in first second) (as_array value) (Some [])

-- the key of a pair, where it is a number
abbrev pub first_key : Items → Option ℤ
first_key no_items = None
first_key (item key others) = number_of key

abbrev pub key_of : Data → Option ℤ
key_of value = option_and_then first_key (as_array value)

-- whether a key is above the last one. What is no number is refused as such
abbrev pub rises : Option ℤ → Option ℤ → Bool
rises (Some last) (Some key) = int_lt last key
rises _ _ = true

abbrev pub entry_fault : Option ℤ → Data → Option (List ℕ)
entry_fault last value = if rises last (key_of value) then pair_fault number_fault number_fault value else Some []

-- the first fault among a map's pairs, after a last key
abbrev pub entries_from : Option ℤ → ℕ → Items → Option (List ℕ)
entries_from last place no_items = None
entries_from last place (item value values) = option_or (below (decimal place) (entry_fault last value)) (entries_from (key_of value) (place + 1) values)

abbrev pub entries_fault : Data → Option (List ℕ)
entries_fault value = option_map_or (entries_from None 0) (as_array value) (Some [])

-- ---- functions and tests of expressions

abbrev pub has : List ℕ → Members → Bool
has name members = is_some (get_member name members)

abbrev pub positive_fault : Data → Option (List ℕ)
positive_fault value = here_unless (option_map_or (int_le (pos 1)) (number_of value) false)

abbrev pub function_in : Members → Option (List ℕ)
function_in members =
    if (field_count members == 1) && (has (codes "add") members || has (codes "mul") members || has (codes "rem") members)
    then first_of (in_field (codes "add") number_fault members ∷ in_field (codes "mul") number_fault members ∷ in_field (codes "rem") positive_fault members ∷ [])
    else Some []

abbrev pub function_fault : Data → Option (List ℕ)
function_fault value = if is_text (codes "neg") value then None else option_map_or function_in (as_object value) (Some [])

abbrev pub comparison_in : Members → Option (List ℕ)
comparison_in members =
    if (field_count members == 1) && (has (codes "ge") members || has (codes "le") members || has (codes "eq") members)
    then first_of (in_field (codes "ge") number_fault members ∷ in_field (codes "le") number_fault members ∷ in_field (codes "eq") number_fault members ∷ [])
    else Some []

-- a test that isn't turned round
abbrev pub plain_test_fault : Data → Option (List ℕ)
plain_test_fault value = if is_text (codes "even") value then None else option_map_or comparison_in (as_object value) (Some [])

abbrev pub test_fault : Data → Option (List ℕ)
test_fault value = option_map_or (λ test. below (codes "not") (plain_test_fault test)) (only_field (codes "not") value) (plain_test_fault value)

-- ---- expressions

abbrev pub part_shape : Part → Data → Option (List ℕ)
part_shape (Name kind) value = name_fault value
part_shape Function value = function_fault value
part_shape Test value = test_fault value
part_shape Number value = number_fault value
part_shape _ value = None

-- whether the value isn't a list, or isn't one of two where two are asked
abbrev pub is_no_list : Part → Data → Bool
is_no_list (Both class) value = not (option_map_or (λ values. item_count values == 2) (as_array value) false)
is_no_list part value = is_none (as_array value)

abbrev pub shapes : Visit
shapes = record { refuses = λ depth class value. is_none (form_of class value); refuses_list = is_no_list; fault = part_shape }

abbrev pub expression_shape : Class → Data → Option (List ℕ)
expression_shape class value = expression_fault shapes class value

-- ---- sources, shares, writers and views

abbrev pub content_fault : Kind → Data → Option (List ℕ)
content_fault kind.Cell value = number_fault value
content_fault kind.Vector value = list_fault number_fault value
content_fault kind.Map value = entries_fault value

-- the fault of an object with a name and one more field
abbrev pub beside_name : Option (List ℕ) → Members → Option (List ℕ)
beside_name other members = option_or (in_field (codes "name") name_fault members) other

abbrev pub source_in : Members → Option (List ℕ)
source_in members =
    if (field_count members == 2) && has (codes "name") members
    then option_map_or (λ (field : Kind × Data). beside_name (below (kind_name field.0) (content_fault field.0 field.1)) members) (content_field members) (Some [])
    else Some []

abbrev pub share_in : Members → Option (List ℕ)
share_in members =
    if (field_count members == 3) && has (codes "name") members && has (codes "start") members && has (codes "signal") members
    then first_of (in_field (codes "name") name_fault members ∷ in_field (codes "start") number_fault members ∷ in_field (codes "signal") (expression_shape class.Signal) members ∷ [])
    else Some []

abbrev pub operation_fault : Operation → Data → Option (List ℕ)
operation_fault Replace value = list_fault number_fault value
operation_fault Insert value = pair_fault index_fault number_fault value
operation_fault Update value = pair_fault index_fault number_fault value
operation_fault Remove value = index_fault value
operation_fault Move value = pair_fault index_fault index_fault value
operation_fault Push value = number_fault value
operation_fault Pop value = yes_fault value
operation_fault Clear value = yes_fault value
operation_fault Set value = number_fault value
operation_fault SetNeq value = number_fault value
operation_fault Add value = number_fault value
operation_fault Put value = pair_fault number_fault number_fault value
operation_fault Delete value = number_fault value
operation_fault Load value = entries_fault value
operation_fault Wipe value = yes_fault value

abbrev pub edit_in : Members → Option (List ℕ)
edit_in members =
    if (field_count members == 2) && has (codes "on") members
    then option_map_or (λ (field : Operation × Data). option_or (in_field (codes "on") name_fault members) (below (operation_name field.0) (operation_fault field.0 field.1))) (operation_field members) (Some [])
    else Some []

abbrev pub edit_shape : Data → Option (List ℕ)
edit_shape value = option_map_or edit_in (as_object value) (Some [])

abbrev pub writer_in : Members → Option (List ℕ)
writer_in members =
    if (field_count members == 2) && has (codes "name") members && has (codes "edits") members
    then option_or (in_field (codes "name") name_fault members) (in_field (codes "edits") (list_fault edit_shape) members)
    else Some []

abbrev pub view_in : Members → Option (List ℕ)
view_in members =
    if (field_count members == 2) && has (codes "name") members
    then option_map_or (λ (field : ViewKind × Data). beside_name (below (view_kind_name field.0) (expression_shape (class_of_view field.0) field.1)) members) (view_field members) (Some [])
    else Some []

abbrev pub object_fault : (Members → Option (List ℕ)) → Data → Option (List ℕ)
object_fault fault value = option_map_or fault (as_object value) (Some [])

-- ---- the document

abbrev pub version_fault : Data → Option (List ℕ)
version_fault value = here_unless (option_map_or (int_eq (pos 1)) (number_of value) false)

abbrev pub present : List ℕ → Members → ℕ
present name members = cond (has name members) 1 0

-- the four fields that a document must have, the two that it may have, and no others
abbrev pub has_fields : Members → Bool
has_fields members =
    has (codes "version") members && has (codes "sources") members && has (codes "writers") members && has (codes "views") members
    && (field_count members == 4 + present (codes "shares") members + present (codes "schedule") members)

abbrev pub document_in : Members → Option (List ℕ)
document_in members =
    if has_fields members
    then first_of (in_field (codes "version") version_fault members
    ∷ in_field (codes "sources") (list_fault (object_fault source_in)) members
    ∷ in_field (codes "shares") (list_fault (object_fault share_in)) members
    ∷ in_field (codes "writers") (list_fault (object_fault writer_in)) members
    ∷ in_field (codes "views") (list_fault (object_fault view_in)) members
    ∷ in_field (codes "schedule") (list_fault name_fault) members ∷ [])
    else Some []

abbrev pub shape_fault : Data → Option (List ℕ)
shape_fault document = object_fault document_in document
