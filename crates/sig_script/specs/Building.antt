-- The script that a document says, where its shape, its names and its limits are right.
use Rattle.std.specs.Prelude.{ℕ, zero, suc, ◌+◌, ℤ, pos, List, [], ◌∷◌, true, false, if◌then◌else◌, Option, Some, unwrap_or, codes}
use Rattle.std.specs.Option.{option_map_or}
use Rattle.sig_diff.specs.Entries.{with_value}
use Rattle.sig_diff.specs.declared.contents.Content.{Content}
use Rattle.sig_diff.specs.declared.contents.Content.TheVariants as content
use Rattle.sig_diff.specs.declared.contents.Kind.{Kind}
use Rattle.sig_diff.specs.declared.contents.Kind.TheVariants as kind
use Rattle.sig_diff.specs.declared.differences.VecDiff.TheVariants as diff
use Rattle.sig_expr.specs.declared.expressions.MapExpr
use Rattle.sig_expr.specs.declared.expressions.MapExpr.{MapExpr}
use Rattle.sig_expr.specs.declared.expressions.SigExpr
use Rattle.sig_expr.specs.declared.expressions.SigExpr.{SigExpr}
use Rattle.sig_expr.specs.declared.expressions.VecExpr
use Rattle.sig_expr.specs.declared.expressions.VecExpr.{VecExpr}
use Rattle.sig_expr.specs.declared.expressions.View.{View}
use Rattle.sig_expr.specs.declared.functions.Fun.{Fun}
use Rattle.sig_expr.specs.declared.functions.Fun.TheVariants.{Add, Mul, Neg, Rem}
use Rattle.sig_expr.specs.declared.functions.Pred.{Pred}
use Rattle.sig_expr.specs.declared.functions.Test.{Test}
use Rattle.sig_expr.specs.declared.functions.Test.TheVariants.{Ge, Le, Eq, Even}
use Rattle.sig_hist.specs.declared.edits.Edit.{Edit}
use Rattle.serde_json.specs.Data.{Data, null, Items, no_items, item, Members}
use Rattle.serde_json.specs.Find.{get_item, get_member}
use Rattle.sig_script.specs.Fields.{number_of, index_of, item_count, items_in, list_at, members_in, text_in, value_at}
use Rattle.sig_script.specs.Grammar.{Field, Form, content_field, form_of, operation_field, view_field}
use Rattle.sig_script.specs.Names.{all_names, meaning, name_in}
use Rattle.sig_script.specs.Shapes.{has}
use Rattle.sig_script.specs.declared.grammar.Class.TheVariants as class
use Rattle.sig_script.specs.declared.grammar.Meaning.{Meaning}
use Rattle.sig_script.specs.declared.grammar.Meaning.TheVariants as named
use Rattle.sig_script.specs.declared.grammar.Node.{Node}
use Rattle.sig_script.specs.declared.grammar.Node.TheVariants as node
use Rattle.sig_script.specs.declared.grammar.Operation.{Operation}
use Rattle.sig_script.specs.declared.grammar.Operation.TheVariants as operation
use Rattle.sig_script.specs.declared.grammar.ViewKind.{ViewKind}
use Rattle.sig_script.specs.declared.grammar.ViewKind.TheVariants as shown
use Rattle.sig_script.specs.declared.types.Event.{Event}
use Rattle.sig_script.specs.declared.types.Script.{Script}
use Rattle.sig_script.specs.declared.types.ShareDef.{ShareDef}
use Rattle.sig_script.specs.declared.types.SourceDef.{SourceDef}
use Rattle.sig_script.specs.declared.types.ViewDef.{ViewDef}
use Rattle.sig_script.specs.declared.types.WriterDef.{WriterDef}

-- ---- numbers and lists of them

abbrev pub number_in : Data → ℤ
number_in value = unwrap_or (number_of value) (pos 0)

abbrev pub index_in : Data → ℕ
index_in value = unwrap_or (index_of value) 0

-- the value at a place of a list
abbrev pub item_in : ℕ → Data → Data
item_in place value = unwrap_or (get_item place (items_in value)) null

-- each value of a list, as f says it
abbrev pub defs : {T : Type 0} → (Data → T) → Items → List T
defs f no_items = []
defs f (item value values) = f value ∷ defs f values

abbrev pub numbers_in : Data → List ℤ
numbers_in value = defs number_in (items_in value)

-- the map of a list of pairs, besides some entries
abbrev pub entries_in : List (ℤ × ℤ) → Items → List (ℤ × ℤ)
entries_in entries no_items = entries
entries_in entries (item value values) = entries_in (with_value (number_in (item_in 0 value)) (number_in (item_in 1 value)) entries) values

-- ---- functions and tests

abbrev pub function_from : Data → Fun
function_from value =
    let members = members_in value in
    if has (codes "add") members then Add (number_in (value_at (codes "add") members))
    else (if has (codes "mul") members then Mul (number_in (value_at (codes "mul") members))
    else (if has (codes "rem") members then Rem (number_in (value_at (codes "rem") members)) else Neg))

abbrev pub plain_test_from : Data → Test
plain_test_from value =
    let members = members_in value in
    if has (codes "ge") members then Ge (number_in (value_at (codes "ge") members))
    else (if has (codes "le") members then Le (number_in (value_at (codes "le") members))
    else (if has (codes "eq") members then Eq (number_in (value_at (codes "eq") members)) else Even))

abbrev pub test_from : Data → Pred
test_from value =
    option_map_or (λ test. record { flip = true; test = plain_test_from test }) (get_member (codes "not") (members_in value))
    (record { flip = false; test = plain_test_from value })

-- ---- expressions

-- the number of the source that a name stands for. Shares count after the sources
abbrev pub number_for : ℕ → Option Meaning → ℕ
number_for sources (Some (named.Source number kind)) = number
number_for sources (Some (named.Share number)) = sources + number
number_for sources _ = 0

-- the value of a field by its place in the form
abbrev pub value_of : List Field → ℕ → Data
value_of [] place = null
value_of (field ∷ fields) zero = field.value
value_of (field ∷ fields) (suc place) = value_of fields place

module _ (names : List (List ℕ × Meaning)) (sources : ℕ) where
  abbrev pub source_for : Data → ℕ
  source_for value = number_for sources (meaning names (text_in value))

  module _ (signal : Data → SigExpr) (vector : Data → VecExpr) (map : Data → MapExpr) where
    abbrev pub signal_built : Node → List Field → SigExpr
    signal_built node.Cell fields = SigExpr.Cell (source_for (value_of fields 0))
    signal_built node.MapSignal fields = SigExpr.Map (function_from (value_of fields 0)) (signal (value_of fields 1))
    signal_built node.Dedupe fields = SigExpr.Dedupe (signal (value_of fields 0))
    signal_built node.Switch fields = SigExpr.Switch (signal (value_of fields 0)) (defs signal (items_in (value_of fields 1)))
    signal_built node.Len fields = SigExpr.Len (vector (value_of fields 0))
    signal_built node.Sum fields = SigExpr.Sum (vector (value_of fields 0))
    signal_built node.Key fields = SigExpr.Key (number_in (value_of fields 0)) (number_in (value_of fields 1)) (map (value_of fields 2))
    signal_built _ fields = SigExpr.Cell 0

    abbrev pub vector_built : Node → List Field → VecExpr
    vector_built node.Vector fields = VecExpr.Vector (source_for (value_of fields 0))
    vector_built node.MapVector fields = VecExpr.Map (function_from (value_of fields 0)) (vector (value_of fields 1))
    vector_built node.Filter fields = VecExpr.Filter (test_from (value_of fields 0)) (vector (value_of fields 1))
    vector_built node.FilterBy fields = VecExpr.FilterBy (vector (value_of fields 0)) (defs signal (items_in (value_of fields 1)))
    vector_built node.MapBy fields = VecExpr.MapBy (vector (value_of fields 0)) (defs signal (items_in (value_of fields 1)))
    vector_built node.Sorted fields = VecExpr.Sorted (function_from (value_of fields 0)) (vector (value_of fields 1))
    vector_built node.Concat fields = VecExpr.Concat (vector (item_in 0 (value_of fields 0))) (vector (item_in 1 (value_of fields 0)))
    vector_built node.Flatten fields = VecExpr.Flatten (vector (value_of fields 0)) (defs vector (items_in (value_of fields 1)))
    vector_built node.Pick fields = VecExpr.Pick (signal (value_of fields 0)) (defs vector (items_in (value_of fields 1)))
    vector_built node.Keys fields = VecExpr.Keys (map (value_of fields 0))
    vector_built node.Values fields = VecExpr.Values (map (value_of fields 0))
    vector_built _ fields = VecExpr.Vector 0

    abbrev pub map_built : Node → List Field → MapExpr
    map_built node.Map fields = MapExpr.Map (source_for (value_of fields 0))
    map_built node.MapValue fields = MapExpr.MapValue (function_from (value_of fields 0)) (map (value_of fields 1))
    map_built _ fields = MapExpr.Map 0

  -- expressions by their levels
  abbrev mutual
    pub signal_from : ℕ → Data → SigExpr
    signal_from zero value = SigExpr.Cell 0
    signal_from (suc levels) value =
        option_map_or (λ (form : Form). signal_built (signal_from levels) (vector_from levels) (map_from levels) form.node form.fields) (form_of class.Signal value) (SigExpr.Cell 0)

    pub vector_from : ℕ → Data → VecExpr
    vector_from zero value = VecExpr.Vector 0
    vector_from (suc levels) value =
        option_map_or (λ (form : Form). vector_built (signal_from levels) (vector_from levels) (map_from levels) form.node form.fields) (form_of class.Vector value) (VecExpr.Vector 0)

    pub map_from : ℕ → Data → MapExpr
    map_from zero value = MapExpr.Map 0
    map_from (suc levels) value =
        option_map_or (λ (form : Form). map_built (signal_from levels) (vector_from levels) (map_from levels) form.node form.fields) (form_of class.Map value) (MapExpr.Map 0)

  unfoldable pub signal_of : Data → SigExpr
  signal_of value = signal_from 127 value

  unfoldable pub vector_of : Data → VecExpr
  vector_of value = vector_from 127 value

  unfoldable pub map_of : Data → MapExpr
  map_of value = map_from 127 value

  abbrev pub view_of : ViewKind → Data → View
  view_of shown.Signal value = View.Signal (signal_of value)
  view_of shown.Vector value = View.Vector (vector_of value)
  view_of shown.Map value = View.Map (map_of value)
  view_of shown.Entries value = View.Entries (map_of value)
  view_of shown.Enumerate value = View.Enumerate (vector_of value)

-- ---- edits

abbrev pub edit_from : Operation → Data → Edit
edit_from operation.Replace value = Edit.Vector (diff.Replace (numbers_in value))
edit_from operation.Insert value = Edit.Vector (diff.InsertAt (index_in (item_in 0 value)) (number_in (item_in 1 value)))
edit_from operation.Update value = Edit.Vector (diff.UpdateAt (index_in (item_in 0 value)) (number_in (item_in 1 value)))
edit_from operation.Remove value = Edit.Vector (diff.RemoveAt (index_in value))
edit_from operation.Move value = Edit.Vector (diff.Move (index_in (item_in 0 value)) (index_in (item_in 1 value)))
edit_from operation.Push value = Edit.Vector (diff.Push (number_in value))
edit_from operation.Pop value = Edit.Vector diff.Pop
edit_from operation.Clear value = Edit.Vector diff.Clear
edit_from operation.Set value = Edit.Set (number_in value)
edit_from operation.SetNeq value = Edit.SetNeq (number_in value)
edit_from operation.Add value = Edit.Add (number_in value)
edit_from operation.Put value = Edit.Put (number_in (item_in 0 value)) (number_in (item_in 1 value))
edit_from operation.Delete value = Edit.Delete (number_in value)
edit_from operation.Load value = Edit.Load (entries_in [] (items_in value))
edit_from operation.Wipe value = Edit.Wipe

-- ---- the script

abbrev pub content_from : Kind → Data → Content
content_from kind.Cell value = content.Cell (number_in value)
content_from kind.Vector value = content.Vector (numbers_in value)
content_from kind.Map value = content.Map (entries_in [] (items_in value))

abbrev pub source_def : Data → SourceDef
source_def value = record {
  name = name_in value;
  start = option_map_or (λ (field : Kind × Data). content_from field.0 field.1) (content_field (members_in value)) (content.Cell (pos 0));
}

module _ (names : List (List ℕ × Meaning)) (sources : ℕ) where
  abbrev pub share_def : Data → ShareDef
  share_def value = record {
    name = name_in value;
    start = number_in (value_at (codes "start") (members_in value));
    signal = signal_of names sources (value_at (codes "signal") (members_in value));
  }

  abbrev pub edit_def : Data → ℕ × Edit
  edit_def value = (
    source_for names sources (value_at (codes "on") (members_in value)),
    option_map_or (λ (field : Operation × Data). edit_from field.0 field.1) (operation_field (members_in value)) Edit.Wipe,
  )

  abbrev pub writer_def : Data → WriterDef
  writer_def value = record { name = name_in value; edits = defs edit_def (list_at (codes "edits") (members_in value)) }

  abbrev pub view_def : Data → ViewDef
  view_def value = record {
    name = name_in value;
    view = option_map_or (λ (field : ViewKind × Data). view_of names sources field.0 field.1) (view_field (members_in value)) (View.Vector (VecExpr.Vector 0));
  }

  abbrev pub event_for : Option Meaning → Event
  event_for (Some (named.Writer number)) = Event.Writer number
  event_for (Some (named.Share number)) = Event.Share number
  event_for (Some (named.View number)) = Event.View number
  event_for _ = Event.View 0

  abbrev pub event_def : Data → Event
  event_def value = event_for (meaning names (text_in value))

-- the script that a document says, where its names stand for this and it has so many sources
abbrev pub script_among : List (List ℕ × Meaning) → ℕ → Members → Script
script_among names sources members = record {
  version = 1;
  sources = defs source_def (list_at (codes "sources") members);
  shares = defs (share_def names sources) (list_at (codes "shares") members);
  writers = defs (writer_def names sources) (list_at (codes "writers") members);
  views = defs (view_def names sources) (list_at (codes "views") members);
  schedule = defs (event_def names sources) (list_at (codes "schedule") members);
}

abbrev pub script_of : Members → Script
script_of members = script_among (all_names members) (item_count (list_at (codes "sources") members)) members
