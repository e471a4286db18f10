-- The grammar of a document: which fields an object has, and what they hold.
use Rattle.std.specs.Prelude.{ℕ, ◌==◌, List, [], ◌∷◌, if◌then◌else◌, Option, None, option_map, option_and_then, codes}
use Rattle.std.specs.Option.{option_or}
use Rattle.sig_diff.specs.declared.contents.Kind.{Kind}
use Rattle.sig_diff.specs.declared.contents.Kind.TheVariants as kind
use Rattle.serde_json.specs.Data.{Data, Members}
use Rattle.serde_json.specs.Find.{as_object, get_member}
use Rattle.sig_script.specs.Fields.{field_count}
use Rattle.sig_script.specs.declared.grammar.Class.{Class}
use Rattle.sig_script.specs.declared.grammar.Class.TheVariants as class
use Rattle.sig_script.specs.declared.grammar.Node.{Node}
use Rattle.sig_script.specs.declared.grammar.Node.TheVariants as node
use Rattle.sig_script.specs.declared.grammar.Operation.{Operation}
use Rattle.sig_script.specs.declared.grammar.Operation.TheVariants as operation
use Rattle.sig_script.specs.declared.grammar.Part.{Part}
use Rattle.sig_script.specs.declared.grammar.Part.TheVariants.{Name, Function, Test, Number, One, Bank, Both}
use Rattle.sig_script.specs.declared.grammar.ViewKind.{ViewKind}
use Rattle.sig_script.specs.declared.grammar.ViewKind.TheVariants as shown

-- ---- the forms of expressions

-- a field of an expression: its name, what it should hold, and its value
pub record Field : Type 0 where
  pub name : List ℕ
  pub part : Part
  pub value : Data

-- an expression's form, with its fields in the order in which they are walked
pub record Form : Type 0 where
  pub node : Node
  pub fields : List Field

module _ (members : Members) where
  abbrev pub field_at : List ℕ → Part → Option Field
  field_at name part = option_map (λ value. record { name = name; part = part; value = value }) (get_member name members)

  -- the form of an object that has these fields and no others
  abbrev pub one : Node → List ℕ → Part → Option Form
  one node name part =
      if field_count members == 1
      then option_map (λ field. record { node = node; fields = field ∷ [] }) (field_at name part)
      else None

  abbrev pub two : Node → List ℕ → Part → List ℕ → Part → Option Form
  two node first one second other =
      if field_count members == 2
      then option_and_then (λ a. option_map (λ b. record { node = node; fields = a ∷ b ∷ [] }) (field_at second other)) (field_at first one)
      else None

  abbrev pub three : Node → List ℕ → Part → List ℕ → Part → List ℕ → Part → Option Form
  three node first one second other third last =
      if field_count members == 3
      then option_and_then (λ a. option_and_then (λ b. option_map (λ c. record { node = node; fields = a ∷ b ∷ c ∷ [] }) (field_at third last)) (field_at second other)) (field_at first one)
      else None

  abbrev pub signal_form : Option Form
  signal_form =
      option_or (one node.Cell (codes "cell") (Name kind.Cell))
      (option_or (two node.MapSignal (codes "map") Function (codes "of") (One class.Signal))
      (option_or (one node.Dedupe (codes "dedupe") (One class.Signal))
      (option_or (two node.Switch (codes "switch") (One class.Signal) (codes "bank") (Bank class.Signal))
      (option_or (one node.Len (codes "len") (One class.Vector))
      (option_or (one node.Sum (codes "sum") (One class.Vector))
      (three node.Key (codes "key") Number (codes "default") Number (codes "of") (One class.Map)))))))

  abbrev pub vector_form : Option Form
  vector_form =
      option_or (one node.Vector (codes "vector") (Name kind.Vector))
      (option_or (two node.MapVector (codes "map") Function (codes "of") (One class.Vector))
      (option_or (two node.Filter (codes "filter") Test (codes "of") (One class.Vector))
      (option_or (two node.FilterBy (codes "of") (One class.Vector) (codes "filter_by") (Bank class.Signal))
      (option_or (two node.MapBy (codes "of") (One class.Vector) (codes "map_by") (Bank class.Signal))
      (option_or (two node.Sorted (codes "sorted") Function (codes "of") (One class.Vector))
      (option_or (one node.Concat (codes "concat") (Both class.Vector))
      (option_or (two node.Flatten (codes "flatten") (One class.Vector) (codes "bank") (Bank class.Vector))
      (option_or (two node.Pick (codes "pick") (One class.Signal) (codes "bank") (Bank class.Vector))
      (option_or (one node.Keys (codes "keys") (One class.Map))
      (one node.Values (codes "values") (One class.Map)))))))))))

  abbrev pub map_form : Option Form
  map_form =
      option_or (one node.Map (codes "map") (Name kind.Map))
      (two node.MapValue (codes "map_value") Function (codes "of") (One class.Map))

-- the form of an expression of a class, or none where the value is no expression of it
abbrev pub form_in : Class → Members → Option Form
form_in class.Signal members = signal_form members
form_in class.Vector members = vector_form members
form_in class.Map members = map_form members

abbrev pub form_of : Class → Data → Option Form
form_of c value = option_and_then (form_in c) (as_object value)

-- ---- sources, edits and views: an object with one field of several

-- the field of a source that says what it starts with, beside its name
abbrev pub content_field : Members → Option (Kind × Data)
content_field members =
    option_or (option_map (λ value. (kind.Cell, value)) (get_member (codes "cell") members))
    (option_or (option_map (λ value. (kind.Vector, value)) (get_member (codes "vector") members))
    (option_map (λ value. (kind.Map, value)) (get_member (codes "map") members)))

abbrev pub kind_name : Kind → List ℕ
kind_name kind.Cell = codes "cell"
kind_name kind.Vector = codes "vector"
kind_name kind.Map = codes "map"

-- the field of a view that says what it shows, beside its name
abbrev pub view_field : Members → Option (ViewKind × Data)
view_field members =
    option_or (option_map (λ value. (shown.Signal, value)) (get_member (codes "signal") members))
    (option_or (option_map (λ value. (shown.Vector, value)) (get_member (codes "vector") members))
    (option_or (option_map (λ value. (shown.Map, value)) (get_member (codes "map") members))
    (option_or (option_map (λ value. (shown.Entries, value)) (get_member (codes "entries") members))
    (option_map (λ value. (shown.Enumerate, value)) (get_member (codes "enumerate") members)))))

abbrev pub view_kind_name : ViewKind → List ℕ
view_kind_name shown.Signal = codes "signal"
view_kind_name shown.Vector = codes "vector"
view_kind_name shown.Map = codes "map"
view_kind_name shown.Entries = codes "entries"
view_kind_name shown.Enumerate = codes "enumerate"

-- the class of the expression that a view shows
abbrev pub class_of_view : ViewKind → Class
class_of_view shown.Signal = class.Signal
class_of_view shown.Vector = class.Vector
class_of_view shown.Map = class.Map
class_of_view shown.Entries = class.Map
class_of_view shown.Enumerate = class.Vector

-- the field of an edit that says what is done, beside the one that says on which source: of an edit of a map
abbrev pub map_field : Members → Option (Operation × Data)
map_field members =
    option_or (option_map (λ value. (operation.Put, value)) (get_member (codes "put") members))
    (option_or (option_map (λ value. (operation.Delete, value)) (get_member (codes "delete") members))
    (option_or (option_map (λ value. (operation.Load, value)) (get_member (codes "load") members))
    (option_map (λ value. (operation.Wipe, value)) (get_member (codes "wipe") members))))

-- of a cell, and then of a map
abbrev pub cell_field : Members → Option (Operation × Data)
cell_field members =
    option_or (option_map (λ value. (operation.Set, value)) (get_member (codes "set") members))
    (option_or (option_map (λ value. (operation.SetNeq, value)) (get_member (codes "set_neq") members))
    (option_or (option_map (λ value. (operation.Add, value)) (get_member (codes "add") members))
    (map_field members)))

-- at the end of a vector or of all of it, and then of the others
abbrev pub end_field : Members → Option (Operation × Data)
end_field members =
    option_or (option_map (λ value. (operation.Push, value)) (get_member (codes "push") members))
    (option_or (option_map (λ value. (operation.Pop, value)) (get_member (codes "pop") members))
    (option_or (option_map (λ value. (operation.Clear, value)) (get_member (codes "clear") members))
    (cell_field members)))

abbrev pub operation_field : Members → Option (Operation × Data)
operation_field members =
    option_or (option_map (λ value. (operation.Replace, value)) (get_member (codes "replace") members))
    (option_or (option_map (λ value. (operation.Insert, value)) (get_member (codes "insert") members))
    (option_or (option_map (λ value. (operation.Update, value)) (get_member (codes "update") members))
    (option_or (option_map (λ value. (operation.Remove, value)) (get_member (codes "remove") members))
    (option_or (option_map (λ value. (operation.Move, value)) (get_member (codes "move") members))
    (end_field members)))))

abbrev pub operation_name : Operation → List ℕ
operation_name operation.Replace = codes "replace"
operation_name operation.Insert = codes "insert"
operation_name operation.Update = codes "update"
operation_name operation.Remove = codes "remove"
operation_name operation.Move = codes "move"
operation_name operation.Push = codes "push"
operation_name operation.Pop = codes "pop"
operation_name operation.Clear = codes "clear"
operation_name operation.Set = codes "set"
operation_name operation.SetNeq = codes "set_neq"
operation_name operation.Add = codes "add"
operation_name operation.Put = codes "put"
operation_name operation.Delete = codes "delete"
operation_name operation.Load = codes "load"
operation_name operation.Wipe = codes "wipe"

-- the kind of source that an operation is made on
abbrev pub kind_for : Operation → Kind
kind_for operation.Set = kind.Cell
kind_for operation.SetNeq = kind.Cell
kind_for operation.Add = kind.Cell
kind_for operation.Put = kind.Map
kind_for operation.Delete = kind.Map
kind_for operation.Load = kind.Map
kind_for operation.Wipe = kind.Map
kind_for _ = kind.Vector
