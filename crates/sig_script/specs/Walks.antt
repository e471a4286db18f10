-- How an expression is walked: itself first, then its fields in the order of its form.
use Rattle.std.specs.Prelude.{ℕ, zero, suc, ◌+◌, List, [], ◌∷◌, Bool, if◌then◌else◌, Option, None, Some}
use Rattle.std.specs.Option.{option_map_or, option_or}
use Rattle.serde_json.specs.Data.{Data, Items, no_items, item}
use Rattle.sig_script.specs.Fields.{items_in}
use Rattle.sig_script.specs.Grammar.{Field, Form, form_of}
use Rattle.sig_script.specs.Paths.{below, first_in}
use Rattle.sig_script.specs.declared.grammar.Class.{Class}
use Rattle.sig_script.specs.declared.grammar.Part.{Part}
use Rattle.sig_script.specs.declared.grammar.Part.TheVariants.{Name, One, Bank, Both}

-- what is looked at on a walk
pub record Visit : Type 0 where
  -- whether the expression at a depth is refused
  pub refuses : ℕ → Class → Data → Bool
  -- whether the list in a field is
  pub refuses_list : Part → Data → Bool
  -- the fault of a name, a function, a test or a number
  pub fault : Part → Data → Option (List ℕ)

-- the fields of an expression, and none where it isn't one
abbrev pub fields_of : Class → Data → List Field
fields_of class value = option_map_or (λ (form : Form). form.fields) (form_of class value) []

module _ (visit : Visit) (walk : Class → Data → Option (List ℕ)) where
  abbrev pub list_fault : Part → Class → Data → Option (List ℕ)
  list_fault part class value = if visit.refuses_list part value then Some [] else first_in (λ place. walk class) (items_in value)

  abbrev pub part_fault : Part → Data → Option (List ℕ)
  part_fault (One class) value = walk class value
  part_fault (Bank class) value = list_fault (Bank class) class value
  part_fault (Both class) value = list_fault (Both class) class value
  part_fault part value = visit.fault part value

  abbrev pub fields_fault : List Field → Option (List ℕ)
  fields_fault [] = None
  fields_fault (field ∷ fields) = option_or (below field.name (part_fault field.part field.value)) (fields_fault fields)

-- the first fault of an expression at a depth. No value is nested deeper than the levels
abbrev pub walk_fault : Visit → ℕ → ℕ → Class → Data → Option (List ℕ)
walk_fault visit zero depth class value = None
walk_fault visit (suc levels) depth class value =
    if visit.refuses depth class value then Some [] else fields_fault visit (walk_fault visit levels (depth + 1)) (fields_of class value)

-- the first fault of a whole expression. No value is read that is nested deeper than 127 levels
unfoldable pub expression_fault : Visit → Class → Data → Option (List ℕ)
expression_fault visit class value = walk_fault visit 127 1 class value

-- ---- leaves

module _ (count : Class → Data → ℕ) where
  abbrev pub leaves_in : Class → Items → ℕ
  leaves_in class no_items = 0
  leaves_in class (item value values) = count class value + leaves_in class values

  abbrev pub part_leaves : Part → Data → ℕ
  part_leaves (Name kind) value = 1
  part_leaves (One class) value = count class value
  part_leaves (Bank class) value = leaves_in class (items_in value)
  part_leaves (Both class) value = leaves_in class (items_in value)
  part_leaves part value = 0

  abbrev pub fields_leaves : List Field → ℕ
  fields_leaves [] = 0
  fields_leaves (field ∷ fields) = part_leaves field.part field.value + fields_leaves fields

-- how many names of sources an expression has
abbrev pub leaf_count : ℕ → Class → Data → ℕ
leaf_count zero class value = 0
leaf_count (suc levels) class value = fields_leaves (leaf_count levels) (fields_of class value)

unfoldable pub expression_leaves : Class → Data → ℕ
expression_leaves class value = leaf_count 127 class value
