-- The first limit that is passed: of a list, of an expression's depth, or of its leaves.
use Rattle.std.specs.Prelude.{ℕ, ◌&&◌, List, [], ◌∷◌, Bool, false, not, nat_lt, nat_le, Option, None, codes}
use Rattle.std.specs.Option.{option_map_or, option_or}
use Rattle.sig_diff.specs.declared.contents.Kind.{Kind}
use Rattle.sig_diff.specs.declared.contents.Kind.TheVariants as kind
use Rattle.serde_json.specs.Data.{Data, Items, Members}
use Rattle.sig_script.specs.Fields.{item_count, items_in, list_at, members_in, value_at}
use Rattle.sig_script.specs.Grammar.{class_of_view, content_field, kind_name, operation_field, operation_name, view_field, view_kind_name}
use Rattle.sig_script.specs.Paths.{below, first_in, first_of, here_unless}
use Rattle.sig_script.specs.Walks.{Visit, expression_fault, expression_leaves}
use Rattle.sig_script.specs.declared.grammar.Class.{Class}
use Rattle.sig_script.specs.declared.grammar.Class.TheVariants as class
use Rattle.sig_script.specs.declared.grammar.Operation.{Operation}
use Rattle.sig_script.specs.declared.grammar.Operation.TheVariants.{Replace, Load}
use Rattle.sig_script.specs.declared.grammar.Part.{Part}
use Rattle.sig_script.specs.declared.grammar.Part.TheVariants.{Bank}
use Rattle.sig_script.specs.declared.grammar.ViewKind.{ViewKind}

abbrev pub is_within : ℕ → ℕ → Items → Bool
is_within least most values = nat_le least (item_count values) && nat_le (item_count values) most

abbrev pub length_fault : ℕ → ℕ → Items → Option (List ℕ)
length_fault least most values = here_unless (is_within least most values)

-- ---- expressions

-- the bank of a form has 1 to 16 members
abbrev pub is_no_bank : Part → Data → Bool
is_no_bank (Bank class) value = not (is_within 1 16 (items_in value))
is_no_bank _ value = false

-- at most 16 expressions within one another
abbrev pub limits : Visit
limits = record { refuses = λ depth class value. nat_lt 16 depth; refuses_list = is_no_bank; fault = λ part value. None }

-- a share or view has at most 64 leaves; then come its expression's limits, below the name of its field
abbrev pub shown_limits : List ℕ → Class → Data → Option (List ℕ)
shown_limits name class value = option_or (here_unless (nat_le (expression_leaves class value) 64)) (below name (expression_fault limits class value))

-- ---- sources, shares, writers and views

abbrev pub content_limit : Kind → Data → Option (List ℕ)
content_limit kind.Cell value = None
content_limit other value = length_fault 0 4096 (items_in value)

abbrev pub source_limits : Data → Option (List ℕ)
source_limits value = option_map_or (λ (field : Kind × Data). below (kind_name field.0) (content_limit field.0 field.1)) (content_field (members_in value)) None

abbrev pub share_limits : Data → Option (List ℕ)
share_limits value = shown_limits (codes "signal") class.Signal (value_at (codes "signal") (members_in value))

abbrev pub operation_limit : Operation → Data → Option (List ℕ)
operation_limit Replace value = length_fault 0 4096 (items_in value)
operation_limit Load value = length_fault 0 4096 (items_in value)
operation_limit _ value = None

abbrev pub edit_limits : Data → Option (List ℕ)
edit_limits value = option_map_or (λ (field : Operation × Data). below (operation_name field.0) (operation_limit field.0 field.1)) (operation_field (members_in value)) None

abbrev pub writer_limits : Data → Option (List ℕ)
writer_limits value =
    let edits = list_at (codes "edits") (members_in value) in
    below (codes "edits") (option_or (length_fault 0 4096 edits) (first_in (λ place. edit_limits) edits))

abbrev pub view_limits : Data → Option (List ℕ)
view_limits value = option_map_or (λ (field : ViewKind × Data). shown_limits (view_kind_name field.0) (class_of_view field.0) field.1) (view_field (members_in value)) None

-- ---- the document

abbrev pub list_limits : List ℕ → ℕ → ℕ → (Data → Option (List ℕ)) → Members → Option (List ℕ)
list_limits name least most fault members =
    below name (option_or (length_fault least most (list_at name members)) (first_in (λ place. fault) (list_at name members)))

abbrev pub limits_fault : Members → Option (List ℕ)
limits_fault members = first_of (list_limits (codes "sources") 1 16 source_limits members
    ∷ list_limits (codes "shares") 0 8 share_limits members
    ∷ list_limits (codes "writers") 0 16 writer_limits members
    ∷ list_limits (codes "views") 1 16 view_limits members
    ∷ list_limits (codes "schedule") 0 65536 (λ value. None) members ∷ [])
