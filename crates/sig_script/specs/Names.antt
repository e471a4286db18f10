-- The first fault of a name: one that was used before, or that doesn't stand for what is asked.
use Rattle.std.specs.Prelude.{ℕ, ◌+◌, List, [], ◌∷◌, ◌++◌, take, Bool, true, false, nat_eq, if◌then◌else◌, Option, None, Some, is_none, codes}
use Rattle.std.specs.Cmp.Lexicographic.{pointwise}
use Rattle.std.specs.Option.{option_map_or, option_or}
use Rattle.sig_diff.specs.declared.contents.Kind.{Kind}
use Rattle.sig_diff.specs.declared.contents.Kind.TheVariants as kind
use Rattle.serde_json.specs.Data.{Data, Items, no_items, item, Members}
use Rattle.sig_script.specs.Fields.{item_count, list_at, members_in, text_in, value_at}
use Rattle.sig_script.specs.Grammar.{class_of_view, content_field, kind_for, operation_field, view_field, view_kind_name}
use Rattle.sig_script.specs.Paths.{below, first_in, first_of, here_unless}
use Rattle.sig_script.specs.Walks.{Visit, expression_fault}
use Rattle.sig_script.specs.declared.grammar.Class.TheVariants as class
use Rattle.sig_script.specs.declared.grammar.Meaning.{Meaning}
use Rattle.sig_script.specs.declared.grammar.Meaning.TheVariants.{Source, Share, Writer, View}
use Rattle.sig_script.specs.declared.grammar.Operation.{Operation}
use Rattle.sig_script.specs.declared.grammar.Part.{Part}
use Rattle.sig_script.specs.declared.grammar.Part.TheVariants.{Name}
use Rattle.sig_script.specs.declared.grammar.ViewKind.{ViewKind}

-- ---- what names stand for

-- what a name stands for among some names: the first of them counts
abbrev pub meaning : List (List ℕ × Meaning) → List ℕ → Option Meaning
meaning [] name = None
meaning (named ∷ names) name = if pointwise nat_eq named.0 name then Some named.1 else meaning names name

abbrev pub name_in : Data → List ℕ
name_in value = text_in (value_at (codes "name") (members_in value))

abbrev pub kind_in : Data → Kind
kind_in value = option_map_or (λ (field : Kind × Data). field.0) (content_field (members_in value)) kind.Cell

-- the names of a list's objects, the first of which has this number
abbrev pub names_from : (ℕ → Data → Meaning) → ℕ → Items → List (List ℕ × Meaning)
names_from means number no_items = []
names_from means number (item value values) = (name_in value, means number value) ∷ names_from means (number + 1) values

-- all names of a document: its sources', its shares', its writers' and its views'
abbrev pub all_names : Members → List (List ℕ × Meaning)
all_names members =
    names_from (λ number value. Source number (kind_in value)) 0 (list_at (codes "sources") members)
    ++ names_from (λ number value. Share number) 0 (list_at (codes "shares") members)
    ++ names_from (λ number value. Writer number) 0 (list_at (codes "writers") members)
    ++ names_from (λ number value. View number) 0 (list_at (codes "views") members)

-- whether a name may stand where a source of a kind is asked
abbrev pub is_source : Kind → Meaning → Bool
is_source kind.Cell (Source number kind.Cell) = true
is_source kind.Vector (Source number kind.Vector) = true
is_source kind.Map (Source number kind.Map) = true
is_source kind.Cell (Share number) = true
is_source _ _ = false

-- whether it may stand where one is edited
abbrev pub is_edited : Kind → Meaning → Bool
is_edited kind (Share number) = false
is_edited kind other = is_source kind other

-- whether it may stand in a schedule
abbrev pub is_scheduled : Meaning → Bool
is_scheduled (Source number kind) = false
is_scheduled _ = true

-- ---- expressions

module _ (names : List (List ℕ × Meaning)) where
  abbrev pub known_fault : (Meaning → Bool) → Data → Option (List ℕ)
  known_fault fits value = here_unless (option_map_or fits (meaning names (text_in value)) false)

  abbrev pub part_name : Part → Data → Option (List ℕ)
  part_name (Name kind) value = known_fault (is_source kind) value
  part_name _ value = None

  abbrev pub known_names : Visit
  known_names = record { refuses = λ depth class value. false; refuses_list = λ part value. false; fault = part_name }

  -- a name that was used before
  abbrev pub new_name_fault : Data → Option (List ℕ)
  new_name_fault value = below (codes "name") (here_unless (is_none (meaning names (name_in value))))

  -- ---- sources, shares, writers and views, after these names

  abbrev pub share_names : Data → Option (List ℕ)
  share_names value = option_or (new_name_fault value) (below (codes "signal") (expression_fault known_names class.Signal (value_at (codes "signal") (members_in value))))

  abbrev pub edit_names : Data → Option (List ℕ)
  edit_names value =
      option_map_or (λ (field : Operation × Data). below (codes "on") (known_fault (is_edited (kind_for field.0)) (value_at (codes "on") (members_in value))))
      (operation_field (members_in value)) None

  abbrev pub writer_names : Data → Option (List ℕ)
  writer_names value = option_or (new_name_fault value) (below (codes "edits") (first_in (λ place. edit_names) (list_at (codes "edits") (members_in value))))

  -- what a view shows
  abbrev pub shown_names : Data → Option (List ℕ)
  shown_names value =
      option_map_or (λ (field : ViewKind × Data). below (view_kind_name field.0) (expression_fault known_names (class_of_view field.0) field.1)) (view_field (members_in value)) None

  abbrev pub view_names : Data → Option (List ℕ)
  view_names value = option_or (new_name_fault value) (shown_names value)

-- ---- the document

-- the first fault in a list whose first value comes after so many names
abbrev pub after_names : List (List ℕ × Meaning) → ℕ → (List (List ℕ × Meaning) → Data → Option (List ℕ)) → Items → Option (List ℕ)
after_names names number fault values = first_in (λ place value. fault (take (number + place) names) value) values

abbrev pub names_fault : Members → Option (List ℕ)
names_fault members =
    let names = all_names members in
    let sources = item_count (list_at (codes "sources") members) in
    let shares = sources + item_count (list_at (codes "shares") members) in
    let writers = shares + item_count (list_at (codes "writers") members) in
    first_of (below (codes "sources") (after_names names 0 new_name_fault (list_at (codes "sources") members))
    ∷ below (codes "shares") (after_names names sources share_names (list_at (codes "shares") members))
    ∷ below (codes "writers") (after_names names shares writer_names (list_at (codes "writers") members))
    ∷ below (codes "views") (after_names names writers view_names (list_at (codes "views") members))
    ∷ below (codes "schedule") (first_in (λ place. known_fault names is_scheduled) (list_at (codes "schedule") members)) ∷ [])
