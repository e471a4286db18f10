-- Faults of a document, by their paths: the fields and places from the root, each after a `/`.
use Rattle.std.specs.Prelude.{ℕ, ◌+◌, List, [], ◌∷◌, ◌++◌, Bool, true, false, Option, None, Some, option_map, codes, decimal}
use Rattle.std.specs.Option.{option_map_or, option_or}
use Rattle.serde_json.specs.Data.{Data, Items, no_items, item, Members}
use Rattle.serde_json.specs.Find.{get_member}

-- a fault at the value itself, unless a test is passed
abbrev pub here_unless : Bool → Option (List ℕ)
here_unless true = None
here_unless false = Some []

-- a fault below a step of the path
abbrev pub below : List ℕ → Option (List ℕ) → Option (List ℕ)
below step fault = option_map (λ path. codes "/" ++ step ++ path) fault

-- the first of some faults
abbrev pub first_of : List (Option (List ℕ)) → Option (List ℕ)
first_of [] = None
first_of (fault ∷ faults) = option_or fault (first_of faults)

-- the first fault among a list's values, the first of which stands at this place
abbrev pub first_from : (ℕ → Data → Option (List ℕ)) → ℕ → Items → Option (List ℕ)
first_from fault place no_items = None
first_from fault place (item value values) = option_or (below (decimal place) (fault place value)) (first_from fault (place + 1) values)

abbrev pub first_in : (ℕ → Data → Option (List ℕ)) → Items → Option (List ℕ)
first_in fault values = first_from fault 0 values

-- the fault in a field, if the object has it
abbrev pub in_field : List ℕ → (Data → Option (List ℕ)) → Members → Option (List ℕ)
in_field name fault members = option_map_or (λ value. below name (fault value)) (get_member name members) None
