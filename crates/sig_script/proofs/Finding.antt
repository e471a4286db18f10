-- A loop over a list's values for the first fault: none was found so far, and what is left.
use Rattle.std.proofs.Common.{◌≡◌, ℕ, ◌+◌, ◌<◌, ◌≤◌, List, length, get_or, drop, decimal, Option, None, Some, refl, ◌∙◌}
use Rattle.std.proofs.lemmas.List.{drop_all}
use Rattle.std.specs.Option.{option_or}
use Rattle.serde_json.specs.Data.{Data, Items, no_items, item}
use Rattle.serde_json.specs.View.{view, items_view}
use Rattle.serde_json.specs.declared.value.Value.{Value}
use Rattle.sig_script.proofs.Reading.{next}
use Rattle.sig_script.specs.Finding.{Stops}
use Rattle.sig_script.specs.Paths.{below, first_from, first_in}
use Rattle.sig_script.specs.declared.paths.Stop.{Stop}
use Rattle.sig_script.specs.declared.paths.Stop.TheVariants.{Fault, NoMemory}

module _ (fault : ℕ → Data → Option (List ℕ)) (values : List Value) where
  pub record NoneSoFar (place : ℕ) : Type 0 where
    pub is : first_in fault (items_view values) ≡ first_from fault place (items_view (drop place values))

  pub begins : NoneSoFar 0
  begins = record { is = refl }

  pub goes_on : (place : ℕ) (value : Value) → NoneSoFar place → place < length values → value ≡ get_or values place value
      → below (decimal place) (fault place (view value)) ≡ None → NoneSoFar (place + 1)
  goes_on place value so_far within here none = record { is = so_far.is ∙ rw (next values place value within here, none) }

  pub stops : (place : ℕ) (value : Value) (stop : Stop) → NoneSoFar place → place < length values → value ≡ get_or values place value
      → Stops stop (below (decimal place) (fault place (view value))) → Stops stop (first_in fault (items_view values))
  stops place value (Fault path) so_far within here found = so_far.is ∙ rw (next values place value within here, found)
  stops place value NoMemory so_far within here found = tt

  pub ends : (place : ℕ) → NoneSoFar place → length values ≤ place → first_in fault (items_view values) ≡ None
  ends place so_far past = so_far.is ∙ rw (drop_all place values past)

pub ruleset finding = (begins, goes_on, stops, ends)

-- a list whose values have no faults has none
no_faults : (place : ℕ) (values : Items) → first_from (λ place value. None) place values ≡ None
no_faults place no_items = refl
no_faults place (item value values) = no_faults (place + 1) values

pub only_before : (fault : Option (List ℕ)) (values : Items) → option_or fault (first_in (λ place value. None) values) ≡ fault
only_before None values = no_faults 0 values
only_before (Some path) values = refl

pub last_of : (fault : Option (List ℕ)) → option_or fault None ≡ fault
last_of None = refl
last_of (Some path) = refl
