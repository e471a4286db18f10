-- A loop over a map's pairs for the first fault: none was found so far, and what is left after the last key.
use Rattle.std.proofs.Common.{◌≡◌, ℕ, ◌+◌, ◌<◌, ◌≤◌, ℤ, List, length, get_or, drop, decimal, Option, None, refl, ◌∙◌}
use Rattle.std.proofs.lemmas.List.{drop_all}
use Rattle.serde_json.specs.View.{view, items_view}
use Rattle.serde_json.specs.declared.value.Value.{Value}
use Rattle.sig_script.proofs.Reading.{next}
use Rattle.sig_script.specs.Finding.{Stops}
use Rattle.sig_script.specs.Paths.{below}
use Rattle.sig_script.specs.Shapes.{entries_from, entry_fault, key_of}
use Rattle.sig_script.specs.declared.paths.Stop.{Stop}
use Rattle.sig_script.specs.declared.paths.Stop.TheVariants.{Fault, NoMemory}

module _ (values : List Value) where
  pub record RisesSoFar (last : Option ℤ) (place : ℕ) : Type 0 where
    pub is : entries_from None 0 (items_view values) ≡ entries_from last place (items_view (drop place values))

  pub begins : RisesSoFar None 0
  begins = record { is = refl }

  pub goes_on : (last key : Option ℤ) (place : ℕ) (value : Value) → RisesSoFar last place → place < length values → value ≡ get_or values place value
      → below (decimal place) (entry_fault last (view value)) ≡ None → key ≡ key_of (view value) → RisesSoFar key (place + 1)
  goes_on last key place value so_far within here none read = record { is = so_far.is ∙ rw (next values place value within here, none, read) }

  pub stops : (last : Option ℤ) (place : ℕ) (value : Value) (stop : Stop) → RisesSoFar last place → place < length values → value ≡ get_or values place value
      → Stops stop (below (decimal place) (entry_fault last (view value))) → Stops stop (entries_from None 0 (items_view values))
  stops last place value (Fault path) so_far within here found = so_far.is ∙ rw (next values place value within here, found)
  stops last place value NoMemory so_far within here found = tt

  pub ends : (last : Option ℤ) (place : ℕ) → RisesSoFar last place → length values ≤ place → entries_from None 0 (items_view values) ≡ None
  ends last place so_far past = so_far.is ∙ rw (drop_all place values past)

pub ruleset rising = (begins, goes_on, stops, ends)
