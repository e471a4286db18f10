-- How the code's walks stand for those of the definitions.
use Rattle.std.specs.Prelude.{◌≡◌, ℕ, List, Option, None, Some, Result, Ok, Err}
use Rattle.sig_script.specs.declared.paths.Stop.{Stop}
use Rattle.sig_script.specs.declared.paths.Stop.TheVariants.{Fault, NoMemory}

-- the walk finds this fault, or none. Want of memory says nothing of it
abbrev pub Stops : Stop → Option (List ℕ) → Type 0
Stops (Fault path) fault = fault ≡ Some path
Stops NoMemory fault = Unit {0}

abbrev pub Finds : {T : Type 0} → Result T Stop → Option (List ℕ) → Type 0
Finds (Ok value) fault = fault ≡ None
Finds (Err stop) fault = Stops stop fault
