-- What the bytes of a document say: a script, or the first refusal in the order of the refusals' numbers.
use Rattle.std.specs.Prelude.{◌≡◌, ℕ, List, Option, None, Some, Result, Ok, Err, IsUtf8}
use Rattle.serde_json.specs.Data.{Data, Members}
use Rattle.serde_json.specs.Read.{read}
use Rattle.sig_script.specs.Building.{script_of}
use Rattle.sig_script.specs.Built.{unbuilt}
use Rattle.sig_script.specs.Fields.{members_in}
use Rattle.sig_script.specs.Limits.{limits_fault}
use Rattle.sig_script.specs.Names.{names_fault}
use Rattle.sig_script.specs.Schedules.{schedule_fault}
use Rattle.sig_script.specs.Shapes.{shape_fault}
use Rattle.sig_script.specs.Sizes.{size_fault}
use Rattle.sig_script.specs.declared.refusals.ScriptError.{ScriptError}
use Rattle.sig_script.specs.declared.refusals.ScriptError.TheVariants.{NotJson, Shape, Name, Limit, TooBig, Schedule, NotBuilt, NoMemory}
use Rattle.sig_script.specs.declared.types.Script.{Script}

-- refused where there is a fault, and else as it goes on
abbrev pub unless_fault : {T : Type 0} → (T → ScriptError) → Option T → Result Script ScriptError → Result Script ScriptError
unless_fault refusal (Some fault) next = Err (refusal fault)
unless_fault refusal None next = next

abbrev pub built_script : Script → Result Script ScriptError
built_script script = unless_fault NotBuilt (unbuilt script) (Ok script)

abbrev pub scheduled_script : Script → Result Script ScriptError
scheduled_script script = unless_fault Schedule (schedule_fault script) (built_script script)

abbrev pub checked_script : Script → Result Script ScriptError
checked_script script = unless_fault TooBig (size_fault script) (scheduled_script script)

abbrev pub limited_script : Members → Result Script ScriptError
limited_script members = unless_fault Limit (limits_fault members) (checked_script (script_of members))

abbrev pub named_script : Members → Result Script ScriptError
named_script members = unless_fault Name (names_fault members) (limited_script members)

-- the script that a JSON value says, or the first refusal
abbrev pub reading : Data → Result Script ScriptError
reading document = unless_fault Shape (shape_fault document) (named_script (members_in document))

-- the bytes are a JSON document that is read so
pub record Reads (bytes : List ℕ) (answer : Result Script ScriptError) : Type 0 where
  pub is_text : IsUtf8 bytes
  pub document : Data
  pub is_read : read bytes ≡ Some document
  pub reading : reading document ≡ answer

-- the bytes are no JSON document
abbrev pub IsNoDocument : List ℕ → Type 0
IsNoDocument bytes = IsUtf8 bytes → read bytes ≡ None

-- why the bytes were refused. Want of memory says nothing of them
abbrev pub IsRefusal : List ℕ → ScriptError → Type 0
IsRefusal bytes NotJson = IsNoDocument bytes
IsRefusal bytes NoMemory = Unit {0}
IsRefusal bytes refusal = Reads bytes (Err refusal)
