-- Scripts that are read can't get too big.
use Rattle.std.proofs.Common.{◌≡◌, ℕ, List, Option, None, Some, Result, Ok, refl, subst}
use Rattle.sig_script.specs.Building.{script_of}
use Rattle.sig_script.specs.Built.{unbuilt}
use Rattle.sig_script.specs.Fields.{members_in}
use Rattle.sig_script.specs.Limits.{limits_fault}
use Rattle.sig_script.specs.Names.{names_fault}
use Rattle.sig_script.specs.Reading.{Reads, built_script, checked_script, limited_script, named_script, scheduled_script, unless_fault}
use Rattle.sig_script.specs.Schedules.{schedule_fault}
use Rattle.sig_script.specs.Shapes.{shape_fault}
use Rattle.sig_script.specs.Sizes.{size_fault}
use Rattle.sig_script.specs.declared.refusals.ScriptError.{ScriptError}
use Rattle.sig_script.specs.declared.refusals.ScriptError.TheVariants.{Limit, Name, NotBuilt, Schedule, Shape, TooBig}
use Rattle.sig_script.specs.declared.types.Script.{Script}

unless_ok : {T : Type 0} (refusal : T → ScriptError) (fault : Option T) (next : Result Script ScriptError) (script : Script) → unless_fault refusal fault next ≡ Ok script → (fault ≡ None) × (next ≡ Ok script)
unless_ok refusal None next script is = (refl, is)
unless_ok refusal (Some fault) next script is = cc

pub sized_when_read : (bytes : List ℕ) (script : Script) → Reads bytes (Ok script) → size_fault script ≡ None
sized_when_read bytes script reads =
    let members = members_in reads.document in
    let named = (unless_ok Shape (shape_fault reads.document) (named_script members) script reads.reading).1 in
    let limited = (unless_ok Name (names_fault members) (limited_script members) script named).1 in
    let checked = (unless_ok Limit (limits_fault members) (checked_script (script_of members)) script limited).1 in
    let sized = unless_ok TooBig (size_fault (script_of members)) (scheduled_script (script_of members)) script checked in
    let scheduled = (unless_ok Schedule (schedule_fault (script_of members)) (built_script (script_of members)) script sized.1).1 in
    let built = (unless_ok NotBuilt (unbuilt (script_of members)) (Ok (script_of members)) script scheduled).1 in
    let same : script_of members ≡ script = cc in
    subst (λ (script : Script). size_fault script ≡ None) same sized.0
