-- How the code's answers stand for those of the definitions.
use Rattle.std.specs.Prelude.{◌≡◌, Result, Ok, Err}
use Rattle.sig_script.specs.declared.refusals.ScriptError.{ScriptError}
use Rattle.sig_script.specs.declared.refusals.ScriptError.TheVariants.{NotJson, NoMemory}
use Rattle.sig_script.specs.declared.types.Script.{Script}

-- of a value that was read: it is JSON, and want of memory says nothing of the answer
abbrev pub Refuses : Result Script ScriptError → ScriptError → Type 0
Refuses answer NotJson = ⊥
Refuses answer NoMemory = Unit {0}
Refuses answer refusal = answer ≡ Err refusal

abbrev pub Answers : Result Script ScriptError → Result Script ScriptError → Type 0
Answers (Ok script) answer = answer ≡ Ok script
Answers (Err refusal) answer = Refuses answer refusal
