-- How a run of the program ends: its status, what it read, and what it wrote.
use Rattle.std.specs.Prelude.{◌≡◌, ℕ, ◌⊎◌, ◌≤◌, List, [], ◌∷◌, ◌++◌, length, codes, decimal, Option, None, Some, IfSome, Ok}
use Rattle.std.specs.Io.KnownBytes.{IsAtEnd}
use Rattle.sig_report.specs.Lawful.{Lawful}
use Rattle.sig_report.specs.Playing.{play}
use Rattle.sig_report.specs.Text.{report_text}
use Rattle.sig_report.specs.declared.report.Report.{Report}
use Rattle.sig_run.specs.declared.program.Answer.{Answer}
use Rattle.sig_run.specs.declared.program.Answer.TheVariants.{Report as Reports, Refusal}
use Rattle.sig_run.specs.declared.program.Status.{Status}
use Rattle.sig_run.specs.declared.program.Status.TheVariants as status
use Rattle.sig_script.specs.Reading.{Reads, IsRefusal as IsRefusedBy}
use Rattle.sig_script.specs.declared.refusals.ScriptError.{ScriptError}
use Rattle.sig_script.specs.declared.refusals.ScriptError.TheVariants.{NotJson, Shape, Name, Limit, TooBig, Schedule, NotBuilt, NoMemory}
use Rattle.sig_script.specs.declared.types.Script.{Script}

-- the number with which the process ends
abbrev pub code_of : Status → ℕ
code_of status.Done = 0
code_of status.Usage = 1
code_of status.ReadFault = 2
code_of status.WriteFault = 3
code_of status.Script = 4
code_of status.Memory = 5
code_of status.TooLarge = 6

-- ---- what is written for the bytes of an input

-- the text is that of a report which is lawful for the script, and is the one of its play
pub record IsReportOf (script : Script) (text : List ℕ) : Type 0 where
  pub report : Report
  pub lawful : Lawful script report
  pub played : report ≡ play script
  pub is_text : text ≡ report_text script report

-- the bytes are read as a script, and the text is that of its report
pub record IsReport (bytes text : List ℕ) : Type 0 where
  pub script : Script
  pub reads : Reads bytes (Ok script)
  pub reports : IsReportOf script text

-- the line of a refusal by its number, with its path or place where that isn't empty
abbrev pub refusal_line : ℕ → List ℕ → List ℕ
refusal_line number [] = codes "script " ++ decimal number ++ codes "\n"
refusal_line number (byte ∷ path) = codes "script " ++ decimal number ++ codes " " ++ (byte ∷ path) ++ codes "\n"

-- the line of each refusal. Want of memory has none
abbrev pub line_of : ScriptError → Option (List ℕ)
line_of NotJson = Some (refusal_line 1 [])
line_of (Shape path) = Some (refusal_line 2 path)
line_of (Name path) = Some (refusal_line 3 path)
line_of (Limit path) = Some (refusal_line 4 path)
line_of (TooBig path) = Some (refusal_line 5 path)
line_of (Schedule place) = Some (refusal_line 6 (decimal place))
line_of (NotBuilt path) = Some (refusal_line 8 path)
line_of NoMemory = None

-- the bytes are refused, and the text is the line of the refusal
pub record IsRefusal (bytes text : List ℕ) : Type 0 where
  pub refusal : ScriptError
  pub refuses : IsRefusedBy bytes refusal
  pub is_line : line_of refusal ≡ Some text

abbrev pub IsAnswer : List ℕ → List ℕ → Type 0
IsAnswer bytes text = IsReport bytes text ⊎ IsRefusal bytes text

-- ---- what a run reads and writes

-- the whole input was read, to its end, and these are its bytes
pub record HasRead (before now : Option (List ℕ)) (bytes : List ℕ) : Type 0 where
  pub whole : IfSome before (λ left. bytes ≡ left)
  pub end : IsAtEnd now
  pub within : length bytes ≤ 16777216

-- the whole input was read, and a text for its bytes went to the output as Writes says
pub record Answered (IsText : List ℕ → List ℕ → Type 0) (before now : Option (List ℕ)) (Writes : List ℕ → Type 0) : Type 0 where
  pub bytes : List ℕ
  pub text : List ℕ
  pub read : HasRead before now bytes
  pub is_text : IsText bytes text
  pub writes : Writes text

-- ---- the code's answers

abbrev pub Answers : List ℕ → Answer → Type 0
Answers bytes (Reports text) = IsReport bytes text.items
Answers bytes (Refusal line) = IsRefusal bytes line.items

-- with these nothing is written
abbrev pub IsSilent : Status → Type 0
IsSilent ended = (ended ≡ status.ReadFault) ⊎ (ended ≡ status.Memory) ⊎ (ended ≡ status.TooLarge)
