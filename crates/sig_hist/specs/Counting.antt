-- How a source counts what its writers may still make.
use Rattle.std.specs.Prelude.{◌≡◌, ℕ, suc, ◌+◌, ◌<◌, ◌≤◌, ◌==◌, List, [], ◌∷◌, length, map, Bool, true, false, if◌then◌else◌}
use Rattle.std.specs.List.{sum_by}
use Rattle.sig_diff.specs.declared.contents.Content.{Content}
use Rattle.sig_hist.specs.Histories.{own_entries, has_left}
use Rattle.sig_hist.specs.Sources.{Source, IsSource, content_of, room_of}
use Rattle.sig_hist.specs.declared.edits.Entry.{Entry}
use Rattle.sig_hist.specs.declared.plans.Allowance.{Allowance}
use Rattle.sig_hist.specs.declared.writers.Writer.{Writer}

abbrev pub allowances_of : List Writer → List Allowance
allowances_of writers = map (λ writer. writer.allowance) writers

-- a writer before it has made an edit
abbrev pub starting : Allowance → Writer
starting allowance = record { allowance = allowance; left = allowance.edits + 1 }

-- the place of the writer with a number
abbrev pub place_of : ℕ → List Writer → ℕ
place_of number [] = 0
place_of number (writer ∷ writers) = if writer.allowance.writer == number then 0 else suc (place_of number writers)

pub record IsPlace (number : ℕ) (writers : List Writer) (place : ℕ) : Type 0 where
  pub of_number : place ≡ place_of number writers
  pub within : place < length writers

-- how many entries all of them may still make
abbrev pub all_left : List Writer → ℕ
all_left writers = sum_by (λ writer. writer.left) writers

-- by whether the writer is out, how many entries it made, and how many edits it may make: how many entries it may still make
abbrev pub IsLeft : Bool → ℕ → ℕ → ℕ → Type 0
IsLeft true entries edits left = left ≡ 0
IsLeft false entries edits left = (0 < left) × (entries + left ≡ edits + 1)

abbrev pub IsCounted : List Entry → Writer → Type 0
IsCounted history writer =
    IsLeft (has_left writer.allowance.writer history) (length (own_entries writer.allowance.writer history)) writer.allowance.edits writer.left

abbrev pub AreCounted : List Entry → List Writer → Type 0
AreCounted history [] = Unit {0}
AreCounted history (writer ∷ writers) = IsCounted history writer × AreCounted history writers

-- by whether a writer leaves: how many entries it may make before and after an entry
abbrev pub Falls : Bool → ℕ → ℕ → Type 0
Falls true before now = now ≡ 0
Falls false before now = (0 < now) × (now + 1 ≡ before)

-- what a source keeps: its content and its writers are those of its history, which has room for all that may come
pub record IsKept (source : Source) (cap : ℕ) (content : Content) (writers : List Writer) (capacity : ℕ) : Type 0 where
  pub of_source : IsSource source
  pub of_cap : cap ≡ source.plan.cap
  pub of_content : content ≡ content_of source
  pub of_writers : allowances_of writers ≡ source.plan.allow
  pub counted : AreCounted source.history writers
  pub left : length source.history + all_left writers ≤ room_of source.plan.allow
  pub room : room_of source.plan.allow ≤ capacity
