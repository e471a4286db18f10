-- Sources by their plan and their history.
use Rattle.std.specs.Prelude.{◌≡◌, ℕ, ◌+◌, ◌<◌, ◌≤◌, ◌^◌, ◌==◌, List, [], ◌∷◌, ◌++◌, length, map, Bool, true, false, if◌then◌else◌}
use Rattle.std.specs.List.{list_any, list_all}
use Rattle.sig_diff.specs.declared.contents.Content.{Content}
use Rattle.sig_hist.specs.Changes.{IsInOrder, size_of}
use Rattle.sig_hist.specs.Histories.{state, IsLegal, LeavesComeLast, edits_made, own_entries, has_left}
use Rattle.sig_hist.specs.declared.edits.Entry.{Entry}
use Rattle.sig_hist.specs.declared.plans.Allowance.{Allowance}
use Rattle.sig_hist.specs.declared.plans.SourcePlan.{SourcePlan}
use Rattle.sig_hist.specs.declared.plans.EditError.{EditError}
use Rattle.sig_hist.specs.declared.plans.EditError.TheVariants.{Spent, NoMemory}

-- ---- plans

abbrev pub writers_of : List Allowance → List ℕ
writers_of allow = map (λ allowance. allowance.writer) allow

abbrev pub is_among : ℕ → List ℕ → Bool
is_among x xs = list_any (λ y. y == x) xs

abbrev pub AreDistinct : List ℕ → Type 0
AreDistinct [] = Unit {0}
AreDistinct (x ∷ xs) = (is_among x xs ≡ false) × AreDistinct xs

-- how many edits a writer may make
abbrev pub allowed : ℕ → List Allowance → ℕ
allowed writer [] = 0
allowed writer (allowance ∷ others) = if allowance.writer == writer then allowance.edits else allowed writer others

-- how many entries all writers may make: their edits, and a leave each
abbrev pub room_of : List Allowance → ℕ
room_of [] = 0
room_of (allowance ∷ others) = allowance.edits + 1 + room_of others

pub record IsPlan (plan : SourcePlan) : Type 0 where
  pub in_order : IsInOrder plan.start
  pub within_cap : size_of plan.start ≤ plan.cap
  pub distinct : AreDistinct (writers_of plan.allow)
  pub room : room_of plan.allow < 2 ^ 32

-- ---- sources

pub record Source : Type 0 where
  pub plan : SourcePlan
  pub history : List Entry

-- the content after all entries
abbrev pub content_of : Source → Content
content_of source = state source.plan.start source.plan.cap source.history

abbrev pub entered : Source → Entry → Source
entered source entry = record source { history = source.history ++ entry ∷ [] }

-- the caller is one of the writers and hasn't left
pub record IsIn (source : Source) (caller : ℕ) : Type 0 where
  pub is_writer : is_among caller (writers_of source.plan.allow) ≡ true
  pub stays : has_left caller source.history ≡ false

-- how many edits a writer that hasn't left has made
abbrev pub made : Source → ℕ → ℕ
made source caller = length (own_entries caller source.history)

-- a caller hasn't made all its edits
pub record MayEdit (source : Source) (caller : ℕ) : Type 0 where
  pub made_fewer : made source caller < allowed caller source.plan.allow

-- why an edit was refused: the caller has made all that it may, or it hasn't and memory was wanting
abbrev pub IsRefusal : Source → ℕ → EditError → Type 0
IsRefusal source caller (Spent edits) = (edits ≡ made source caller) × (edits ≡ allowed caller source.plan.allow)
IsRefusal source caller NoMemory = made source caller < allowed caller source.plan.allow

-- what holds of every source at any time
pub record IsSource (source : Source) : Type 0 where
  pub plan : IsPlan source.plan
  pub within_cap : size_of (content_of source) ≤ source.plan.cap
  pub legal : IsLegal source.plan.start source.plan.cap source.history
  pub by_writers : list_all (λ entry. is_among entry.caller (writers_of source.plan.allow)) source.history ≡ true
  pub room : length source.history ≤ room_of source.plan.allow
  pub allowances : (caller : ℕ) → edits_made caller source.history ≤ allowed caller source.plan.allow
  pub leaves_last : LeavesComeLast source.history
