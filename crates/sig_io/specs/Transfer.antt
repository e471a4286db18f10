-- What a call took from a source or gave to a sink, where these tell their bytes, and the two in memory.
use Rattle.std.specs.Prelude.{ℕ, ◌≤◌, List, length, take, Option}
use Rattle.std.specs.Io.KnownBytes.{Consumes, Appends}

-- reads took so many bytes, as the count says
abbrev pub Takes : Option (List ℕ) → Option (List ℕ) → (ℕ → Type 0) → Type 0
Takes before now HasCount = (taken : List ℕ) × Consumes before now taken × HasCount (length taken)

-- writes appended a prefix of the text
abbrev pub AppendsPrefix : Option (List ℕ) → Option (List ℕ) → List ℕ → Type 0
AppendsPrefix before now text = (count : ℕ) × (count ≤ length text) × Appends before now (take count text)

-- bytes in memory that a source gives: what is left, the most that one call gives, the calls that fail by
-- their numbers from 1, and how many calls and faults there were
pub record Feed : Type 0 where
  pub left : List ℕ
  pub piece : ℕ
  pub fails : List ℕ
  pub calls : ℕ
  pub faults : ℕ

-- a page in memory that a sink fills: what was written, the most that it holds, and the rest as above
pub record Sheet : Type 0 where
  pub written : List ℕ
  pub room : ℕ
  pub piece : ℕ
  pub fails : List ℕ
  pub calls : ℕ
  pub faults : ℕ
