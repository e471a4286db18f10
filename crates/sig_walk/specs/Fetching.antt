-- How the leaves of a view are fetched before its first row.
use Rattle.std.specs.Prelude.{◌≡◌, ℕ, ◌+◌, ◌<◌, ◌≤◌, ℤ, pos, List, [], ◌∷◌, ◌++◌, length, replicate, get_or, slice_get, slice_index, slice_set, Bool, true, false, Option, None, Some, unwrap_or}
use Rattle.sig_diff.specs.declared.contents.Content.{Content}
use Rattle.sig_diff.specs.declared.contents.Content.TheVariants.{Cell, Vector, Map}
use Rattle.sig_diff.specs.declared.differences.VecDiff.{VecDiff}
use Rattle.sig_diff.specs.declared.differences.VecDiff.TheVariants.{Replace}
use Rattle.sig_diff.specs.declared.map_differences.MapDiff.{MapDiff}
use Rattle.sig_diff.specs.declared.map_differences.MapDiff.TheVariants as changed
use Rattle.sig_hist.specs.Ports.{PortState}
use Rattle.sig_hist.specs.Sources.{content_of}
use Rattle.sig_hist.specs.declared.ports.Entering.{Entering}
use Rattle.sig_hist.specs.declared.ports.Entering.TheVariants as entering
use Rattle.sig_hist.specs.Ways.{contents_at}
use Rattle.sig_walk.specs.Walking.{HasGone, IsFresh, Progress, first_word, kept_first, met_since, seen_source, sources_in}
use Rattle.sig_walk.specs.declared.walk.Mark.TheVariants.{Skipped}

-- before the first walk no leaf has passed an entry
abbrev pub at_start : ℕ → ℕ → Progress
at_start first count = record { first = first; positions = replicate count 0; marks = replicate count Skipped; moved = false; held = None }

-- ---- contents

-- the content that has entered whole
abbrev pub items_entered : List (VecDiff ℤ) → List ℤ
items_entered (Replace items ∷ []) = items
items_entered _ = []

abbrev pub entries_entered : List (MapDiff ℤ) → List (ℤ × ℤ)
entries_entered (changed.Replace entries ∷ []) = entries
entries_entered _ = []

abbrev pub content_entered : Entering → Content
content_entered entering.Nothing = Cell (pos 0)
content_entered (entering.Value x) = Cell x
content_entered (entering.Vector diffs) = Vector (items_entered diffs)
content_entered (entering.Map diffs) = Map (entries_entered diffs)

-- whether there is a place for a leaf's content, and nothing in it
abbrev pub is_nothing : Option (Option Content) → Bool
is_nothing (Some None) = true
is_nothing _ = false

abbrev pub is_missing : List (Option Content) → ℕ → Bool
is_missing contents leaf = is_nothing (slice_get contents leaf)

-- what the leaves hold by what was fetched
abbrev pub content_in : List (Option Content) → ℕ → Content
content_in contents leaf = unwrap_or (get_or contents leaf None) (Cell (pos 0))

-- a place for each leaf, and in it nothing or what the leaf holds
pub record AreFetched (s : ℕ → Content) (count : ℕ) (contents : List (Option Content)) : Type 0 where
  pub each : length contents ≡ count
  pub fetched : (leaf : ℕ) (content : Content) → slice_get contents leaf ≡ Some (Some content) → content ≡ s leaf

-- ---- one leaf

-- a leaf was fetched: it has come to the end of its source's history, with the content there
pub record IsGot (s t : PortState) (old new : Progress) (leaf : ℕ) (content : Content) : Type 0 where
  pub positions : new.positions ≡ slice_set old.positions leaf (length (seen_source t (old.first + leaf)).history)
  pub known : s.count (s.source (old.first + leaf)) ≤ length (seen_source t (old.first + leaf)).history
  pub held : new.held ≡ old.held
  pub met : t.met ≡ s.met
  pub content_is : content ≡ content_of (seen_source t (old.first + leaf))

-- its source was found held
pub record IsRefused (s t : PortState) (old new : Progress) (leaf : ℕ) : Type 0 where
  pub word : ℕ
  pub positions : new.positions ≡ old.positions
  pub held : new.held ≡ kept_first old.held word
  pub met : t.met ≡ s.met ++ record { source = s.source (old.first + leaf); word = word } ∷ []

abbrev pub IsTried : PortState → PortState → Progress → Progress → ℕ → Option Content → Type 0
IsTried s t old new leaf (Some content) = IsGot s t old new leaf content
IsTried s t old new leaf None = IsRefused s t old new leaf

-- ---- all leaves

-- by whether a held word was found: a leaf before this one is missing, or none is
abbrev pub LacksBy : Option ℕ → List (Option Content) → ℕ → Type 0
LacksBy None contents next = (leaf : ℕ) → leaf < next → is_missing contents leaf ≡ false
LacksBy (Some word) contents next = (leaf : ℕ) × (leaf < next) × (is_missing contents leaf ≡ true)

-- the leaves before this one were fetched where they were missing
pub record HasTried (s t : PortState) (old new : Progress) (before after : List (Option Content)) (next : ℕ) : Type 0 where
  pub gone : HasGone s t old new
  pub are : AreFetched (contents_at (sources_in t new) new.positions) (length before) after
  pub stays : (leaf : ℕ) → is_missing before leaf ≡ false → slice_index new.positions leaf ≡ slice_index old.positions leaf
  pub later : (leaf : ℕ) → next ≤ leaf → slice_get after leaf ≡ slice_get before leaf
  pub fresh : (leaf : ℕ) → leaf < next → is_missing before leaf ≡ true → IsFresh s t new leaf
  pub held : new.held ≡ first_word (met_since s t)
  pub lacks : LacksBy new.held after next
