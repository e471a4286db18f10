-- How a view goes along what a port has seen of its leaves' sources: leaf i of the view is the port's leaf `first` + i.
use Rattle.std.specs.Prelude.{◌≡◌, ◌≢◌, ℕ, zero, suc, ◌+◌, ◌<◌, ◌≤◌, ◌^◌, ◌==◌, ℤ, List, [], ◌∷◌, length, take, drop, map, slice_index, slice_get, slice_set, Bool, true, false, Option, None, Some, All}
use Rattle.std.specs.List.{list_any}
use Rattle.sig_diff.specs.declared.differences.VecDiff.{VecDiff}
use Rattle.sig_diff.specs.declared.map_differences.MapDiff.{MapDiff}
use Rattle.sig_hist.specs.Entering.{list_entering, map_entering, number_entering}
use Rattle.sig_hist.specs.Histories.{is_closed}
use Rattle.sig_hist.specs.Ports.{GoesOn, IsSoundPort, PortState, is_open}
use Rattle.sig_hist.specs.Sources.{Source, is_among, writers_of}
use Rattle.sig_hist.specs.declared.ports.Condition.TheVariants.{Waiting}
use Rattle.sig_hist.specs.declared.ports.Entering.{Entering}
use Rattle.sig_hist.specs.declared.ports.Entering.TheVariants as entering
use Rattle.sig_hist.specs.declared.ports.Met.{Met}
use Rattle.sig_hist.specs.declared.ports.Version.{Version}
use Rattle.sig_hist.specs.Ways.{Way, before, passed, AreWithin, GoOn, leaf_source}
use Rattle.sig_walk.specs.declared.walk.Mark.{Mark}
use Rattle.sig_walk.specs.declared.walk.Mark.TheVariants.{Skipped, Open, Ended}

-- ---- what a port has seen

-- the source of a leaf of the port, as far as the port has seen it
abbrev pub seen_source : PortState → ℕ → Source
seen_source s leaf = record { plan = s.plan (s.source leaf); history = s.seen (s.source leaf) }

-- the sources of so many leaves, the first of which has this number
abbrev pub seen_sources : PortState → ℕ → ℕ → List Source
seen_sources s first zero = []
seen_sources s first (suc count) = seen_source s first ∷ seen_sources s (first + 1) count

-- whether all writers of a leaf's source have left, as far as the port has seen
abbrev pub is_seen_closed : PortState → ℕ → Bool
is_seen_closed s leaf = is_closed (writers_of (s.plan (s.source leaf)).allow) (s.seen (s.source leaf))

-- the held words that a port has met since a moment, and the first of them
abbrev pub met_since : PortState → PortState → List Met
met_since s t = drop (length s.met) t.met

abbrev pub first_word : List Met → Option ℕ
first_word [] = None
first_word (met ∷ more) = Some met.word

-- whether a word of the leaf's source was among them
abbrev pub was_held : PortState → PortState → ℕ → Bool
was_held s t leaf = list_any (λ (met : Met). met.source == t.source leaf) (met_since s t)

-- what looks and fetches leave of a port: it has seen and met no less, and a bell that was set is set
pub record HasLooked (s t : PortState) : Type 0 where
  pub is_own : t.is_own ≡ s.is_own
  pub source : t.source ≡ s.source
  pub task : t.task ≡ s.task
  pub plan : t.plan ≡ s.plan
  pub arms : t.arms ≡ s.arms
  pub tokens : t.tokens ≡ s.tokens
  pub missed : t.missed ≡ s.missed
  pub seen : (source : ℕ) → GoesOn s source (t.seen source) (t.count source)
  pub met : take (length s.met) t.met ≡ s.met
  pub rings : (leaf : ℕ) → is_open (t.condition leaf) ≡ is_open (s.condition leaf)
  pub waits : (leaf : ℕ) (version : Version) → s.condition leaf ≡ Waiting version → t.condition leaf ≡ Waiting version

-- at a later moment a port has the same leaves, and has seen no less
pub record HasSeenMore (s t : PortState) : Type 0 where
  pub sound : IsSoundPort t
  pub is_own : t.is_own ≡ s.is_own
  pub source : t.source ≡ s.source
  pub task : t.task ≡ s.task
  pub plan : t.plan ≡ s.plan
  pub seen : (source : ℕ) → GoesOn s source (t.seen source) (t.count source)

-- ---- walks

-- how far a view has come: the port's number of its first leaf, how many entries each leaf has passed, what the present walk showed
-- of each leaf, whether a leaf has gone on in it, and the first held word that it found
pub record Progress : Type 0 where
  pub first : ℕ
  pub positions : List ℕ
  pub marks : List Mark
  pub moved : Bool
  pub held : Option ℕ

-- the sources of a walk's leaves, as far as the port has seen them
abbrev pub sources_in : PortState → Progress → List Source
sources_in s walk = seen_sources s walk.first (length walk.positions)

-- what a walk needs of its port: the leaves are the port's, and it has seen their sources at least as far as the leaves have come
pub record CanWalk (s : PortState) (walk : Progress) : Type 0 where
  pub sound : IsSoundPort s
  pub numbers : walk.first + length walk.positions < 2 ^ 64
  pub own : (leaf : ℕ) → leaf < length walk.positions → s.is_own (walk.first + leaf) ≡ true
  pub within : AreWithin (sources_in s walk) walk.positions
  pub marks : length walk.marks ≡ length walk.positions

-- a walk before its first look
abbrev pub set_out : Progress → Progress
set_out walk = record walk { marks = map (λ mark. Skipped) walk.marks; moved = false; held = None }

-- what holds after any part of a walk, also where memory was wanting
pub record HasGone (s t : PortState) (old new : Progress) : Type 0 where
  pub looked : HasLooked s t
  pub first : new.first ≡ old.first
  pub leaves : length new.positions ≡ length old.positions
  pub can : CanWalk t new

-- the first held word: the one that a walk had met before, or else the first of those that the port has met since
abbrev pub first_held : Option ℕ → List Met → Option ℕ
first_held (Some word) met = Some word
first_held None met = first_word met

abbrev pub mark_of : Bool → Mark
mark_of true = Ended
mark_of false = Open

-- a look showed a leaf at the end of its history; a leaf has come to the end; a word was found held
abbrev pub marked : Progress → ℕ → Bool → Progress
marked walk leaf closed = record walk { marks = slice_set walk.marks leaf (mark_of closed) }

abbrev pub arrived : Progress → ℕ → Version → Progress
arrived walk leaf version = record walk {
  positions = slice_set walk.positions leaf version.count;
  marks = slice_set walk.marks leaf (mark_of version.closed);
  moved = true;
}

abbrev pub kept_first : Option ℕ → ℕ → Option ℕ
kept_first (Some held) word = Some held
kept_first None word = Some word

abbrev pub held_up : Progress → ℕ → Progress
held_up walk word = record walk { held = kept_first walk.held word }

-- a look showed the leaf at the end of its source's history
pub record IsCaughtUp (t : PortState) (walk : Progress) (leaf : ℕ) : Type 0 where
  pub position : slice_index walk.positions leaf ≡ length (t.seen (t.source (walk.first + leaf)))
  pub count : t.count (t.source (walk.first + leaf)) ≡ length (t.seen (t.source (walk.first + leaf)))
  pub mark : slice_get walk.marks leaf ≡ Some (mark_of (is_seen_closed t (walk.first + leaf)))

-- the leaf has come at least as far as the port knew that there is, or a word of its source was found held
abbrev pub IsFresh : PortState → PortState → Progress → ℕ → Type 0
IsFresh s t walk leaf = was_held s t (walk.first + leaf) ≡ false → s.count (s.source (walk.first + leaf)) ≤ slice_index walk.positions leaf

-- nothing was seen, and where all was seen of a source a look has shown no more
pub record HasSettled (s t : PortState) : Type 0 where
  pub seen : t.seen ≡ s.seen
  pub counts : (source : ℕ) → s.count source ≡ length (s.seen source) → t.count source ≡ length (t.seen source)

-- a part of a walk, in which these leaves were looked at
pub record HasWalked (s t : PortState) (old new : Progress) (leaves : List ℕ) : Type 0 where
  pub goes_on : GoOn old.positions new.positions
  pub others : (leaf : ℕ) → is_among leaf leaves ≡ false → slice_index new.positions leaf ≡ slice_index old.positions leaf
  pub unmarked : (leaf : ℕ) → is_among leaf leaves ≡ false → slice_get new.marks leaf ≡ slice_get old.marks leaf
  pub stays : new.moved ≡ false → (old.moved ≡ false) × (new.positions ≡ old.positions)
  pub moves : new.moved ≡ true → old.moved ≡ false → new.positions ≢ old.positions
  pub held : new.held ≡ first_held old.held (met_since s t)
  pub fresh : (leaf : ℕ) → is_among leaf leaves ≡ true → IsFresh s t new leaf
  pub settled : new.moved ≡ false → new.held ≡ None → HasSettled s t
  pub caught_up : new.moved ≡ false → new.held ≡ None → (leaf : ℕ) → is_among leaf leaves ≡ true → IsCaughtUp t new leaf

-- a walk has these leaves
abbrev pub HasLeaves : Progress → List ℕ → Type 0
HasLeaves walk leaves = All (λ leaf. leaf < length walk.positions) leaves

-- a leaf's source has shown more than the leaf had passed
pub record HasNews (t : PortState) (old : Progress) : Type 0 where
  pub leaf : ℕ
  pub within : leaf < length old.positions
  pub more : slice_index old.positions leaf < t.count (t.source (old.first + leaf))

-- the caps of the leaves' sources
abbrev pub cap_at : List Source → ℕ → ℕ
cap_at sources leaf = (leaf_source sources leaf).plan.cap

-- ---- what enters a leaf

abbrev pub number_entered : Entering → Option ℤ
number_entered (entering.Value x) = Some x
number_entered _ = None

abbrev pub list_entered : Entering → List (VecDiff ℤ)
list_entered (entering.Vector diffs) = diffs
list_entered _ = []

abbrev pub map_entered : Entering → List (MapDiff ℤ)
map_entered (entering.Map diffs) = diffs
map_entered _ = []

-- it is what enters on the way, of whichever kind the source is
pub record IsEntering (way : Way) (told : Entering) : Type 0 where
  pub number : number_entered told ≡ number_entering (before way) way.source.plan.cap (passed way)
  pub list : list_entered told ≡ list_entering (before way) way.source.plan.cap (passed way)
  pub map : map_entered told ≡ map_entering (before way) way.source.plan.cap (passed way)
