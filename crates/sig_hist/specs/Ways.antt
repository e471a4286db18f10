-- The ways of leaves along the histories of their sources.
use Rattle.std.specs.Prelude.{◌≡◌, ℕ, ◌≤◌, List, [], ◌∷◌, length, take, drop, get_or, slice_index, true}
use Rattle.sig_diff.specs.declared.contents.Content.{Content}
use Rattle.sig_hist.specs.Changes.{IsInOrder}
use Rattle.sig_hist.specs.Histories.{IsFront, is_closed, state}
use Rattle.sig_hist.specs.Plain.{no_source}
use Rattle.sig_hist.specs.Sources.{Source, writers_of}
use Rattle.sig_hist.specs.declared.edits.Entry.{Entry}

-- the content of a source after the first entries of its history
abbrev pub state_at : Source → ℕ → Content
state_at source position = state source.plan.start source.plan.cap (take position source.history)

-- the way that a leaf goes along the history of its source: from one position to another
pub record Way : Type 0 where
  pub source : Source
  pub from : ℕ
  pub to : ℕ

abbrev pub passed : Way → List Entry
passed way = drop way.from (take way.to way.source.history)

abbrev pub before : Way → Content
before way = state_at way.source way.from

abbrev pub behind : Way → Content
behind way = state_at way.source way.to

-- a leaf goes ahead, along the history of a source whose map, if it is one, starts in order
pub record GoesAhead (way : Way) : Type 0 where
  pub ahead : way.from ≤ way.to
  pub in_order : IsInOrder way.source.plan.start

-- ---- all leaves

-- the source of a leaf, by the sources of all leaves
abbrev pub leaf_source : List Source → ℕ → Source
leaf_source sources leaf = get_or sources leaf no_source

-- what the leaves hold at their positions
abbrev pub contents_at : List Source → List ℕ → ℕ → Content
contents_at sources positions leaf = state_at (leaf_source sources leaf) (slice_index positions leaf)

-- how the leaves go from positions to others
abbrev pub ways : List Source → List ℕ → List ℕ → ℕ → Way
ways sources from to leaf = record { source = leaf_source sources leaf; from = slice_index from leaf; to = slice_index to leaf }

-- one position for each leaf, none past the end of its source's history
abbrev pub AreWithin : List Source → List ℕ → Type 0
AreWithin [] [] = Unit {0}
AreWithin (source ∷ sources) (position ∷ positions) = (position ≤ length source.history) × AreWithin sources positions
AreWithin _ _ = ⊥

-- no position falls
abbrev pub GoOn : List ℕ → List ℕ → Type 0
GoOn [] [] = Unit {0}
GoOn (old ∷ from) (new ∷ to) = (old ≤ new) × GoOn from to
GoOn _ _ = ⊥

-- ---- sources that go on

-- what a source has becomes more: the history before is the front of the later one, and a closed history stays as it is
pub record Grows (source later : Source) : Type 0 where
  pub plan : later.plan ≡ source.plan
  pub front : IsFront source.history later.history
  pub closed : is_closed (writers_of source.plan.allow) source.history ≡ true → later.history ≡ source.history

-- so do the sources of all leaves
pub record AllGrow (sources later : List Source) : Type 0 where
  pub count : length later ≡ length sources
  pub each : (leaf : ℕ) → Grows (leaf_source sources leaf) (leaf_source later leaf)
