-- The port of one thread, by its sources and its leaves.
use Rattle.std.specs.Prelude.{◌≡◌, ℕ, ◌<◌, pos, ◌==◌, true, false, List, [], length, get_or, slice_set, nat_lt, if◌then◌else◌, All}
use Rattle.sig_diff.specs.declared.contents.Content.TheVariants.{Cell}
use Rattle.sig_hist.specs.Histories.{has_left, is_closed}
use Rattle.sig_hist.specs.Ports.{PortState, checked, settled, raised}
use Rattle.sig_hist.specs.Sources.{Source, IsSource, entered, is_among, writers_of}
use Rattle.sig_hist.specs.declared.edits.Edit.TheVariants.{Leave}
use Rattle.sig_hist.specs.declared.edits.Entry.{Entry}
use Rattle.sig_hist.specs.declared.edits.Reply.TheVariants.{Fine}
use Rattle.sig_hist.specs.declared.bells.PlainLeaf.{PlainLeaf}
use Rattle.sig_hist.specs.declared.plans.SourcePlan.{SourcePlan}
use Rattle.sig_hist.specs.declared.ports.Condition.TheVariants.{Idle, Armed}
use Rattle.sig_hist.specs.declared.ports.Version.{Version}

pub record OneThread : Type 0 where
  pub sources : List Source
  pub leaves : List PlainLeaf

-- what stands at the numbers that no source and no leaf has
abbrev pub no_source : Source
no_source = record { plan = record { start = Cell (pos 0); cap = 1; allow = [] }; history = [] }

abbrev pub no_leaf : PlainLeaf
no_leaf = record { source = 0; condition = Idle; arms = 0 }

abbrev pub source_at : OneThread → ℕ → Source
source_at port source = get_or port.sources source no_source

abbrev pub leaf_at : OneThread → ℕ → PlainLeaf
leaf_at port leaf = get_or port.leaves leaf no_leaf

-- ---- the start

abbrev pub source_of : SourcePlan → Source
source_of plan = record { plan = plan; history = [] }

abbrev pub leaf_of : ℕ → PlainLeaf
leaf_of source = record { source = source; condition = Idle; arms = 0 }

-- ---- what the port knows: all that there is

abbrev pub version_of : Source → Version
version_of source = record { count = length source.history; closed = is_closed (writers_of source.plan.allow) source.history }

abbrev pub known : OneThread → PortState
known port = record {
  is_own = λ leaf. nat_lt leaf (length port.leaves);
  source = λ leaf. (leaf_at port leaf).source;
  task = λ leaf. 0;
  condition = λ leaf. (leaf_at port leaf).condition;
  arms = λ leaf. (leaf_at port leaf).arms;
  plan = λ source. (source_at port source).plan;
  seen = λ source. (source_at port source).history;
  count = λ source. length (source_at port source).history;
  tokens = λ task. 0;
  missed = λ task. 0;
  met = [];
}

-- what holds of it at any time
pub record IsOneThread (port : OneThread) : Type 0 where
  pub sources : All IsSource port.sources
  pub leaves : All (λ leaf. leaf.source < length port.sources) port.leaves

-- ---- what calls change

-- one source has one more entry
abbrev pub with_entry : OneThread → ℕ → Entry → OneThread
with_entry port source entry = record port { sources = slice_set port.sources source (entered (source_at port source) entry) }

-- a caller leaves a source, if it is a writer of it
abbrev pub after_leave : ℕ → Source → Source
after_leave caller source = if is_among caller (writers_of source.plan.allow) then entered source (record { caller = caller; edit = Leave; reply = Fine }) else source

-- the caller hasn't left a source that it is a writer of
abbrev pub StaysWhereItWrites : OneThread → ℕ → Type 0
StaysWhereItWrites port caller =
    (source : ℕ) → is_among caller (writers_of (source_at port source).plan.allow) ≡ true → has_left caller (source_at port source).history ≡ false

abbrev pub leaf_checked : ℕ → Version → PlainLeaf → PlainLeaf
leaf_checked source version leaf = record leaf { condition = if leaf.source == source then checked version leaf.condition else leaf.condition }

abbrev pub leaf_settled : PlainLeaf → PlainLeaf
leaf_settled leaf = record leaf { condition = settled leaf.condition }

abbrev pub leaf_armed : PlainLeaf → PlainLeaf
leaf_armed leaf = record leaf { condition = Armed; arms = raised leaf.arms }
