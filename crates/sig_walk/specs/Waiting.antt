-- How a task waits: the bell of each leaf that can go on is set, and a look after that shows nothing new.
use Rattle.std.specs.Prelude.{◌≡◌, ℕ, ◌+◌, ◌-◌, ◌^◌, ◌<◌, ◌≤◌, ◌==◌, ◌&&◌, min, length, take, get_or, slice_index, nat_le, nat_lt, not, Bool, true, false, if◌then◌else◌, Option, None, Some}
use Rattle.sig_hist.specs.Ports.{GoesOn, IsSight, PortState, armed, at_rest, is_news, looked, put, raised}
use Rattle.sig_hist.specs.declared.ports.Condition.TheVariants.{Waiting}
use Rattle.sig_hist.specs.declared.ports.Version.{Version}
use Rattle.sig_walk.specs.Walking.{CanWalk, IsCaughtUp, Progress}
use Rattle.sig_walk.specs.declared.waiting.Waited.{Waited}
use Rattle.sig_walk.specs.declared.waiting.Waited.TheVariants.{Rests, News}
use Rattle.sig_walk.specs.declared.walk.Mark.{Mark}
use Rattle.sig_walk.specs.declared.walk.Mark.TheVariants.{Open, Skipped}

-- ---- what every poll leaves

-- whether a leaf of the port is one of a walk's
abbrev pub is_walked : Progress → ℕ → Bool
is_walked walk leaf = nat_le walk.first leaf && nat_lt leaf (walk.first + length walk.positions)

-- the port has seen and met no less; what isn't the view's is as it was, but that leaves are looked at; and one token of the
-- view's task is spent where the view rests. How often a bell was set falls in no poll, as far as 64 bits reach
pub record HasPolled (s t : PortState) (walk : Progress) (rests : Bool) : Type 0 where
  pub is_own : t.is_own ≡ s.is_own
  pub source : t.source ≡ s.source
  pub task : t.task ≡ s.task
  pub plan : t.plan ≡ s.plan
  pub missed : t.missed ≡ s.missed
  pub seen : (source : ℕ) → GoesOn s source (t.seen source) (t.count source)
  pub met : take (length s.met) t.met ≡ s.met
  pub tokens : t.tokens ≡ (if rests then put s.tokens (s.task walk.first) (s.tokens (s.task walk.first) - 1) else s.tokens)
  pub arms : (leaf : ℕ) → is_walked walk leaf ≡ false → t.arms leaf ≡ s.arms leaf
  pub rises : (leaf : ℕ) → min (s.arms leaf) (2 ^ 64 - 1) ≤ t.arms leaf
  pub waits : (leaf : ℕ) (version : Version) → (s.task leaf == s.task walk.first) ≡ false → s.condition leaf ≡ Waiting version → t.condition leaf ≡ Waiting version

-- ---- open leaves

abbrev pub is_open_mark : Mark → Bool
is_open_mark Open = true
is_open_mark mark = false

-- whether a walk showed that a leaf can go on
abbrev pub is_open_leaf : Progress → ℕ → Bool
is_open_leaf walk leaf = is_open_mark (get_or walk.marks leaf Skipped)

-- the last open leaf among so many
pub record IsLast (walk : Progress) (count last : ℕ) : Type 0 where
  pub within : last < count
  pub opens : is_open_leaf walk last ≡ true
  pub later : (leaf : ℕ) → last < leaf → leaf < count → is_open_leaf walk leaf ≡ false

abbrev pub IsLastOpen : Progress → ℕ → Option ℕ → Type 0
IsLastOpen walk count None = (leaf : ℕ) → leaf < count → is_open_leaf walk leaf ≡ false
IsLastOpen walk count (Some last) = IsLast walk count last

-- ---- bells

-- a leaf's bell was set, and then a look showed a version: whether that is no news
pub record HasRung (s t : PortState) (walk : Progress) (leaf : ℕ) (stays : Bool) : Type 0 where
  pub version : Version
  pub sight : IsSight s (walk.first + leaf) version
  pub state : t ≡ looked (armed s (walk.first + leaf)) (s.source (walk.first + leaf)) version
  pub stays_where : stays ≡ not (is_news (slice_index walk.positions leaf) version)

-- by whether the leaf is open
abbrev pub IsWatched : PortState → PortState → Progress → ℕ → Bool → Bool → Type 0
IsWatched s t walk leaf true stays = HasRung s t walk leaf stays
IsWatched s t walk leaf false stays = (t ≡ s) × (stays ≡ true)

-- the last open leaf's bell was set, and then a look ended the poll
abbrev pub HasEnded : {T : Type 0} → PortState → PortState → Progress → ℕ → T → Waited T → Type 0
HasEnded s t walk leaf told Rests =
    let version : Version = record { count = slice_index walk.positions leaf; closed = false } in
    IsSight s (walk.first + leaf) version × (t ≡ at_rest (looked (armed s (walk.first + leaf)) (s.source (walk.first + leaf)) version) (s.task (walk.first + leaf)))
HasEnded s t walk leaf told (News token) = HasRung s t walk leaf false × (token ≡ told)

-- ---- waits

-- what a walk leaves that found nothing: each open leaf is at the end of what was seen
pub record CanWait (s : PortState) (walk : Progress) : Type 0 where
  pub can : CanWalk s walk
  pub one_task : (leaf : ℕ) → leaf < length walk.positions → s.task (walk.first + leaf) ≡ s.task walk.first
  pub caught_up : (leaf : ℕ) → is_open_leaf walk leaf ≡ true → IsCaughtUp s walk leaf

-- bells were set and sources looked at, and nothing more was seen or met
pub record HasListened (s t : PortState) (walk : Progress) (rests : Bool) : Type 0 where
  pub polled : HasPolled s t walk rests
  pub seen : t.seen ≡ s.seen
  pub met : t.met ≡ s.met

-- the task waits for each open leaf
pub record HasRested (s t : PortState) (walk : Progress) : Type 0 where
  pub listened : HasListened s t walk true
  pub waits : (leaf : ℕ) → is_open_leaf walk leaf ≡ true → t.condition (walk.first + leaf) ≡ Waiting (record { count = slice_index walk.positions leaf; closed = false })
  pub armed_each : (leaf : ℕ) → is_open_leaf walk leaf ≡ true → raised (s.arms (walk.first + leaf)) ≤ t.arms (walk.first + leaf)

-- a look showed that an open leaf's source goes on
pub record HasHeard (s t : PortState) (walk : Progress) : Type 0 where
  pub listened : HasListened s t walk false
  pub leaf : ℕ
  pub opens : is_open_leaf walk leaf ≡ true
  pub more : slice_index walk.positions leaf < t.count (s.source (walk.first + leaf))

abbrev pub HasWaited : {T : Type 0} → PortState → PortState → Progress → T → Waited T → Type 0
HasWaited s t walk told Rests = HasRested s t walk
HasWaited s t walk told (News token) = HasHeard s t walk × (token ≡ told)
