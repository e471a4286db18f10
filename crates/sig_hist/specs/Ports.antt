-- What a port knows of the sources of its leaves, and what its calls change of that.
use Rattle.std.specs.Prelude.{◌≡◌, ℕ, ◌+◌, ◌-◌, ◌^◌, ◌≤◌, ◌==◌, min, List, [], ◌∷◌, ◌++◌, length, Bool, true, false, not, ◌||◌, if◌then◌else◌, Option}
use Rattle.sig_hist.specs.Entering.{entering_from}
use Rattle.sig_hist.specs.Histories.{IsFront, IsLegal, is_closed}
use Rattle.sig_hist.specs.Sources.{IsPlan, room_of, writers_of}
use Rattle.sig_hist.specs.declared.edits.Entry.{Entry}
use Rattle.sig_hist.specs.declared.plans.SourcePlan.{SourcePlan}
use Rattle.sig_hist.specs.declared.ports.Condition.{Condition}
use Rattle.sig_hist.specs.declared.ports.Condition.TheVariants.{Idle, Armed, Checked, Waiting}
use Rattle.sig_hist.specs.declared.ports.Fetched.{Fetched}
use Rattle.sig_hist.specs.declared.ports.FetchError.{FetchError}
use Rattle.sig_hist.specs.declared.ports.FetchError.TheVariants.{Again, NoMemory}
use Rattle.sig_hist.specs.declared.ports.Met.{Met}
use Rattle.sig_hist.specs.declared.ports.Rested.{Rested}
use Rattle.sig_hist.specs.declared.ports.Rested.TheVariants as rested
use Rattle.sig_hist.specs.declared.ports.Version.{Version}

pub record PortState : Type 0 where
  -- which leaves are the port's; of a leaf its source, its task, how it stands to its bell, and how often that was set
  pub is_own : ℕ → Bool
  pub source : ℕ → ℕ
  pub task : ℕ → ℕ
  pub condition : ℕ → Condition
  pub arms : ℕ → ℕ
  -- of a source its plan, the entries that were seen, and how many there were when it was last looked at
  pub plan : ℕ → SourcePlan
  pub seen : ℕ → List Entry
  pub count : ℕ → ℕ
  -- of a task how many tokens are held, and how often none was found
  pub tokens : ℕ → ℕ
  pub missed : ℕ → ℕ
  -- the held words that were found
  pub met : List Met

-- the function with another value at one number
abbrev pub put : {X : Type 0} → (ℕ → X) → ℕ → X → ℕ → X
put f at x k = if k == at then x else f k

-- a count that goes up by one, as far as its 64 bits reach
abbrev pub raised : ℕ → ℕ
raised n = min (n + 1) (2 ^ 64 - 1)

-- ---- sound states

-- what was seen of a source is a legal history, no longer than what it last showed, and all of it where it is closed
pub record IsSeen (plan : SourcePlan) (seen : List Entry) (count : ℕ) : Type 0 where
  pub of_plan : IsPlan plan
  pub legal : IsLegal plan.start plan.cap seen
  pub known : length seen ≤ count
  pub room : count ≤ room_of plan.allow
  pub closed : is_closed (writers_of plan.allow) seen ≡ true → count ≡ length seen

abbrev pub IsSoundPort : PortState → Type 0
IsSoundPort s = (source : ℕ) → IsSeen (s.plan source) (s.seen source) (s.count source)

-- ---- looks

-- a leaf's condition after a look at its source
abbrev pub checked : Version → Condition → Condition
checked version Idle = Idle
checked version Armed = Checked version
checked version (Checked old) = Checked version
checked version (Waiting old) = Waiting old

-- after a look at a source
abbrev pub looked : PortState → ℕ → Version → PortState
looked s source version = record s {
  count = put s.count source version.count;
  condition = λ leaf. if s.source leaf == source then checked version (s.condition leaf) else s.condition leaf;
}

-- what a look may show: no fewer entries than before; and where these are the ones that were seen, whether those are closed
pub record IsSight (s : PortState) (leaf : ℕ) (version : Version) : Type 0 where
  pub count : s.count (s.source leaf) ≤ version.count
  pub closed : version.count ≡ length (s.seen (s.source leaf)) → version.closed ≡ is_closed (writers_of (s.plan (s.source leaf)).allow) (s.seen (s.source leaf))

-- ---- fetches

-- after a fetch that has seen so much of a source
abbrev pub seen_of : PortState → ℕ → List Entry → ℕ → PortState
seen_of s source seen count = record s { seen = put s.seen source seen; count = put s.count source count }

-- the history goes on from what was seen of the source, and not beyond a closed one
pub record GoesOn (s : PortState) (source : ℕ) (history : List Entry) (count : ℕ) : Type 0 where
  pub front : IsFront (s.seen source) history
  pub known : s.count source ≤ count
  pub closed : is_closed (writers_of (s.plan source).allow) (s.seen source) ≡ true → history ≡ s.seen source

-- a fetch by which the source is seen to the end of its history
pub record IsFetch (s t : PortState) (leaf : ℕ) (from : Option ℕ) (fetched : Fetched) : Type 0 where
  pub state : t ≡ seen_of s (s.source leaf) (t.seen (s.source leaf)) (length (t.seen (s.source leaf)))
  pub goes_on : GoesOn s (s.source leaf) (t.seen (s.source leaf)) (length (t.seen (s.source leaf)))
  pub count : fetched.version.count ≡ length (t.seen (s.source leaf))
  pub closed : fetched.version.closed ≡ is_closed (writers_of (s.plan (s.source leaf)).allow) (t.seen (s.source leaf))
  pub entering : fetched.entering ≡ entering_from (record { plan = s.plan (s.source leaf); history = t.seen (s.source leaf) }) from

-- a fetch for which memory was wanting may have seen more of the source
pub record IsFetchInVain (s t : PortState) (source : ℕ) : Type 0 where
  pub state : t ≡ seen_of s source (t.seen source) (t.count source)
  pub goes_on : GoesOn s source (t.seen source) (t.count source)

-- a fetch that found the source's word held has met it, and all else stays
abbrev pub IsFetchRefusal : PortState → PortState → ℕ → FetchError → Type 0
IsFetchRefusal s t leaf (Again word) = t ≡ record s { met = s.met ++ record { source = s.source leaf; word = word } ∷ [] }
IsFetchRefusal s t leaf NoMemory = IsFetchInVain s t (s.source leaf)

-- ---- bells

abbrev pub armed : PortState → ℕ → PortState
armed s leaf = record s { condition = put s.condition leaf Armed; arms = put s.arms leaf (raised (s.arms leaf)) }

-- ---- rests

abbrev pub is_open : Condition → Bool
is_open Armed = true
is_open (Checked version) = true
is_open _ = false

-- a leaf's condition when its task comes to rest
abbrev pub settled : Condition → Condition
settled (Checked version) = Waiting version
settled _ = Idle

-- after a task has come to rest: its checked leaves wait, its others are idle, and one of its tokens is spent
abbrev pub at_rest : PortState → ℕ → PortState
at_rest s task = record s {
  condition = λ leaf. if s.task leaf == task then settled (s.condition leaf) else s.condition leaf;
  tokens = put s.tokens task (s.tokens task - 1);
}

-- whether a version shows more than so many entries of a source that isn't closed
abbrev pub is_news : ℕ → Version → Bool
is_news at version = not (version.count == at) || version.closed

abbrev pub IsRest : {T : Type 0} → PortState → PortState → ℕ → ℕ → T → Rested T → Type 0
IsRest s t leaf at told rested.Waiting =
    let version : Version = record { count = at; closed = false } in
    IsSight s leaf version × (t ≡ at_rest (looked s (s.source leaf) version) (s.task leaf))
IsRest s t leaf at told (rested.News version token) =
    IsSight s leaf version × (t ≡ looked s (s.source leaf) version) × (is_news at version ≡ true) × (token ≡ told)
