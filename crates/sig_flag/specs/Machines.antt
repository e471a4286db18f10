-- What the calls of a machine ask and tell.
use Rattle.std.specs.Prelude.{◌≡◌, ℕ, ◌<◌, ◌≤◌, ◌^◌, ◌==◌, List, [], ◌∷◌, ◌++◌, length, map, sum_by, slice_get, slice_index, slice_index_or, Bool, true, false, Option, None, Some, ◌⊎◌, All}
use Rattle.atomic_table.specs.Seated.{TableId}
use Rattle.atomic_table.specs.declared.shared.Seat.{Seat}
use Rattle.sig_flag.specs.Accounts.{account_of, known, watch, hold, opening_account, after_turn, after_held, plan_at}
use Rattle.sig_flag.specs.Layouts.{Layout, IsLeafOf, leaf_at, words_of, poller_of}
use Rattle.sig_flag.specs.Turns.{IsHistory, IsKnown}
use Rattle.sig_flag.specs.Words.{is_held}
use Rattle.sig_flag.specs.declared.accounts.Account.{Account}
use Rattle.sig_flag.specs.declared.accounts.Knowledge.{Knowledge}
use Rattle.sig_flag.specs.declared.flags.Taken.{Taken}
use Rattle.sig_flag.specs.declared.flags.Taken.TheVariants.{Turn, Held}
use Rattle.sig_flag.specs.declared.shape.FlagShape.{FlagShape}
use Rattle.sig_hist.specs.Histories.{IsFront, is_closed, own_entries}
use Rattle.sig_hist.specs.Plain.{version_of}
use Rattle.sig_hist.specs.Sources.{IsPlan, IsIn, IsSource, room_of, writers_of}
use Rattle.sig_hist.specs.declared.edits.Entry.{Entry}
use Rattle.sig_hist.specs.declared.plans.SourcePlan.{SourcePlan}
use Rattle.sig_hist.specs.declared.ports.Condition.TheVariants.{Waiting}
use Rattle.sig_hist.specs.declared.ports.Version.{Version}

-- a machine: its table, and what it is made for
pub record Machine : Type 0 where
  pub id : TableId
  pub layout : Layout

abbrev pub layout_by : {V : Type 0} → (V → SourcePlan) → FlagShape → List V → Layout
layout_by plan_of shape states = record { plans = map plan_of states; leaves = shape.leaves; pollers = shape.tasks; seats = shape.seats }

-- room for so many, of which none is there yet
pub record IsRoom {X : Type 0} (held : List X) (room count : ℕ) : Type 0 where
  pub empty : held ≡ []
  pub reserved : count ≤ room

-- a table with all words of a layout, and a slot for each of its sources
pub record IsLaid (id : TableId) (layout : Layout) : Type 0 where
  pub some_source : 0 < length layout.plans
  pub of_words : id.words ≡ words_of layout
  pub of_slots : id.slots ≡ length layout.plans
  pub few : words_of layout < 2 ^ 64
  pub leaves : All (IsLeafOf (length layout.plans) (length layout.pollers)) layout.leaves

module _ {V : Type 0} where
  abbrev pub account : Seat (Option V) (List Account) → Account
  account seat = account_of seat.me.0

  -- the seat is one of the machine's
  pub record Sits (machine : Machine) (seat : Seat (Option V) (List Account)) : Type 0 where
    pub at_table : seat.table_id ≡ machine.id
    pub one_account : seat.me.0 ≡ account seat ∷ []

  pub record IsSameSeat (old new : Seat (Option V) (List Account)) : Type 0 where
    pub same_table : new.table_id ≡ old.table_id
    pub same_id : new.id ≡ old.id

  -- the seat has no turn, and so no state
  pub record HasNoTurn (seat : Seat (Option V) (List Account)) : Type 0 where
    pub no_turn : (account seat).turn ≡ None
    pub no_state : seat.me.1 ≡ []

  -- the seat has the turn of the source, and in its slot this
  pub record HasTurn (seat : Seat (Option V) (List Account)) (source : ℕ) (state : Option V) : Type 0 where
    pub turn : (account seat).turn ≡ Some source
    pub slot : seat.me.1 ≡ (source, state) ∷ []

  -- the seat has nothing to ring and nothing to tell
  pub record OwesNothing (seat : Seat (Option V) (List Account)) : Type 0 where
    pub no_ring : (account seat).rings ≡ []
    pub no_tell : (account seat).tells ≡ []

  -- all seats are back, and none has a turn. There are never more than so many, since their numbers differ
  pub record AreBack (machine : Machine) (seats : List (Seat (Option V) (List Account))) : Type 0 where
    pub all : machine.layout.seats ≤ length seats
    pub at_rest : All (λ seat. Sits machine seat × HasNoTurn seat) seats

  -- the seat after a step, with this account and with this in its slots
  abbrev pub Has : Seat (Option V) (List Account) → Account → List (ℕ × Option V) → Type 0
  Has seat a slots = seat.me ≡ (a ∷ [], slots)

-- what a look may show: no fewer entries than before and no more than there is room for, whether they are closed where all of them were seen, and
-- no more than were seen where those are closed
pub record IsShown (knowledge : Knowledge) (version : Version) : Type 0 where
  pub count : knowledge.count ≤ version.count
  pub room : version.count ≤ room_of knowledge.plan.allow
  pub whole : is_closed (writers_of knowledge.plan.allow) knowledge.seen ≡ true → version.count ≡ length knowledge.seen
  pub closed : version.count ≡ length knowledge.seen → version.closed ≡ is_closed (writers_of knowledge.plan.allow) knowledge.seen

-- ---- bells

-- the seat with a number polls the leaf's task
pub record IsPolledBy (layout : Layout) (leaf number : ℕ) : Type 0 where
  pub within : leaf < length layout.leaves
  pub poller : number ≡ poller_of layout leaf

-- the seat with a number polls the task
pub record IsTaskOf (layout : Layout) (task number : ℕ) : Type 0 where
  pub within : task < length layout.pollers
  pub poller : number ≡ slice_index layout.pollers task

-- ---- turns

module _ {V : Type 0} (plan_of : V → SourcePlan) (history_of : V → List Entry) where
  -- what a seat may rely on that gets the state of a source: it goes on from what the seat has seen, and has the seat's own entries
  pub record IsMet (number : ℕ) (knowledge : Knowledge) (state : V) : Type 0 where
    pub of_plan : plan_of state ≡ knowledge.plan
    pub of_history : IsHistory knowledge.plan (history_of state)
    pub front : IsFront knowledge.seen (history_of state)
    pub count : knowledge.count ≤ length (history_of state)
    pub own : knowledge.own ≡ own_entries number (history_of state)

  abbrev pub IsTake : Seat (Option V) (List Account) → Seat (Option V) (List Account) → ℕ → Taken → Type 0
  IsTake old new source Turn =
      (state : V) × IsMet (account old).number (known (account old) source) state × Has new (after_turn (account old) source (history_of state)) ((source, Some state) ∷ [])
  IsTake old new source (Held word) = (is_held word ≡ true) × Has new (after_held (account old) source word) []

  -- one entry more, by the seat, which is a writer that hasn't left
  pub record IsNext (number : ℕ) (plan : SourcePlan) (seen : List Entry) (entry : Entry) (history : List Entry) : Type 0 where
    pub last : history ≡ seen ++ entry ∷ []
    pub of_caller : entry.caller ≡ number
    pub is_in : IsIn (record { plan = plan; history = seen }) number
    pub sound : IsSource (record { plan = plan; history = history })

  -- the turn may be given back with this state: it is as it was, or has one entry more
  pub record MayGive (a : Account) (source count : ℕ) (closed : Bool) (state : V) : Type 0 where
    pub of_plan : plan_of state ≡ (known a source).plan
    pub of_history : (history_of state ≡ (known a source).seen) ⊎ ((entry : Entry) × IsNext a.number (known a source).plan (known a source).seen entry (history_of state))
    pub of_count : count ≡ length (history_of state)
    pub of_closed : closed ≡ is_closed (writers_of (known a source).plan.allow) (history_of state)

  -- ---- the start and the end

  pub record IsNew (state : V) : Type 0 where
    pub of_plan : IsPlan (plan_of state)
    pub no_entry : history_of state ≡ []

  pub record IsShape (shape : FlagShape) (states : List V) : Type 0 where
    pub some_source : 0 < shape.sources
    pub some_seat : 0 < shape.seats
    pub counted : length states ≡ shape.sources
    pub closed : shape.closed ≡ map (λ state. is_closed (writers_of (plan_of state).allow) []) states
    pub new : All IsNew states
    pub leaves : All (IsLeafOf shape.sources (length shape.tasks)) shape.leaves
    pub tasks : All (λ poller. poller < shape.seats) shape.tasks

  pub record IsMade (shape : FlagShape) (states : List V) (machine : Machine) (seats : List (Seat (Option V) (List Account))) : Type 0 where
    pub of_words : machine.id.words ≡ words_of machine.layout
    pub of_slots : machine.id.slots ≡ length machine.layout.plans
    pub of_layout : machine.layout ≡ layout_by plan_of shape states
    pub all : length seats ≡ shape.seats
    pub each : (k : ℕ) (seat : Seat (Option V) (List Account)) → slice_get seats k ≡ Some seat → (seat.table_id ≡ machine.id) × Has seat (opening_account machine.layout k) []

  -- a source at the end: each seat has seen a front of its history, and knows all the entries that it made
  pub record IsLast (seats : List (Seat (Option V) (List Account))) (source : ℕ) (plan : SourcePlan) (state : V) : Type 0 where
    pub of_plan : plan_of state ≡ plan
    pub of_history : IsHistory plan (history_of state)
    pub known : All (λ seat. IsKnown (account seat).number plan (history_of state) (known (account seat) source)) seats

  pub record IsEnd (machine : Machine) (seats : List (Seat (Option V) (List Account))) (states : List V) : Type 0 where
    pub counted : length states ≡ length machine.layout.plans
    pub each : (source : ℕ) (state : V) → slice_get states source ≡ Some state → IsLast seats source (plan_at machine.layout.plans source) state

  -- no task waits untold, once nobody has anything to ring or to tell, by the state that each source has and the tasks that are to be polled: where a
  -- leaf's task waits, the leaf's source shows what it showed then, or the task is to be polled, or the seat has a token of it
  pub record NoneWaits (layout : Layout) (seats : List (Seat (Option V) (List Account))) (has_state : ℕ → V → Type 0) (is_ready : ℕ → Type 0) : Type 0 where
    pub each : All OwesNothing seats → (leaf : ℕ) (version : Version) (state : V) → leaf < length layout.leaves → has_state (leaf_at layout.leaves leaf).source state →
        All (λ seat. (watch (account seat) leaf).condition ≡ Waiting version →
        (version_of (record { plan = plan_at layout.plans (leaf_at layout.leaves leaf).source; history = history_of state }) ≡ version)
        ⊎ (is_ready (leaf_at layout.leaves leaf).task ⊎ (0 < (hold (account seat) (leaf_at layout.leaves leaf).task).tokens))) seats

  -- by the states and the answers of the end
  abbrev pub IsHeard : Layout → List (Seat (Option V) (List Account)) → List V → List Bool → Type 0
  IsHeard layout seats states ready = NoneWaits layout seats (λ source state. slice_get states source ≡ Some state) (λ task. slice_index_or ready task false ≡ true)

-- a task is to be polled exactly where it was told once more than it was found told, the start counted
pub record IsReadyList {V : Type 0} (layout : Layout) (seats : List (Seat (Option V) (List Account))) (ready : List Bool) : Type 0 where
  pub all : length ready ≡ length layout.pollers
  pub each : (task : ℕ) → task < length layout.pollers →
      slice_index_or ready task false ≡ (sum_by (λ seat. (hold (account seat) task).found) seats == sum_by (λ seat. (hold (account seat) task).raised) seats)
