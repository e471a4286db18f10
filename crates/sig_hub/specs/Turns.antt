-- What the seat of a pass goes through in the turn of a source.
use Rattle.std.specs.Prelude.{◌≡◌, ◌≢◌, ◌<◌, ◌≤◌, ◌==◌, ℕ, List, [], ◌∷◌, length, take, drop, slice_index_or, Bool, not, ◌&&◌, Option, Result, Ok, Err, ◌⊎◌}
use Rattle.atomic_table.specs.declared.shared.Seat.{Seat}
use Rattle.sig_flag.specs.Accounts.{known, knowing, no_hold, after_held, after_turn, after_give, leaves_on}
use Rattle.sig_flag.specs.Layouts.{Layout, leaf_at}
use Rattle.sig_flag.specs.Machines.{Machine, account, Has, IsMet, IsNext, IsSameSeat}
use Rattle.sig_flag.specs.declared.accounts.Account.{Account}
use Rattle.sig_flag.specs.declared.accounts.Hold.{Hold}
use Rattle.sig_flag.specs.declared.shape.LeafPlan.{LeafPlan}
use Rattle.sig_hist.specs.Entering.{entering_from}
use Rattle.sig_hist.specs.Histories.{own_entries}
use Rattle.sig_hist.specs.Plain.{version_of}
use Rattle.sig_hist.specs.Sources.{Source, is_among}
use Rattle.sig_hist.specs.declared.edits.Entry.{Entry}
use Rattle.sig_hist.specs.declared.plans.SourcePlan.{SourcePlan}
use Rattle.sig_hist.specs.declared.ports.Fetched.{Fetched}
use Rattle.sig_hist.specs.declared.ports.FetchError.{FetchError}
use Rattle.sig_hist.specs.declared.ports.FetchError.TheVariants.{Again, NoMemory}
use Rattle.sig_hist.specs.declared.ports.Met.{Met}
use Rattle.sig_hub.specs.Passes.{pass_of, IsStation, AreThoseToLeave, LeavesOne, MetMore, is_in}

abbrev pub PassSeat : Type 0
PassSeat = Seat (Option Source) (List Account)

abbrev pub its_plan : Source → SourcePlan
its_plan source = source.plan

abbrev pub its_history : Source → List Entry
its_history source = source.history

-- takes found the word held so far
pub record IsTrying (old new : PassSeat) : Type 0 where
  pub same : IsSameSeat old new
  pub met : List Met
  pub more : take (length (account old).met) met ≡ (account old).met
  pub has : Has new (record (account old) { met = met }) []

-- the seat has the turn of the source, and this in its slot
pub record HasTaken (old new : PassSeat) (source : ℕ) (state : Source) (slot : Option Source) : Type 0 where
  pub met : List Met
  pub more : take (length (account old).met) met ≡ (account old).met
  pub is_met : IsMet its_plan its_history (account old).number (known (account old) source) state
  pub has : Has new (after_turn (record (account old) { met = met }) source state.history) ((source, slot) ∷ [])

-- the seat had the turn of the source with this state, and gave it back as it was
pub record HasSeen (old new : PassSeat) (source : ℕ) (state : Source) : Type 0 where
  pub same : IsSameSeat old new
  pub is_met : IsMet its_plan its_history (account old).number (known (account old) source) state
  pub has : Has new (knowing (account old) source (record (known (account old) source) { seen = state.history; count = length state.history })) []

-- what a fetch answers of a source from a position on
pub record IsFetched (state : Source) (from : Option ℕ) (fetched : Fetched) : Type 0 where
  pub version : fetched.version ≡ version_of state
  pub entering : fetched.entering ≡ entering_from state from

-- what came of a fetch, whose take found the turn free or the word held
abbrev pub IsFetchedBy : PassSeat → PassSeat → ℕ → Option ℕ → Result Fetched FetchError → Type 0
IsFetchedBy old new source from (Ok fetched) = (state : Source) × HasSeen old new source state × IsFetched state from fetched
IsFetchedBy old new source from (Err (Again word)) = IsSameSeat old new × Has new (after_held (account old) source word) []
IsFetchedBy old new source from (Err NoMemory) = (state : Source) × HasSeen old new source state

-- the turn may be given back with this state
pub record MayEnd (a : Account) (source : ℕ) (state : Source) : Type 0 where
  pub of_plan : state.plan ≡ (known a source).plan
  pub of_history : (state.history ≡ (known a source).seen) ⊎ ((entry : Entry) × IsNext its_plan its_history a.number (known a source).plan (known a source).seen entry state.history)

-- whether the source has an entry more in this state than the seat has seen
abbrev pub has_come : Account → ℕ → Source → Bool
has_come a source state = not (length state.history == length (known a source).seen)

-- of a task nothing changed but how often it was told, and that is no less
pub record IsToldMore (old new : Hold) : Type 0 where
  pub tokens : new.tokens ≡ old.tokens
  pub missed : new.missed ≡ old.missed
  pub found : new.found ≡ old.found
  pub raised : old.raised ≤ new.raised

pub record AreToldMore (old new : List Hold) : Type 0 where
  pub all : length new ≡ length old
  pub each : (task : ℕ) → IsToldMore (slice_index_or old task no_hold) (slice_index_or new task no_hold)

-- the seat with this account, but that it may have told tasks since, and with this in its slots
pub record HasTelling (seat : PassSeat) (a : Account) (slots : List (ℕ × Option Source)) : Type 0 where
  pub holds : List Hold
  pub told : AreToldMore a.holds holds
  pub has : Has seat (record a { holds = holds }) slots

-- the seat gave the turn back with this state, and told whom it had to
pub record HasGiven (old new : PassSeat) (source : ℕ) (state : Source) : Type 0 where
  pub same : IsSameSeat old new
  pub may : MayEnd (account old) source state
  pub has : HasTelling new (record (after_give [] (account old) source state.history) { rings = []; tells = [] }) []

-- of the leaves of the source the seat has yet to ring those from a number on
pub record IsRinging (leaves : List LeafPlan) (source from : ℕ) (old new : PassSeat) : Type 0 where
  pub same : IsSameSeat old new
  pub has : HasTelling new (record (account old) { rings = leaves_on source (drop from leaves) from; tells = [] }) old.me.1

-- the seat has rung and told all
pub record HasRung (old new : PassSeat) : Type 0 where
  pub same : IsSameSeat old new
  pub has : HasTelling new (record (account old) { rings = []; tells = [] }) old.me.1

-- the leaf that the seat is to ring, and its task
pub record IsNextRing (layout : Layout) (leaf task : ℕ) : Type 0 where
  pub within : leaf < length layout.leaves
  pub its_task : (leaf_at layout.leaves leaf).task ≡ task
  pub in_range : task < length layout.pollers

-- what a seat knows after a turn in which the source's history became this
pub record IsAfter (number : ℕ) (old new : PassSeat) (source : ℕ) (history : List Entry) : Type 0 where
  pub station : (machine : Machine) → IsStation machine old number → IsStation machine new number
  pub same_number : (account new).number ≡ (account old).number
  pub met : MetMore (account old) (account new)
  pub here : known (account new) source ≡ record { plan = (known (account old) source).plan; seen = history; count = length history; own = own_entries number history }
  pub others : (other : ℕ) → other ≢ source → known (account new) other ≡ known (account old) other

-- a pass has left those of its sources that aren't left over
pub record IsLeaving (machine : Machine) (number : ℕ) (old new : PassSeat) (sources : List ℕ) : Type 0 where
  pub station : IsStation machine new number
  pub same_number : (account new).number ≡ (account old).number
  pub met : MetMore (account old) (account new)
  pub those : AreThoseToLeave (pass_of machine new) sources
  pub each : (source : ℕ) → LeavesOne (is_in (pass_of machine old) source && not (is_among source sources)) (pass_of machine old) (pass_of machine new) source
