-- What a pass knows of the hub's sources, and what its calls change of that.
use Rattle.std.specs.Prelude.{◌≡◌, ◌≢◌, ℕ, ◌<◌, ◌≤◌, List, [], ◌∷◌, ◌++◌, length, take, Bool, true, false, not, ◌&&◌, Option, All}
use Rattle.atomic_table.specs.declared.shared.Seat.{Seat}
use Rattle.sig_flag.specs.Accounts.{known}
use Rattle.sig_flag.specs.Layouts.{Layout}
use Rattle.sig_flag.specs.Machines.{Machine, account, HasNoTurn, OwesNothing}
use Rattle.sig_flag.specs.Turns.{IsHistory}
use Rattle.sig_flag.specs.declared.accounts.Account.{Account}
use Rattle.sig_hist.specs.Histories.{IsFront, ends_with_leave}
use Rattle.sig_hist.specs.Ports.{IsSeen}
use Rattle.sig_hist.specs.Sources.{Source, allowed, is_among, writers_of}
use Rattle.sig_hist.specs.declared.edits.Edit.TheVariants.{Leave}
use Rattle.sig_hist.specs.declared.edits.Entry.{Entry}
use Rattle.sig_hist.specs.declared.edits.Reply.TheVariants.{Fine}
use Rattle.sig_hist.specs.declared.plans.EditError.{EditError}
use Rattle.sig_hist.specs.declared.plans.EditError.TheVariants.{Spent, NoMemory}
use Rattle.sig_hist.specs.declared.plans.SourcePlan.{SourcePlan}

-- a pass: the machine of the hub that it is of, and its account there
pub record Pass : Type 0 where
  pub hub : Machine
  pub account : Account

abbrev pub IsOf : Machine → Pass → Type 0
IsOf machine pass = pass.hub ≡ machine

abbrev pub pass_of : Machine → Seat (Option Source) (List Account) → Pass
pass_of machine seat = record { hub = machine; account = account seat }

-- of a source its plan, what the pass has seen of its history, how many entries it had when the pass last looked, and the entries that the pass made
abbrev pub plan_in : Pass → ℕ → SourcePlan
plan_in pass source = (known pass.account source).plan

abbrev pub seen : Pass → ℕ → List Entry
seen pass source = (known pass.account source).seen

abbrev pub seen_count : Pass → ℕ → ℕ
seen_count pass source = (known pass.account source).count

abbrev pub own : Pass → ℕ → List Entry
own pass source = (known pass.account source).own

-- ---- between two calls

-- the pass has nothing to ring and nothing to tell
pub record HasTold (pass : Pass) : Type 0 where
  pub no_ring : pass.account.rings ≡ []
  pub no_tell : pass.account.tells ≡ []

-- a seat with one account and no turn, and nothing to ring or to tell
pub record IsAtRest (seat : Seat (Option Source) (List Account)) (number : ℕ) : Type 0 where
  pub one_account : seat.me.0 ≡ account seat ∷ []
  pub no_turn : HasNoTurn seat
  pub nothing : OwesNothing seat
  pub of_number : number ≡ (account seat).number

-- an account that has a part for each source, leaf and task of a layout, and what it knows of each source is sound
pub record IsAccountOf (layout : Layout) (a : Account) : Type 0 where
  pub sources : length a.knows ≡ length layout.plans
  pub leaves : length a.watches ≡ length layout.leaves
  pub tasks : length a.holds ≡ length layout.pollers
  pub sound : (source : ℕ) → IsSeen (known a source).plan (known a source).seen (known a source).count

-- a seat of a machine between two calls
pub record IsStation (machine : Machine) (seat : Seat (Option Source) (List Account)) (number : ℕ) : Type 0 where
  pub at_table : seat.table_id ≡ machine.id
  pub rests : IsAtRest seat number
  pub of_layout : IsAccountOf machine.layout (account seat)

-- whether the pass writes the source and hasn't left it
abbrev pub is_in : Pass → ℕ → Bool
is_in pass source = is_among pass.account.number (writers_of (plan_in pass source).allow) && not (ends_with_leave (own pass source))

-- each is greater than those after it
abbrev pub Falls : List ℕ → Type 0
Falls [] = Unit {0}
Falls (first ∷ others) = All (λ other. other < first) others × Falls others

-- the sources that the pass is in, the greatest first
pub record AreThoseToLeave (pass : Pass) (sources : List ℕ) : Type 0 where
  pub within : All (λ source. source < length pass.hub.layout.plans) sources
  pub each : (source : ℕ) → is_in pass source ≡ is_among source sources
  pub falling : Falls sources

-- ---- edits

abbrev pub Writes : Pass → ℕ → Type 0
Writes pass source = is_in pass source ≡ true

-- the held words that were met before were met first
abbrev pub MetMore : Account → Account → Type 0
MetMore old new = take (length old.met) new.met ≡ old.met

-- the same pass after a call about one source, which may have found the source's word held
pub record IsSamePass (old new : Pass) (source : ℕ) : Type 0 where
  pub hub : new.hub ≡ old.hub
  pub number : new.account.number ≡ old.account.number
  pub met : MetMore old.account new.account
  pub plan : plan_in new source ≡ plan_in old source
  pub others : (other : ℕ) → other ≢ source → known new.account other ≡ known old.account other

-- the pass has made an entry: it is the last of its own, and stands in a legal history behind all that the pass had seen, and behind all that it
-- had seen to be there
pub record HasMade (old new : Pass) (source : ℕ) (entry : Entry) : Type 0 where
  pub before : List Entry
  pub of_own : own new source ≡ own old source ++ entry ∷ []
  pub of_seen : seen new source ≡ before ++ entry ∷ []
  pub front : IsFront (seen old source) before
  pub count : seen_count old source ≤ length before
  pub history : IsHistory (plan_in old source) (seen new source)

-- nothing was made. More may have been seen
pub record HasMadeNone (old new : Pass) (source : ℕ) : Type 0 where
  pub of_own : own new source ≡ own old source
  pub front : IsFront (seen old source) (seen new source)

abbrev pub IsRefused : Pass → ℕ → EditError → Type 0
IsRefused pass source (Spent made) = (made ≡ length (own pass source)) × (made ≡ allowed pass.account.number (plan_in pass source).allow)
IsRefused pass source NoMemory = Unit {0}

-- ---- leaves

abbrev pub leave_by : ℕ → Entry
leave_by number = record { caller = number; edit = Leave; reply = Fine }

-- by whether the pass is in: it leaves, or all that it knows of the source stays
abbrev pub LeavesOne : Bool → Pass → Pass → ℕ → Type 0
LeavesOne true old new source = HasMade old new source (leave_by old.account.number)
LeavesOne false old new source = known new.account source ≡ known old.account source

pub record HasLeft (old new : Pass) : Type 0 where
  pub hub : new.hub ≡ old.hub
  pub number : new.account.number ≡ old.account.number
  pub met : MetMore old.account new.account
  pub each : (source : ℕ) → LeavesOne (is_in old source) old new source
