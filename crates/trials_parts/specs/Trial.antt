-- What the tests of flags carry from call to call: a cell that the seats 0 and 1 may edit, with a leaf whose task the seat 1 polls.
use Rattle.std.specs.Prelude.{◌≡◌, ◌<◌, ℕ, pos, List, [], ◌∷◌, length, true, false, Option, Some}
use Rattle.atomic_table.specs.declared.shared.Seat.{Seat}
use Rattle.sig_diff.specs.declared.contents.Content.TheVariants.{Cell}
use Rattle.sig_flag.specs.Accounts.{known}
use Rattle.sig_flag.specs.Machines.{Machine, account, Sits, HasNoTurn, HasTurn, OwesNothing, IsPolledBy, IsTaskOf}
use Rattle.sig_flag.specs.declared.accounts.Account.{Account}
use Rattle.sig_flag.specs.declared.shape.FlagShape.{FlagShape}
use Rattle.sig_hist.specs.Histories.{ends_with_leave}
use Rattle.sig_hist.specs.Sources.{Source, IsIn, is_among, writers_of}
use Rattle.sig_hist.specs.declared.plans.SourcePlan.{SourcePlan}

abbrev pub trial_plan : SourcePlan
trial_plan = record {
  start = Cell (pos 5);
  cap = 1;
  allow = record { writer = 0; edits = 3 } ∷ record { writer = 1; edits = 3 } ∷ [];
}

abbrev pub trial_source : Source
trial_source = record { plan = trial_plan; history = [] }

abbrev pub trial_shape : FlagShape
trial_shape = record {
  sources = 1;
  closed = false ∷ [];
  leaves = record { source = 0; task = 0 } ∷ [];
  tasks = 1 ∷ [];
  seats = 2;
}

-- a seat without a turn, of which the writer with this number hasn't left
pub record IsIdle (machine : Machine) (caller : ℕ) (seat : Seat (Option Source) (List Account)) : Type 0 where
  pub sits : Sits machine seat
  pub rests : HasNoTurn seat
  pub number : (account seat).number ≡ caller
  pub writer : is_among caller (writers_of (known (account seat) 0).plan.allow) ≡ true
  pub stays : ends_with_leave (known (account seat) 0).own ≡ false

-- it has nothing to ring and nothing to tell
pub record IsReady (machine : Machine) (caller : ℕ) (seat : Seat (Option Source) (List Account)) : Type 0 where
  pub idle : IsIdle machine caller seat
  pub nothing : OwesNothing seat

-- it has to ring the leaf's bell
pub record IsOwing (machine : Machine) (caller : ℕ) (seat : Seat (Option Source) (List Account)) : Type 0 where
  pub idle : IsIdle machine caller seat
  pub ring : (account seat).rings ≡ 0 ∷ []
  pub no_tell : (account seat).tells ≡ []

-- a seat with the cell's turn, and its state in the slot
pub record IsAtWork (machine : Machine) (caller : ℕ) (seat : Seat (Option Source) (List Account)) : Type 0 where
  pub sits : Sits machine seat
  pub number : (account seat).number ≡ caller
  pub state : Source
  pub turn : HasTurn seat 0 (Some state)
  pub plan : state.plan ≡ (known (account seat) 0).plan
  pub history : state.history ≡ (known (account seat) 0).seen
  pub is_in : IsIn state caller
  pub nothing : OwesNothing seat

pub record IsTrial (machine : Machine) (first second : Seat (Option Source) (List Account)) : Type 0 where
  pub some_source : 0 < length machine.layout.plans
  pub of_leaves : machine.layout.leaves ≡ trial_shape.leaves
  pub of_seats : machine.layout.seats ≡ 2
  pub leaf : IsPolledBy machine.layout 0 1
  pub task : IsTaskOf machine.layout 0 1
  pub zero_ready : IsReady machine 0 first
  pub one_ready : IsReady machine 1 second
