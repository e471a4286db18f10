-- A machine's table at its end.
use Rattle.std.specs.Prelude.{◌≡◌, ℕ, ◌+◌, ◌<◌, ◌==◌, List, [], length, sum_by, slice_get, slice_index_or, Bool, false, Option, Some}
use Rattle.atomic_table.specs.Seated.{TableId}
use Rattle.atomic_table.specs.declared.shared.Seat.{Seat}
use Rattle.sig_flag.specs.Accounts.{plan_at, hold}
use Rattle.sig_flag.specs.Layouts.{Layout, ready_of}
use Rattle.sig_flag.specs.Machines.{account, Has, IsLast, NoneWaits}
use Rattle.sig_flag.specs.declared.accounts.Account.{Account}
use Rattle.sig_hist.specs.declared.edits.Entry.{Entry}
use Rattle.sig_hist.specs.declared.plans.SourcePlan.{SourcePlan}
use lib.ListN.{get_elem?}
use mathlib.Core.Option.{some}

-- whether the words from the first on, so many, are 1
pub record AreReady (words : List ℕ) (first count : ℕ) (ready : List Bool) : Type 0 where
  pub all : length ready ≡ count
  pub each : (k word : ℕ) → k < count → get_elem? words (first + k) ≡ some word → slice_index_or ready k false ≡ (word == 1)

module _ {V : Type 0} where
  -- the seat is at the table, and has its account and no state
  pub record Rests (id : TableId) (seat : Seat (Option V) (List Account)) : Type 0 where
    pub at_table : seat.table_id ≡ id
    pub has : Has seat (account seat) []

  -- each slot has a state
  pub record AreHome (slots : List (Option V)) : Type 0 where
    pub each : (k : ℕ) → k < length slots → (state : V) × (get_elem? slots k ≡ some (Some state))

  -- the states of the first slots
  pub record AreTaken (slots : List (Option V)) (count : ℕ) (states : List V) : Type 0 where
    pub all : length states ≡ count
    pub each : (k : ℕ) (state : V) → slice_get states k ≡ Some state → get_elem? slots k ≡ some (Some state)

  -- a task's word tells whether it was told once more than it was found told, the start counted
  pub record AreCounted (layout : Layout) (seats : List (Seat (Option V) (List Account))) (words : List ℕ) : Type 0 where
    pub each : (task word : ℕ) → task < length layout.pollers → get_elem? words (ready_of layout task) ≡ some word →
        word + sum_by (λ seat. (hold (account seat) task).found) seats ≡ 1 + sum_by (λ seat. (hold (account seat) task).raised) seats

module _ {V : Type 0} (plan_of : V → SourcePlan) (history_of : V → List Entry) where
  -- by the slots and the words
  abbrev pub AreHeard : Layout → List (Seat (Option V) (List Account)) → List ℕ → List (Option V) → Type 0
  AreHeard layout seats words slots = NoneWaits plan_of history_of layout seats (λ source state. get_elem? slots source ≡ some (Some state))
      (λ task. get_elem? words (ready_of layout task) ≡ some 1)

  -- each source's state is in its slot
  pub record IsShut (plans : List SourcePlan) (seats : List (Seat (Option V) (List Account))) (slots : List (Option V)) : Type 0 where
    pub counted : length slots ≡ length plans
    pub each : (source : ℕ) → source < length plans → (state : V) × (get_elem? slots source ≡ some (Some state)) × IsLast plan_of history_of seats source (plan_at plans source) state
