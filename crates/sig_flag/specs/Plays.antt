-- What each step on a table tells its seat. A step at a source has its number for its word.
use Rattle.std.specs.Prelude.{◌≡◌, ◌<◌, ◌/◌, ◌^◌, ◌==◌, ℕ, List, [], ◌∷◌, ◌++◌, slice_get, true, false, Option, Some}
use Rattle.atomic_table.specs.Seated.{TableId}
use Rattle.atomic_table.specs.Table.{Me, Step}
use Rattle.atomic_table.specs.declared.shared.Seat.{Seat}
use Rattle.sig_flag.specs.Accounts.{accounts_from, opening_account, account_of, known, after_look, after_last_look, after_turn, after_held, after_give, after_arm, after_ring, after_tell, after_collect}
use Rattle.sig_flag.specs.Layouts.{Layout}
use Rattle.sig_flag.specs.Machines.{IsShown, IsMet, Has}
use Rattle.sig_flag.specs.Words.{version_in, is_held}
use Rattle.sig_flag.specs.declared.accounts.Account.{Account}
use Rattle.sig_flag.specs.declared.shape.LeafPlan.{LeafPlan}
use Rattle.sig_hist.specs.declared.edits.Entry.{Entry}
use Rattle.sig_hist.specs.declared.plans.SourcePlan.{SourcePlan}

abbrev pub Seated : Type 0 → Type 0
Seated V = Me (Option V) (List Account)

-- ---- the start and the end

-- the first account goes to a seat of its own
abbrev pub first_alone : List Account → List Account
first_alone [] = []
first_alone (account ∷ accounts) = account ∷ []

abbrev pub all_others : List Account → List Account
all_others [] = []
all_others (account ∷ accounts) = accounts

-- another seat's accounts go in front of one's own
abbrev pub with_others : List Account → List Account → List Account
with_others accounts others = others ++ accounts

abbrev pub no_account : List Account
no_account = []

-- the seat that has the accounts of this number and above, and the seats that were made before it
module _ {V : Type 0} (id : TableId) (layout : Layout) where
  pub record IsLeft (first seats : ℕ) (seat : Seat (Option V) (List Account)) : Type 0 where
    pub at_table : seat.table_id ≡ id
    pub has : seat.me ≡ (accounts_from layout first seats, [])

  pub record AreDealt (seats : List (Seat (Option V) (List Account))) : Type 0 where
    pub each : (k : ℕ) (seat : Seat (Option V) (List Account)) → slice_get seats k ≡ Some seat → (seat.table_id ≡ id) × Has seat (opening_account layout k) []

-- ---- the steps

module _ {V : Type 0} where
  -- a seat has one account, and these slots
  abbrev pub Stands : Seated V → Account → List (ℕ × Option V) → Type 0
  Stands me account slots = me ≡ (account ∷ [], slots)

  pub record IsLook (leaves : List LeafPlan) (step : Step (Option V)) (old : Seated V) (word : ℕ) (new : Seated V) : Type 0 where
    pub short : word / 4 < 2 ^ 32
    pub has : Stands new (after_look leaves (account_of old.0) step.word (version_in word)) old.1
    pub shown : IsShown (known (account_of old.0) step.word) (version_in word)

  -- at the source of a leaf of which so many entries are known
  pub record IsLastLook (leaves : List LeafPlan) (leaf at : ℕ) (step : Step (Option V)) (old : Seated V) (word : ℕ) (new : Seated V) : Type 0 where
    pub short : word / 4 < 2 ^ 32
    pub has : Stands new (after_last_look leaves (account_of old.0) leaf at (version_in word)) old.1
    pub shown : IsShown (known (account_of old.0) step.word) (version_in word)

  -- at a leaf's bell
  abbrev pub IsArming : ℕ → Step (Option V) → Seated V → ℕ → Seated V → Type 0
  IsArming leaf step old word new = Stands new (after_arm (account_of old.0) leaf) old.1

  abbrev pub IsRinging : List LeafPlan → ℕ → Step (Option V) → Seated V → ℕ → Seated V → Type 0
  IsRinging leaves leaf step old word new = Stands new (after_ring leaves (account_of old.0) leaf (word == 1)) old.1

  -- at a task's ready word
  abbrev pub IsTelling : ℕ → Step (Option V) → Seated V → ℕ → Seated V → Type 0
  IsTelling task step old word new = Stands new (after_tell (account_of old.0) task (word == 1)) old.1

  abbrev pub IsCollecting : List LeafPlan → ℕ → Step (Option V) → Seated V → ℕ → Seated V → Type 0
  IsCollecting leaves task step old word new = Stands new (after_collect leaves (account_of old.0) task (word == 1)) old.1

module _ {V : Type 0} (plan_of : V → SourcePlan) (history_of : V → List Entry) where
  -- what a take tells, by whether it found the word held
  pub record IsTaking (step : Step (Option V)) (old : Seated V) (word : ℕ) (new : Seated V) : Type 0 where
    pub held : is_held word ≡ true → Stands new (after_held (account_of old.0) step.word word) old.1
    pub turn : is_held word ≡ false → (state : V) × IsMet plan_of history_of (account_of old.0).number (known (account_of old.0) step.word) state
        × Stands new (after_turn (account_of old.0) step.word (history_of state)) ((step.word, Some state) ∷ old.1)

  -- the turn is back, with the state that was in the slot
  pub record IsGiving (leaves : List LeafPlan) (step : Step (Option V)) (old : Seated V) (word : ℕ) (new : Seated V) : Type 0 where
    pub has : (state : V) → old.1 ≡ (step.word, Some state) ∷ [] → Stands new (after_give leaves (account_of old.0) step.word (history_of state)) []
