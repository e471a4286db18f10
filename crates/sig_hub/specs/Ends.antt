-- A hub at its end, with the passes that come back.
use Rattle.std.specs.Prelude.{◌≡◌, ℕ, suc, ◌+◌, ◌<◌, ◌≤◌, ◌==◌, List, [], ◌∷◌, ◌++◌, length, sum_by, slice_get, Bool, true, if◌then◌else◌, Some, All, ◌⊎◌}
use Rattle.sig_flag.specs.Accounts.{known, plan_at, hold, watch}
use Rattle.sig_flag.specs.Layouts.{Layout, leaf_at}
use Rattle.sig_flag.specs.Turns.{IsHistory, IsKnown}
use Rattle.sig_hist.specs.Plain.{version_of}
use Rattle.sig_hist.specs.Sources.{Source, is_among}
use Rattle.sig_hist.specs.declared.plans.SourcePlan.{SourcePlan}
use Rattle.sig_hist.specs.declared.ports.Condition.TheVariants.{Waiting}
use Rattle.sig_hist.specs.declared.ports.Version.{Version}
use Rattle.sig_hub.specs.Hubs.{HubState}
use Rattle.sig_hub.specs.Passes.{Pass, IsOf}
use Rattle.sig_hub.specs.declared.ending.FinishError.{FinishError}
use Rattle.sig_hub.specs.declared.ending.FinishError.TheVariants.{Outstanding, NoMemory}
use Rattle.sig_hub.specs.declared.ending.Returned.{Returned}

pub record AreOf (hub : HubState) (back : Returned) : Type 0 where
  pub left : All (IsOf hub.machine) back.left
  pub pollers : All (IsOf hub.machine) back.pollers

-- a hub that is finished: its sources, and the tasks that are to be polled
pub record ClosedState : Type 0 where
  pub sources : List Source
  pub told : List ℕ

-- ---- sources

-- what the pass knows of the source is of this history: it has seen a front of it, and knows all the entries that it made itself
abbrev pub Knew : ℕ → SourcePlan → Source → Pass → Type 0
Knew source plan state pass = IsKnown pass.account.number plan state.history (known pass.account source)

pub record IsLast (back : Returned) (source : ℕ) (plan : SourcePlan) (state : Source) : Type 0 where
  pub of_plan : state.plan ≡ plan
  pub history : IsHistory plan state.history
  pub left : All (Knew source plan state) back.left
  pub pollers : All (Knew source plan state) back.pollers

-- ---- tasks

-- the numbers of those that are true, from the first number on
abbrev pub listed : List Bool → ℕ → List ℕ
listed [] first = []
listed (is ∷ others) first = if is then first ∷ listed others (suc first) else listed others (suc first)

abbrev pub Rises : List ℕ → Type 0
Rises [] = Unit {0}
Rises (first ∷ others) = All (λ other. first < other) others × Rises others

-- how often a task was told by all passes while it wasn't told, and how often it was found told
abbrev pub raised : Returned → ℕ → ℕ
raised back task = sum_by (λ pass. (hold pass.account task).raised) (back.left ++ back.pollers)

abbrev pub found : Returned → ℕ → ℕ
found back task = sum_by (λ pass. (hold pass.account task).found) (back.left ++ back.pollers)

-- in rising order the tasks that were told once more than they were found told, the start counted as a tell
pub record AreTold (layout : Layout) (back : Returned) (told : List ℕ) : Type 0 where
  pub rising : Rises told
  pub within : All (λ task. task < length layout.pollers) told
  pub each : (task : ℕ) → task < length layout.pollers → is_among task told ≡ (found back task == raised back task)

-- where a leaf of the pass waits, its source shows what it showed then, or its task is to be polled, or the pass has a token of it
abbrev pub IsHeard : Layout → List ℕ → ℕ → Source → Pass → Type 0
IsHeard layout told leaf state pass = (version : Version) → (watch pass.account leaf).condition ≡ Waiting version →
    (version_of state ≡ version) ⊎ ((is_among (leaf_at layout.leaves leaf).task told ≡ true) ⊎ (0 < (hold pass.account (leaf_at layout.leaves leaf).task).tokens))

-- ---- the end

pub record IsFinished (hub : HubState) (back : Returned) (closed : ClosedState) : Type 0 where
  pub all_back : hub.writers + hub.pollers ≤ length back.left + length back.pollers
  pub all : length closed.sources ≡ length hub.machine.layout.plans
  pub each : (source : ℕ) (state : Source) → slice_get closed.sources source ≡ Some state → IsLast back source (plan_at hub.machine.layout.plans source) state
  pub told : AreTold hub.machine.layout back closed.told
  pub heard : (leaf : ℕ) (state : Source) → leaf < length hub.machine.layout.leaves → slice_get closed.sources (leaf_at hub.machine.layout.leaves leaf).source ≡ Some state →
      All (IsHeard hub.machine.layout closed.told leaf state) back.pollers

-- why a hub isn't finished: fewer passes were given back than were made, or memory was wanting. All comes back
abbrev pub IsRefusal : HubState → Returned → FinishError → Type 0
IsRefusal hub back (Outstanding made given same_hub same_back) =
    (made ≡ hub.writers + hub.pollers) × (given ≡ length back.left + length back.pollers) × (given < made) × (same_hub ≡ hub) × (same_back ≡ back)
IsRefusal hub back (NoMemory same_hub same_back) = (hub.writers + hub.pollers ≤ length back.left + length back.pollers) × (same_hub ≡ hub) × (same_back ≡ back)
