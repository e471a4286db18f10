-- What a hub's passes are made of.
use Rattle.std.specs.Prelude.{◌≡◌, ℕ, suc, ◌<◌, ◌≤◌, List, [], ◌∷◌, length, Bool, All}
use Rattle.sig_flag.specs.Accounts.{opening_account, plan_at}
use Rattle.sig_flag.specs.Layouts.{Layout}
use Rattle.sig_flag.specs.Machines.{Machine, Has}
use Rattle.sig_hist.specs.Histories.{is_closed}
use Rattle.sig_hist.specs.Sources.{Source, is_among, writers_of}
use Rattle.sig_hist.specs.declared.plans.SourcePlan.{SourcePlan}
use Rattle.sig_hub.specs.Hubs.{HubState, new_pass}
use Rattle.sig_hub.specs.Passes.{Pass, Falls}
use Rattle.sig_hub.specs.Turns.{PassSeat}
use Rattle.sig_hub.specs.declared.starting.Draft.{Draft}

-- each of the source's writers has left
abbrev pub has_closed : Source → Bool
has_closed state = is_closed (writers_of state.plan.allow) state.history

-- the sources that a writer writes, of those from a place on, the greatest first
pub record AreWritten (plans : List SourcePlan) (number place : ℕ) (sources : List ℕ) : Type 0 where
  pub within : All (λ source. source < length plans) sources
  pub past : All (λ source. place ≤ source) sources
  pub each : (source : ℕ) → place ≤ source → is_among source sources ≡ is_among number (writers_of (plan_at plans source).allow)
  pub falling : Falls sources

-- a writer's number, and the sources that it writes
pub record IsDraft (plans : List SourcePlan) (number : ℕ) (draft : Draft) : Type 0 where
  pub of_number : draft.number ≡ number
  pub of_sources : AreWritten plans number 0 draft.sources.items

-- numbered from the first number on
abbrev pub AreDrafts : List SourcePlan → ℕ → List Draft → Type 0
AreDrafts plans first [] = Unit {0}
AreDrafts plans first (draft ∷ drafts) = IsDraft plans first draft × AreDrafts plans (suc first) drafts

pub record IsNewSeat (machine : Machine) (number : ℕ) (seat : PassSeat) : Type 0 where
  pub at_table : seat.table_id ≡ machine.id
  pub has : Has seat (opening_account machine.layout number) []

abbrev pub AreNewSeats : Machine → ℕ → List PassSeat → Type 0
AreNewSeats machine first [] = Unit {0}
AreNewSeats machine first (seat ∷ seats) = IsNewSeat machine first seat × AreNewSeats machine (suc first) seats

abbrev pub AreNewPasses : HubState → ℕ → List Pass → Type 0
AreNewPasses hub first [] = Unit {0}
AreNewPasses hub first (pass ∷ passes) = (pass ≡ new_pass hub first) × AreNewPasses hub (suc first) passes

-- a machine that is made for this, and all its seats
pub record IsSeated (layout : Layout) (machine : Machine) (seats : List PassSeat) : Type 0 where
  pub of_plans : machine.layout.plans ≡ layout.plans
  pub of_leaves : machine.layout.leaves ≡ layout.leaves
  pub of_pollers : machine.layout.pollers ≡ layout.pollers
  pub of_seats : machine.layout.seats ≡ layout.seats
  pub of_slots : machine.id.slots ≡ length machine.layout.plans
  pub counted : length seats ≡ layout.seats
  pub new : AreNewSeats machine 0 seats
