-- A hub, and its passes at the start.
use Rattle.std.specs.Prelude.{◌≡◌, ℕ, ◌+◌, ◌^◌, ◌<◌, List, length, map, slice_get, Some, All}
use Rattle.sig_flag.specs.Accounts.{opening_account}
use Rattle.sig_flag.specs.Machines.{Machine}
use Rattle.sig_hist.specs.Ports.{IsSoundPort}
use Rattle.sig_hub.specs.Passes.{Pass}
use Rattle.sig_hub.specs.Polls.{port_of}
use Rattle.sig_hub.specs.declared.hub.Passes.{Passes}
use Rattle.sig_hub.specs.declared.plans.HubPlan.{HubPlan}

-- its machine, and how many passes were made: the writers' numbers come first
pub record HubState : Type 0 where
  pub machine : Machine
  pub writers : ℕ
  pub pollers : ℕ

pub record IsHub (hub : HubState) : Type 0 where
  pub slots : hub.machine.id.slots ≡ length hub.machine.layout.plans
  pub seats : hub.machine.layout.seats ≡ hub.writers + hub.pollers
  pub few : hub.writers + hub.pollers < 2 ^ 32

-- ---- the start

-- a pass at the start, which has seen and made nothing
abbrev pub new_pass : HubState → ℕ → Pass
new_pass hub number = record { hub = hub.machine; account = opening_account hub.machine.layout number }

-- so many passes, numbered from the first number on
pub record AreNew (hub : HubState) (first count : ℕ) (passes : List Pass) : Type 0 where
  pub all : length passes ≡ count
  pub each : (k : ℕ) (pass : Pass) → slice_get passes k ≡ Some pass → pass ≡ new_pass hub (first + k)

pub record IsMade (plan : HubPlan) (hub : HubState) (passes : Passes) : Type 0 where
  pub of_sources : hub.machine.layout.plans ≡ plan.sources
  pub of_leaves : hub.machine.layout.leaves ≡ plan.leaves
  -- the pollers' seats come after those of the writers
  pub of_tasks : hub.machine.layout.pollers ≡ map (λ poller. plan.writers + poller) plan.tasks
  pub of_writers : hub.writers ≡ plan.writers
  pub of_pollers : hub.pollers ≡ plan.pollers
  pub writers : AreNew hub 0 plan.writers passes.writers
  pub pollers : AreNew hub plan.writers plan.pollers passes.pollers
  pub sound : All (λ pass. IsSoundPort (port_of pass)) passes.pollers
