-- When a hub can be made by a plan.
use Rattle.std.specs.Prelude.{ℕ, ◌+◌, ◌^◌, ◌<◌, length, All}
use Rattle.sig_flag.specs.Layouts.{IsLeafOf}
use Rattle.sig_hist.specs.Sources.{IsPlan, writers_of}
use Rattle.sig_hist.specs.declared.plans.SourcePlan.{SourcePlan}
use Rattle.sig_hub.specs.declared.plans.HubPlan.{HubPlan}

-- a plan of a source by so many writers
pub record IsSourceBy (writers : ℕ) (plan : SourcePlan) : Type 0 where
  pub of_plan : IsPlan plan
  pub by : All (λ writer. writer < writers) (writers_of plan.allow)

-- numbers that are in range
pub record HasFairCounts (plan : HubPlan) : Type 0 where
  pub some_source : 0 < length plan.sources
  pub some_poller : 0 < plan.pollers
  pub few_sources : length plan.sources < 2 ^ 32
  pub few_tasks : length plan.tasks < 2 ^ 32
  pub few_passes : plan.writers + plan.pollers < 2 ^ 32

pub record IsSound (plan : HubPlan) : Type 0 where
  pub counts : HasFairCounts plan
  pub sources : All (IsSourceBy plan.writers) plan.sources
  pub leaves : All (IsLeafOf (length plan.sources) (length plan.tasks)) plan.leaves
  pub tasks : All (λ poller. poller < plan.pollers) plan.tasks
