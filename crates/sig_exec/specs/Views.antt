-- A hub for views, and the jobs of each of its pollers.
use Rattle.std.specs.Prelude.{◌≡◌, ℕ, zero, suc, ◌-◌, ◌%◌, ◌^◌, ◌==◌, min, List, [], ◌∷◌, ◌++◌, length, map, take, slice_get, nat_le, Bool, true, if◌then◌else◌, None, Some, All}
use Rattle.sig_expr.specs.Bounds.{cap_of}
use Rattle.sig_expr.specs.Lengths.{longest}
use Rattle.sig_expr.specs.Leaves.{leaves}
use Rattle.sig_expr.specs.Shapes.{view_tree}
use Rattle.sig_expr.specs.declared.expressions.View.{View}
use Rattle.sig_flag.specs.declared.shape.LeafPlan.{LeafPlan}
use Rattle.sig_hist.specs.declared.plans.SourcePlan.{SourcePlan}
use Rattle.sig_hub.specs.Hubs.{AreNew, HubState, IsMade}
use Rattle.sig_hub.specs.Passes.{Pass}
use Rattle.sig_hub.specs.Plans.{IsSound}
use Rattle.sig_hub.specs.declared.hub.Passes.{Passes}
use Rattle.sig_hub.specs.declared.plans.HubPlan.{HubPlan}
use Rattle.sig_view.specs.Watching.{IsUnpolled}
use Rattle.sig_exec.specs.Jobs.{AreJobs}
use Rattle.sig_exec.specs.declared.jobs.Phase.TheVariants.{Live}
use Rattle.sig_exec.specs.declared.jobs.Work.{Work}
use Rattle.sig_exec.specs.declared.watch.Watch.{Watch}
use Rattle.sig_exec.specs.declared.watch.WatchError.{WatchError}
use Rattle.sig_exec.specs.declared.watch.WatchError.TheVariants.{Unsound, TooLong, NoMemory}

-- ---- the hub

-- a leaf of a task. A source's number beyond 32 bits, which no source has, is the last of these
abbrev pub leaf_of : ℕ → ℕ → LeafPlan
leaf_of task source = record { source = min source (2 ^ 32 - 1); task = task }

-- the leaves of views, the first of which is the task with this number
abbrev pub leaves_from : ℕ → List View → List LeafPlan
leaves_from task [] = []
leaves_from task (view ∷ views) = map (leaf_of task) (leaves (view_tree view)) ++ leaves_from (suc task) views

-- the pollers of so many tasks, the first of which has this number
abbrev pub pollers_from : ℕ → ℕ → ℕ → List ℕ
pollers_from pollers task zero = []
pollers_from pollers task (suc others) = task % pollers ∷ pollers_from pollers (suc task) others

abbrev pub plan_for : List SourcePlan → ℕ → ℕ → List View → HubPlan
plan_for sources writers pollers views = record { sources = sources; leaves = leaves_from 0 views; tasks = pollers_from pollers 0 (length views); pollers = pollers; writers = writers }

-- ---- jobs

-- whether no part of a view can get too long to be followed
abbrev pub fits : List ℕ → View → Bool
fits caps view = nat_le (longest (cap_of caps) (view_tree view)) 65536

-- the numbers of a poller's views
abbrev pub numbers_from : ℕ → ℕ → ℕ → List View → List ℕ
numbers_from pollers poller number [] = []
numbers_from pollers poller number (view ∷ views) = if number % pollers == poller then number ∷ numbers_from pollers poller (suc number) views else numbers_from pollers poller (suc number) views

-- how many leaves the views before one have
abbrev pub leaves_before : List View → ℕ → ℕ
leaves_before views number = length (leaves_from 0 (take number views))

-- the job of a view before its first poll
pub record IsViewJob (view : View) (caps : List ℕ) (number first : ℕ) (work : Work) : Type 0 where
  pub of_task : work.task ≡ number
  pub of_number : work.number ≡ number
  pub unpolled : IsUnpolled view caps first work.view
  pub lives : work.phase ≡ Live None

pub record IsJobOf (views : List View) (caps : List ℕ) (work : Work) : Type 0 where
  pub view : View
  pub at : slice_get views work.number ≡ Some view
  pub is_new : IsViewJob view caps work.number (leaves_before views work.number) work

pub record AreJobsOf (views : List View) (caps : List ℕ) (pollers poller : ℕ) (works : List Work) : Type 0 where
  pub numbers : map (λ work. work.number) works ≡ numbers_from pollers poller 0 views
  pub each : All (IsJobOf views caps) works

-- ---- the start

-- a poller's pass of a hub for views, at the start
pub record IsPollerFor (sources : List SourcePlan) (writers pollers poller : ℕ) (views : List View) (hub : HubState) (pass : Pass) : Type 0 where
  pub passes : Passes
  pub sound : IsSound (plan_for sources writers pollers views)
  pub made : IsMade (plan_for sources writers pollers views) hub passes
  pub at : slice_get passes.pollers poller ≡ Some pass

-- jobs that may be polled on the pass of their poller
abbrev pub StartsFor : List View → List ℕ → ℕ → ℕ → List Work → Type 0
StartsFor views caps pollers poller works = (sources : List SourcePlan) (writers : ℕ) (hub : HubState) (pass : Pass) → caps ≡ map (λ (plan : SourcePlan). plan.cap) sources → IsPollerFor sources writers pollers poller views hub pass → AreJobs hub pass works

-- ---- one poller

abbrev pub caps_of : List SourcePlan → List ℕ
caps_of sources = map (λ plan. plan.cap) sources

-- a hub of these sources for views, with its writers' passes, and an executor of the views
pub record IsWatch (sources : List SourcePlan) (writers : ℕ) (views : List View) (watch : Watch) : Type 0 where
  pub of_sources : watch.hub.machine.layout.plans ≡ sources
  pub writers_are : AreNew watch.hub 0 writers watch.writers
  pub of_views : AreJobsOf views (caps_of sources) 1 0 watch.exec
  pub jobs : AreJobs watch.hub watch.pass watch.exec

-- why there is none
abbrev pub IsNoWatch : List SourcePlan → ℕ → List View → WatchError → Type 0
IsNoWatch sources writers views Unsound = IsSound (plan_for sources writers 1 views) → ⊥
IsNoWatch sources writers views TooLong = All (λ view. fits (caps_of sources) view ≡ true) views → ⊥
IsNoWatch sources writers views NoMemory = Unit {0}
