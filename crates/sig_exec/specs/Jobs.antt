-- What an executor keeps of its jobs, what holds of them between two turns, and what a turn does with each.
use Rattle.std.specs.Prelude.{◌≡◌, ℕ, ◌+◌, ◌-◌, ◌^◌, ◌<◌, ◌≤◌, ◌==◌, min, List, [], ◌∷◌, ◌++◌, length, map, take, sum_by, count_by, slice_get, slice_index, Bool, true, false, Option, None, Some, ◌⊎◌, All}
use Rattle.std.specs.List.{list_any}
use Rattle.sig_flag.specs.Machines.{IsTaskOf}
use Rattle.sig_hist.specs.Ports.{IsSoundPort, PortState}
use Rattle.sig_hist.specs.declared.ports.Condition.TheVariants.{Waiting}
use Rattle.sig_hist.specs.declared.ports.Version.{Version}
use Rattle.sig_hub.specs.Hubs.{HubState}
use Rattle.sig_hub.specs.Passes.{Pass, HasTold, IsOf}
use Rattle.sig_hub.specs.Polls.{Token, port_of}
use Rattle.sig_rows.specs.SoundRows.{AreSound, is_awaited}
use Rattle.sig_rows.specs.declared.rows.Row.{Row}
use Rattle.sig_view.specs.Polling.{IsAtEnd, IsSameTask, IsTold}
use Rattle.sig_view.specs.Tasks.{first_of, is_ended, positions_of, sources_of, view_of}
use Rattle.sig_view.specs.Watching.{IsWatching}
use Rattle.sig_view.specs.declared.task.ViewTask.{ViewTask}
use Rattle.sig_view.specs.declared.watching.WatchedView.{WatchedView}
use Rattle.sig_walk.specs.Walking.{HasSeenMore}
use Rattle.sig_exec.specs.declared.jobs.Job.{Job}
use Rattle.sig_exec.specs.declared.jobs.Job.TheVariants as job
use Rattle.sig_exec.specs.declared.jobs.Phase.{Phase}
use Rattle.sig_exec.specs.declared.jobs.Phase.TheVariants.{Live, Ended, Lost}
use Rattle.sig_exec.specs.declared.jobs.Turned.{Turned}
use Rattle.sig_exec.specs.declared.jobs.Work.{Work}

-- ---- jobs

-- a job before its first poll
abbrev pub work_of : ℕ → Job → Work
work_of task (job.View number view) = record { task = task; number = number; view = record { task = view; rows = [] }; phase = Live None }

abbrev pub works_of : List (ℕ × Job) → List Work
works_of jobs = map (λ job. work_of job.0 job.1) jobs

abbrev pub live_in : Phase → Bool
live_in (Live told) = true
live_in phase = false

abbrev pub lost_in : Phase → Bool
lost_in Lost = true
lost_in phase = false

-- its view goes on; memory was wanting for it
abbrev pub is_live : Work → Bool
is_live work = live_in work.phase

abbrev pub is_lost : Work → Bool
is_lost work = lost_in work.phase

abbrev pub rows_of : Work → List Row
rows_of work = work.view.rows

abbrev pub task_of : Work → ℕ
task_of work = work.task

-- ---- between two turns

abbrev pub token_of : HubState → ℕ → Token
token_of hub task = record { hub = hub.machine; task = task }

-- of a live job's task as many tokens are held as the job keeps: one or none
abbrev pub Keeps : HubState → PortState → ℕ → Option Token → Type 0
Keeps hub s task (Some told) = (told ≡ token_of hub task) × (s.tokens task ≡ 1)
Keeps hub s task None = s.tokens task ≡ 0

-- by the phase: the rows are sound for what was seen, and those of a view that has ended are complete
abbrev pub IsIn : HubState → PortState → ℕ → WatchedView → Phase → Type 0
IsIn hub s task view (Live told) = IsWatching s view × (is_ended view.task ≡ false) × Keeps hub s task told
IsIn hub s task view Ended = IsWatching s view × (is_ended view.task ≡ true)
IsIn hub s task view Lost = AreSound (view_of view.task) (sources_of s view.task) view.rows

-- the pass polls the job's task, and the view's leaves are that task's
pub record IsJob (hub : HubState) (pass : Pass) (work : Work) : Type 0 where
  pub of_task : IsTaskOf hub.machine.layout work.task pass.account.number
  pub first : (port_of pass).task (first_of work.view.task) ≡ work.task
  pub is_in : IsIn hub (port_of pass) work.task work.view work.phase

-- no two jobs are of the same task
abbrev pub AreApart : List Work → Type 0
AreApart works = (one other : ℕ) → one < length works → other < length works → slice_index (map task_of works) one ≡ slice_index (map task_of works) other → one ≡ other

-- the jobs of an executor on a pass, which has nothing to ring and nothing to tell
pub record AreJobs (hub : HubState) (pass : Pass) (works : List Work) : Type 0 where
  pub of : IsOf hub.machine pass
  pub told : HasTold pass
  pub sound : IsSoundPort (port_of pass)
  pub each : All (IsJob hub pass) works
  pub apart : AreApart works

-- ---- while jobs are polled

-- at a later moment a port has the same leaves, and has seen, set and missed no less. How often a bell was set is counted as far as 64 bits reach
pub record HasGoneOn (s t : PortState) : Type 0 where
  pub more : HasSeenMore s t
  pub arms : (leaf : ℕ) → min (s.arms leaf) (2 ^ 64 - 1) ≤ t.arms leaf
  pub missed : (task : ℕ) → s.missed task ≤ t.missed task

-- what polls of one task leave of the others: their tokens, and their leaves that wait
pub record StaysForOthers (s t : PortState) (task : ℕ) : Type 0 where
  pub goes_on : HasGoneOn s t
  pub tokens : (other : ℕ) → (other == task) ≡ false → t.tokens other ≡ s.tokens other
  pub waits : (leaf : ℕ) (version : Version) → (s.task leaf == task) ≡ false → s.condition leaf ≡ Waiting version → t.condition leaf ≡ Waiting version

-- ---- a turn of one job

-- a view waits: the bell of each awaited leaf was set between two moments, and after that a look showed the leaf's position, or the leaf is at the
-- end of a closed history; and that isn't so of all
pub record Waits (s t : PortState) (view : ViewTask) : Type 0 where
  pub each : (leaf : ℕ) → is_awaited (view_of view) (sources_of t view) (positions_of view) leaf ≡ true → IsTold s t view view leaf ⊎ IsAtEnd s t view view leaf
  pub some : (leaf : ℕ) × (is_awaited (view_of view) (sources_of t view) (positions_of view) leaf ≡ true) × IsTold s t view view leaf

-- no token of a task was held, and it was found untold
pub record IsUntold (s t : PortState) (task : ℕ) : Type 0 where
  pub no_token : s.tokens task ≡ 0
  pub missed : s.missed task < t.missed task

abbrev pub HasRowMore : List Row → List Row → Type 0
HasRowMore old new = (row : Row) × (new ≡ old ++ row ∷ [])

-- what came of a live job, by its new phase: a row, or for a stated cause none
abbrev pub HasGiven : PortState → PortState → ℕ → List Row → WatchedView → Phase → Type 0
HasGiven s t task rows new (Live (Some told)) = HasRowMore rows new.rows
HasGiven s t task rows new (Live None) = (new.rows ≡ rows) × (Waits s t new.task ⊎ IsUntold s t task)
HasGiven s t task rows new Ended = HasRowMore rows new.rows
HasGiven s t task rows new Lost = new.rows ≡ rows

pub record HasGone (s t : PortState) (task : ℕ) (old new : WatchedView) (phase : Phase) : Type 0 where
  pub same : IsSameTask old.task new.task
  pub given : HasGiven s t task old.rows new phase

-- by the old phase and the new one: a job that isn't live stays as it is
abbrev pub HasTurned : PortState → PortState → ℕ → WatchedView → WatchedView → Phase → Phase → Type 0
HasTurned s t task old new (Live told) next = HasGone s t task old new next
HasTurned s t task old new phase next = (new ≡ old) × (next ≡ phase)

pub record HasWorked (s t : PortState) (old new : Work) : Type 0 where
  pub task : new.task ≡ old.task
  pub number : new.number ≡ old.number
  pub turned : HasTurned s t old.task old.view new.view old.phase new.phase

-- ---- a turn

-- every job had its turn, and so many rows came
pub record HasWorkedAll (s t : PortState) (old new : List Work) (rows : ℕ) : Type 0 where
  pub all : length new ≡ length old
  pub each : (k : ℕ) (work next : Work) → slice_get old k ≡ Some work → slice_get new k ≡ Some next → HasWorked s t work next
  pub counted : sum_by (λ work. length (rows_of work)) old + rows ≡ sum_by (λ work. length (rows_of work)) new

pub record IsTurn (s t : PortState) (old new : List Work) (turned : Turned) : Type 0 where
  pub worked : HasWorkedAll s t old new turned.rows
  pub live : turned.live ≡ count_by is_live new
  pub short : turned.short ≡ list_any is_lost new

-- ---- turns one after another

-- the same job with more rows behind those that it had
pub record IsFurther (old new : Work) : Type 0 where
  pub task : new.task ≡ old.task
  pub number : new.number ≡ old.number
  pub same : IsSameTask old.view.task new.view.task
  pub rows : take (length (rows_of old)) (rows_of new) ≡ rows_of old

pub record HasRun (old new : List Work) : Type 0 where
  pub all : length new ≡ length old
  pub each : (k : ℕ) (work next : Work) → slice_get old k ≡ Some work → slice_get new k ≡ Some next → IsFurther work next
