-- A view with the rows that its polls gave.
use Rattle.std.specs.Prelude.{◌≡◌, ◌≢◌, ℕ, List, [], ◌∷◌, ◌++◌, Bool, true, false, Option, ◌⊎◌}
use Rattle.sig_expr.specs.declared.expressions.View.{View}
use Rattle.sig_hist.specs.Ports.{PortState}
use Rattle.sig_rows.specs.SoundRows.{AreSound, Seen, are_complete, last_at, nothing_seen, seen_of, tags_of}
use Rattle.sig_rows.specs.declared.rows.Body.TheVariants.{Ended}
use Rattle.sig_rows.specs.declared.rows.Row.{Row}
use Rattle.sig_view.specs.Polling.{IsPoll, IsSameTask}
use Rattle.sig_view.specs.Tasks.{IsNew, IsReady, has_row, is_ended, is_failed, positions_of, sources_of, tags_at, view_of}
use Rattle.sig_view.specs.declared.task.Polled.{Polled}
use Rattle.sig_view.specs.declared.task.Polled.TheVariants as polled
use Rattle.sig_view.specs.declared.watching.WatchedView.{WatchedView}
use Rattle.sig_walk.specs.Waiting.{HasPolled}
use Rattle.sig_walk.specs.Walking.{HasNews}
use Rattle.sig_view.specs.declared.watching.Watched.{Watched}
use Rattle.sig_view.specs.declared.watching.Watched.TheVariants as watched

-- before the first poll
pub record IsUnpolled (shown : View) (caps : List ℕ) (first : ℕ) (view : WatchedView) : Type 0 where
  pub is_new : IsNew shown caps first view.task
  pub no_rows : view.rows ≡ []

-- ---- between two polls

-- what the rows have shown with their tags
abbrev pub seen_by : WatchedView → Seen
seen_by view = seen_of (nothing_seen (view_of view.task)) view.rows

-- by whether the task gave a row: there is none, or the last one stands where the task does, and the task goes on with the rows' tags
abbrev pub HasRows : Bool → WatchedView → Type 0
HasRows false view = view.rows ≡ []
HasRows true view = (view.rows ≢ []) × (last_at [] view.rows ≡ positions_of view.task) × (is_ended view.task ≡ false → tags_of (seen_by view) ≡ tags_at view.task)

-- the rows are sound for what the port has seen, and the last is an ended row exactly where the view has ended
pub record IsWatching (s : PortState) (view : WatchedView) : Type 0 where
  pub ready : IsReady s view.task
  pub works : is_failed view.task ≡ false
  pub sound : AreSound (view_of view.task) (sources_of s view.task) view.rows
  pub complete : are_complete view.rows ≡ is_ended view.task
  pub rows : HasRows (has_row view.task) view

-- ---- a poll

-- memory was wanting: the rows are as they were, and sound for what the port has seen by then. After the first row that takes a leaf whose source has
-- shown more than the leaf had passed, or a view that has ended, whose last row takes memory too
pub record IsLost (s t : PortState) (old new : WatchedView) : Type 0 where
  pub ready : IsReady t new.task
  pub same : IsSameTask old.task new.task
  pub polled : HasPolled s t old.task.walk false
  pub rows : new.rows ≡ old.rows
  pub sound : AreSound (view_of new.task) (sources_of t new.task) new.rows
  pub cause : has_row old.task ≡ true → HasNews t old.task.walk ⊎ (is_ended new.task ≡ true)

module _ {T : Type 0} (s t : PortState) (old new : WatchedView) (told : T) where
  -- the task was polled, with this answer, and these rows came behind the others
  pub record IsGiven (answer : Polled T) (given : List Row) : Type 0 where
    pub poll : IsPoll s t old.task new.task told answer
    pub rows : new.rows ≡ old.rows ++ given
    pub watching : IsWatching t new

  abbrev pub HasWatched : Watched T → Type 0
  HasWatched (watched.Row token held) = (row : Row) × IsGiven (polled.Batch row token held) (row ∷ [])
  HasWatched watched.Pending = IsGiven polled.Pending []
  HasWatched (watched.Again word token) = IsGiven (polled.Again word token) []
  HasWatched watched.Ended = IsGiven polled.Ended (record { at = positions_of new.task; body = Ended } ∷ [])
  HasWatched watched.NoMemory = IsLost s t old new
