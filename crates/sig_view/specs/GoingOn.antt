-- A walk over all leaves after the first row, as a part of a poll.
use Rattle.std.specs.Prelude.{◌≡◌, ℕ, ◌<◌, ◌+◌, slice_index, true, false, None, Some}
use Rattle.sig_expr.specs.Awaited.{awaits}
use Rattle.sig_hist.specs.Ports.{PortState}
use Rattle.sig_rows.specs.Flow.{flow, tags_after, with_tags}
use Rattle.sig_view.specs.Polling.{IsSameTask}
use Rattle.sig_rows.specs.SoundRows.{is_awaited}
use Rattle.sig_hist.specs.Ways.{ways}
use Rattle.sig_view.specs.Tasks.{IsReady, contents_of, has_row, is_ended, is_failed, is_following, positions_of, sources_of, tags_at, view_of}
use Rattle.sig_walk.specs.Walking.{HasLooked, HasNews, HasWalked, set_out}
use Rattle.sig_rows.specs.declared.rows.Body.{Body}
use Rattle.sig_view.specs.declared.task.Going.{Going}
use Rattle.sig_view.specs.declared.task.Going.TheVariants.{Answered, Nowhere}
use Rattle.sig_view.specs.declared.task.Polled.TheVariants.{Again, Batch, NoMemory}
use Rattle.sig_view.specs.declared.task.Stage.TheVariants.{Failed}
use Rattle.sig_view.specs.declared.task.ViewTask.{ViewTask}

abbrev pub failed_now : ViewTask → ViewTask
failed_now task = record task { stage = Failed true }

-- all awaited leaves were taken along, and the view gives this for that
pub record HasStepped (s t : PortState) (old new : ViewTask) (body : Body) : Type 0 where
  pub looked : HasLooked s t
  pub ready : IsReady t new
  pub same : IsSameTask old new
  pub follows : is_following new ≡ true
  pub walked : HasWalked s t (set_out old.walk) new.walk (awaits (contents_of t new) (view_of old))
  pub flow_is : body ≡ with_tags (tags_at old) (flow (ways (sources_of t new) (positions_of old) (positions_of new)) (view_of old))
  pub tags : tags_at new ≡ tags_after (tags_at old) (flow (ways (sources_of t new) (positions_of old) (positions_of new)) (view_of old))

-- memory was wanting, and a leaf had something to go to
pub record HasLost (s t : PortState) (old new : ViewTask) : Type 0 where
  pub looked : HasLooked s t
  pub ready : IsReady t new
  pub same : IsSameTask old new
  pub failed : is_failed new ≡ true
  pub row : has_row new ≡ true
  pub goes_on : is_ended new ≡ false
  pub news : HasNews t old.walk

-- what a walk answers by itself: a leaf has gone on, memory was wanting for the row, a held word was found, or nothing has happened
abbrev pub IsAnswered : {T : Type 0} → ViewTask → ViewTask → Body → T → Going T → Type 0
IsAnswered old new body told (Answered (Batch row token held)) =
    (new ≡ old) × (old.walk.moved ≡ true) × (row ≡ record { at = positions_of old; body = body }) × (token ≡ told) × (held ≡ old.walk.held)
IsAnswered old new body told (Answered NoMemory) = (new ≡ failed_now old) × (old.walk.moved ≡ true)
IsAnswered old new body told (Answered (Again word token)) = (new ≡ old) × (old.walk.moved ≡ false) × (old.walk.held ≡ Some word) × (token ≡ told)
IsAnswered old new body told (Nowhere token) = (new ≡ old) × (old.walk.moved ≡ false) × (old.walk.held ≡ None) × (token ≡ told)
IsAnswered old new body told _ = ⊥

-- a walk in which memory was wanting, or one with its answer
abbrev pub HasGoneOn : {T : Type 0} → PortState → PortState → ViewTask → ViewTask → T → Going T → Type 0
HasGoneOn s t old new told (Answered NoMemory) = HasLost s t old new
HasGoneOn s t old new told (Answered (Batch row token held)) = HasStepped s t old new row.body × IsAnswered new new row.body told (Answered (Batch row token held))
HasGoneOn s t old new told going = (body : Body) × HasStepped s t old new body × IsAnswered new new body told going

-- an awaited leaf's source has shown more than the leaf has passed
pub record IsBehind (s : PortState) (task : ViewTask) : Type 0 where
  pub leaf : ℕ
  pub awaited : is_awaited (view_of task) (sources_of s task) (positions_of task) leaf ≡ true
  pub more : slice_index (positions_of task) leaf < s.count (s.source (task.walk.first + leaf))
