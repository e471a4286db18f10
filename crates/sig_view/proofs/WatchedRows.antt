-- The rows of a watched view are sound from poll to poll.
use Rattle.std.proofs.Common.{◌≡◌, ◌≢◌, ◌∙◌, ℕ, zero, suc, ◌+◌, ◌<◌, List, [], ◌∷◌, ◌++◌, length, slice_index, Bool, true, false, ◌||◌, Option, ◌⊎◌, inl, inr, refl, sym, ap, subst, true≢false, arith}
use Rattle.std.proofs.lemmas.List.{append-nil}
use Rattle.sig_expr.specs.Leaves.{leaves, numbered}
use Rattle.sig_expr.specs.Shapes.{view_tree}
use Rattle.sig_expr.specs.Trees.{ViewTree}
use Rattle.sig_expr.specs.declared.expressions.View.{View}
use Rattle.sig_hist.specs.Histories.{is_closed}
use Rattle.sig_hist.specs.Plain.{no_source}
use Rattle.sig_hist.specs.Ports.{IsSoundPort, PortState}
use Rattle.sig_hist.specs.Sources.{Source, writers_of}
use Rattle.sig_hist.specs.Ways.{GoOn, Grows, contents_at, leaf_source, ways}
use Rattle.sig_rows.proofs.Growing.{grows_not}
use Rattle.sig_rows.proofs.Numbering.{awaited_within}
use Rattle.sig_rows.proofs.RowSteps.{IsOpenBody, complete_append, last_at_append, open_is_no_end, seen_of_append}
use Rattle.sig_rows.proofs.RowsShow.{go_on_soundly, show_the_view}
use Rattle.sig_rows.proofs.Showing.{first_is_open_body, flow_is_open, next_is_sound}
use Rattle.sig_rows.proofs.StayingSound.{stay_sound}
use Rattle.sig_rows.specs.SoundRows.{AreSound, IsEndedRow, IsFirstRow, IsNextRow, IsShownBy, IsSoundRow, Seen, are_complete, is_awaited, is_end as is_end_body, last_at, nothing_seen, seen_after, seen_of, tags_of}
use Rattle.sig_rows.specs.declared.rows.Body.TheVariants.{Ended}
use Rattle.sig_rows.specs.declared.rows.Row.{Row}
use Rattle.sig_rows.specs.laws.SoundRows.{GoesOnFrom}
use Rattle.sig_view.proofs.Later.{ready_later}
use Rattle.sig_view.proofs.Stepping.{go_on_length}
use Rattle.sig_view.specs.Polling.{HasStayed, IsEnd, IsHeldUp, IsLaterRow, IsPoll, IsRow, IsSameTask, is_end, is_no_memory, is_pending}
use Rattle.sig_view.specs.Tasks.{IsReady, contents_of, ended, failed, first_of, following, has_row, is_ended, is_failed, is_following, positions_of, rows_given, sources_of, tags_at, view_of}
use Rattle.sig_view.specs.Watching.{HasRows, IsGiven, IsLost, IsUnpolled, IsWatching, seen_by}
use Rattle.sig_view.specs.declared.watching.WatchedView.{WatchedView}
use Rattle.sig_view.specs.declared.task.Polled.{Polled}
use Rattle.sig_view.specs.declared.task.Polled.TheVariants as polled
use Rattle.sig_view.specs.declared.task.Stage.{Stage}
use Rattle.sig_view.specs.declared.task.Stage.TheVariants.{Following}
use Rattle.sig_view.specs.declared.task.ViewTask.{ViewTask}
use Rattle.sig_walk.proofs.Newer.{risen_news}
use Rattle.sig_walk.proofs.Staying.{source_of_leaf}
use Rattle.sig_walk.proofs.Trying.{looked_same}
use Rattle.sig_walk.specs.Waiting.{HasPolled}
use Rattle.sig_walk.specs.Walking.{HasNews, HasSeenMore, Progress, seen_source, seen_sources}

-- ---- at the start

pub unpolled_watching : (s : PortState) (shown : View) (caps : List ℕ) (first : ℕ) (view : WatchedView) → IsUnpolled shown caps first view → IsReady s view.task → IsWatching s view
unpolled_watching s shown caps first view is ready = record {
  ready = ready;
  works = is.is_new.works;
  sound = rw is.no_rows tt;
  complete = rw (is.no_rows, is.is_new.goes_on) refl;
  rows = rw is.is_new.no_row is.no_rows;
}

-- ---- as a port sees more

module _ (s t : PortState) (more : HasSeenMore s t) where
  source_grows : (leaf : ℕ) → Grows (seen_source s leaf) (seen_source t leaf)
  source_grows leaf = record {
    plan = rw (more.plan, more.source) refl;
    front = rw more.source (more.seen (s.source leaf)).front;
    closed = λ closed. rw more.source ((more.seen (s.source leaf)).closed closed);
  }

  as_many : (first count : ℕ) → length (seen_sources t first count) ≡ length (seen_sources s first count)
  as_many first zero = refl
  as_many first (suc count) = ap suc (as_many (first + 1) count)

  each_grows : (first count leaf : ℕ) → Grows (leaf_source (seen_sources s first count) leaf) (leaf_source (seen_sources t first count) leaf)
  each_grows first zero leaf = grows_not no_source
  each_grows first (suc count) zero = source_grows first
  each_grows first (suc count) (suc leaf) = each_grows (first + 1) count leaf

  -- rows that are sound for what was seen stay so
  pub later_sound : (view : ViewTree ℕ) (first count : ℕ) (rows : List Row) → AreSound view (seen_sources s first count) rows → AreSound view (seen_sources t first count) rows
  later_sound view first count rows sound = stay_sound view _ _ (record { count = as_many first count; each = each_grows first count }) rows sound

  pub watching_later : (view : WatchedView) → IsWatching s view → IsWatching t view
  watching_later view is = record {
    ready = ready_later s t more view.task is.ready;
    works = is.works;
    sound = later_sound (view_of view.task) (first_of view.task) (length (positions_of view.task)) view.rows is.sound;
    complete = is.complete;
    rows = is.rows;
  }

-- what a poll leaves of a port
pub seen_more : (s t : PortState) (walk : Progress) (rests : Bool) → IsSoundPort t → HasPolled s t walk rests → HasSeenMore s t
seen_more s t walk rests sound polled = record {
  sound = sound;
  is_own = polled.is_own;
  source = polled.source;
  task = polled.task;
  plan = polled.plan;
  seen = polled.seen;
}

-- ---- one more row

some_row : (rows : List Row) (row : Row) → rows ++ row ∷ [] ≢ []
some_row [] row = λ none. cc
some_row (first ∷ rows) row = λ none. cc

module _ (view : ViewTree ℕ) (sources : List Source) where
  first_row_sound : (rows : List Row) (row : Row) → rows ≡ [] → IsFirstRow view sources row → AreSound view sources (rows ++ row ∷ [])
  first_row_sound rows row nothing is = rw nothing (is, tt)

  next_row_sound : (rows : List Row) (row : Row) → rows ≢ [] → AreSound view sources rows → are_complete rows ≡ false → IsSoundRow view sources (last_at [] rows) (seen_of (nothing_seen view) rows) row.at row.body [] →
      AreSound view sources (rows ++ row ∷ [])
  next_row_sound [] row some sound incomplete is = absurd (some refl)
  next_row_sound (first ∷ rows) row some sound incomplete is = go_on_soundly view sources (first ∷ rows) row sound incomplete is

-- a task that has a row, hasn't failed and hasn't ended follows
still_follows : (stage : Stage) → rows_given stage ≡ true → failed stage ≡ false → ended stage ≡ false → following stage ≡ true
still_follows (Following node) given works goes_on = refl
still_follows stage given works goes_on = cc

-- what its rows have shown is what the view shows where it stands
pub rows_show : (s : PortState) (watched : WatchedView) → IsWatching s watched → HasRows true watched → IsShownBy (view_of watched.task) (contents_of s watched.task) (seen_by watched)
rows_show s watched is has =
    subst (λ (at : List ℕ). IsShownBy (view_of watched.task) (contents_at (sources_of s watched.task) at) (seen_by watched)) has.1 (show_the_view (view_of watched.task) (sources_of s watched.task) watched.rows has.0 is.sound)

-- ---- a poll that leaves this task

module _ (s t : PortState) (old : WatchedView) (new : ViewTask) (is : IsWatching s old) (open_ : is_ended old.task ≡ false) (ready : IsReady t new) (same : IsSameTask old.task new) (more : HasSeenMore s t) where
  abbrev view : ViewTree ℕ
  view = view_of old.task

  abbrev sources : List Source
  sources = sources_of t new

  abbrev with_rows : List Row → WatchedView
  with_rows rows = record { task = new; rows = rows }

  same_view : view_of new ≡ view
  same_view = ap (λ (shown : View). numbered (view_tree shown)) same.view

  same_seen : (rows : List Row) → seen_of (nothing_seen (view_of new)) rows ≡ seen_of (nothing_seen view) rows
  same_seen rows = ap (λ (view : ViewTree ℕ). seen_of (nothing_seen view) rows) same_view

  as_long : length (positions_of new) ≡ length (positions_of old.task)
  as_long = ready.is_task.leaf_each ∙ ap (λ (shown : View). length (leaves (view_tree shown))) same.view ∙ sym is.ready.is_task.leaf_each

  still_sound : AreSound view sources old.rows
  still_sound = rw (same.first, as_long) (later_sound s t more view (first_of old.task) (length (positions_of old.task)) old.rows is.sound)

  incomplete : are_complete old.rows ≡ false
  incomplete = is.complete ∙ open_

  lost : HasPolled s t old.task.walk false → (has_row old.task ≡ true → HasNews t old.task.walk ⊎ (is_ended new ≡ true)) → IsLost s t old (with_rows old.rows)
  lost polled cause = record { ready = ready; same = same; polled = polled; rows = refl; sound = rw same_view still_sound; cause = cause }

  module _ (works : is_failed new ≡ false) where
    -- ---- a row

    module _ (given : has_row new ≡ true) (row : Row) where
      added : (at : row.at ≡ positions_of new) (ends : is_end_body row.body ≡ is_ended new) → AreSound view sources (old.rows ++ row ∷ []) →
          (is_ended new ≡ false → tags_of (seen_after (seen_by old) row.body) ≡ tags_at new) → IsWatching t (with_rows (old.rows ++ row ∷ []))
      added at ends sound tags = record {
        ready = ready;
        works = works;
        sound = rw same_view sound;
        complete = complete_append old.rows row ∙ ends;
        rows = rw given (
          some_row old.rows row,
          last_at_append [] old.rows row ∙ at,
          λ open_now.
              ap tags_of (same_seen (old.rows ++ row ∷ []) ∙ seen_of_append (nothing_seen view) old.rows row) ∙ tags open_now,
        );
      }

      row_added : (had : Bool) → HasRows had old → row.at ≡ positions_of new → is_ended new ≡ false → IsRow s t old.task new had row → IsWatching t (with_rows (old.rows ++ row ∷ []))
      row_added false has at goes_on is_row =
          let open_body : IsOpenBody row.body = rw is_row.0.whole (first_is_open_body view (contents_at sources row.at)) in
          added at (open_is_no_end row.body open_body ∙ sym goes_on) (first_row_sound view sources old.rows row has is_row.0)
          (λ open_now. ap (λ (rows : List Row). tags_of (seen_after (seen_of (nothing_seen view) rows) row.body)) has ∙ is_row.2)
      row_added true has at goes_on is_row =
          let next : IsNextRow view sources (positions_of old.task) (seen_by old) row.at row.body = is_row.sound (seen_by old) (rows_show s old is has) (has.2 open_) in
          let open_body : IsOpenBody row.body = rw next.flow (flow_is_open view (tags_of (seen_by old)) (ways sources (positions_of old.task) row.at)) in
          added at (open_is_no_end row.body open_body ∙ sym goes_on)
          (next_row_sound view sources old.rows row has.0 still_sound incomplete (rw has.1 (next_is_sound view sources (positions_of old.task) (seen_by old) row.at row.body [] open_body next)))
          (λ open_now. is_row.tags (seen_by old) (rows_show s old is has) (has.2 open_))

    -- ---- no row

    module _ (stayed : HasStayed s t old.task new) (given : has_row new ≡ true) where
      had : HasRows true old
      had = rw stayed.row at is.rows

      stays : is_ended new ≡ false → IsWatching t (with_rows old.rows)
      stays goes_on = record {
        ready = ready;
        works = works;
        sound = rw same_view still_sound;
        complete = incomplete ∙ sym goes_on;
        rows = rw given (
          had.0,
          had.1 ∙ sym stayed.stays,
          λ open_now.
              ap tags_of (same_seen old.rows) ∙ had.2 open_ ∙ sym (stayed.tags (still_follows new.stage given works goes_on)),
        );
      }

    -- no row yet
    nothing_yet : old.rows ≡ [] → has_row new ≡ false → is_ended new ≡ false → IsWatching t (with_rows old.rows)
    nothing_yet nothing given goes_on = record {
      ready = ready;
      works = works;
      sound = rw nothing tt;
      complete = incomplete ∙ sym goes_on;
      rows = rw given nothing;
    }

    -- ---- the end

    abbrev ended_row : Row
    ended_row = record { at = positions_of new; body = Ended }

    its_source : (leaf : ℕ) → is_awaited (view_of new) sources (positions_of new) leaf ≡ true → leaf_source sources leaf ≡ seen_source t (first_of new + leaf)
    its_source leaf awaited =
        source_of_leaf t (first_of new) (length (positions_of new)) leaf (rw ready.is_task.leaf_each (awaited_within (view_tree new.view) (contents_at sources (positions_of new)) leaf awaited))

    ended_soundly : (end : IsEnd s t old.task new) (has : HasRows true old) → IsEndedRow view sources (last_at [] old.rows) (positions_of new) []
    ended_soundly end has = record {
      stays = end.stayed.stays ∙ sym has.1;
      end = λ leaf awaited. let here : is_awaited (view_of new) sources (positions_of new) leaf ≡ true = rw same_view awaited in (end.ended leaf here).position ∙ sym (ap (λ (source : Source). length source.history) (its_source leaf here));
      closed = λ leaf awaited. let here : is_awaited (view_of new) sources (positions_of new) leaf ≡ true = rw same_view awaited in ap (λ (source : Source). is_closed (writers_of source.plan.allow) source.history) (its_source leaf here) ∙ (end.ended leaf here).closed;
      last = refl;
    }

    ends_soundly : IsEnd s t old.task new → has_row new ≡ true → is_ended new ≡ true → IsWatching t (with_rows (old.rows ++ ended_row ∷ []))
    ends_soundly end given ends =
        let has : HasRows true old = had end.stayed given in
        added given ended_row refl (sym ends) (next_row_sound view sources old.rows ended_row has.0 still_sound incomplete (ended_soundly end has)) (λ open_now. cc)

-- ---- the answers

or_true : (a : Bool) → (a || true) ≡ true
or_true true = refl
or_true false = refl

module _ {T : Type 0} (s t : PortState) (old : WatchedView) (new : ViewTask) (told : T) (is : IsWatching s old) (open_ : is_ended old.task ≡ false) where
  abbrev with_given : List Row → WatchedView
  with_given given = record { task = new; rows = old.rows ++ given }

  module _ (answer : Polled T) (poll : IsPoll s t old.task new told answer) where
    more : HasSeenMore s t
    more = seen_more s t old.task.walk (is_pending answer) poll.ready.port.sound poll.polled

    still_works : is_no_memory answer ≡ false → is_failed new ≡ false
    still_works some = poll.next.failed ∙ rw (is.works, some) refl

    lost_by : is_pending answer ≡ false → (has_row old.task ≡ true → HasNews t old.task.walk ⊎ (is_ended new ≡ true)) → IsLost s t old (record { task = new; rows = old.rows })
    lost_by never cause = lost s t old new is open_ poll.ready poll.same more (rw never at poll.polled) cause

  pub row_given : (row : Row) (token : T) (held : Option ℕ) → IsPoll s t old.task new told (polled.Batch row token held) → IsGiven s t old (with_given (row ∷ [])) told (polled.Batch row token held) (row ∷ [])
  row_given row token held poll = record {
    poll = poll;
    rows = refl;
    watching = row_added s t old new is open_ poll.ready poll.same (more _ poll) (still_works _ poll refl) (poll.next.row ∙ or_true (has_row old.task)) row (has_row old.task) is.rows poll.answer_is.at poll.next.ended poll.answer_is.sound;
  }

  -- a view with a row stays where it is
  stays_by : (answer : Polled T) → IsPoll s t old.task new told answer → HasStayed s t old.task new → is_no_memory answer ≡ false → is_end answer ≡ false → IsWatching t (record { task = new; rows = old.rows })
  stays_by answer poll stayed works goes_on =
      stays s t old new is open_ poll.ready poll.same (more _ poll) (still_works _ poll works) stayed (poll.next.row ∙ rw stayed.row refl) (poll.next.ended ∙ goes_on)

  -- without a row more
  none_given : (answer : Polled T) → IsPoll s t old.task new told answer → IsWatching t (record { task = new; rows = old.rows }) → IsGiven s t old (record { task = new; rows = old.rows }) told answer []
  none_given answer poll watching = record { poll = poll; rows = sym (append-nil old.rows); watching = watching }

  pub pending_given : IsPoll s t old.task new told polled.Pending → IsGiven s t old (record { task = new; rows = old.rows }) told polled.Pending []
  pending_given poll = none_given _ poll (stays_by _ poll poll.answer_is.stayed refl refl)

  module _ (word : ℕ) (token : T) (poll : IsPoll s t old.task new told (polled.Again word token)) where
    again_by : (had : Bool) → has_row old.task ≡ had → HasRows had old → IsHeldUp s t old.task new had → IsWatching t (record { task = new; rows = old.rows })
    again_by false given nothing held_up =
        nothing_yet s t old new is open_ poll.ready poll.same (more _ poll) (still_works _ poll refl) nothing (poll.next.row ∙ rw given refl) poll.next.ended
    again_by true given has held_up = stays_by _ poll held_up refl refl

    pub again_given : IsGiven s t old (record { task = new; rows = old.rows }) told (polled.Again word token) []
    again_given = none_given _ poll (again_by (has_row old.task) refl is.rows poll.answer_is.held_up)

  pub end_given : IsPoll s t old.task new told polled.Ended → IsGiven s t old (with_given (record { at = positions_of new; body = Ended } ∷ [])) told polled.Ended (record { at = positions_of new; body = Ended } ∷ [])
  end_given poll = record {
    poll = poll;
    rows = refl;
    watching = ends_soundly s t old new is open_ poll.ready poll.same (more _ poll) (still_works _ poll refl) poll.answer_is (poll.next.row ∙ rw poll.answer_is.stayed.row refl) poll.next.ended;
  }

  -- ---- where memory was wanting

  -- the row that a view with a row gave came of news
  row_news : (row : Row) (token : T) (held : Option ℕ) → IsPoll s t old.task new told (polled.Batch row token held) → has_row old.task ≡ true → HasNews t old.task.walk
  row_news row token held poll given =
      let has : HasRows true old = rw given at is.rows in
      let later : IsLaterRow s t old.task new row = rw given at poll.answer_is.sound in
      let next = later.sound (seen_by old) (rows_show s old is has) (has.2 open_) in
      let goes : GoOn (positions_of old.task) (positions_of new) = rw poll.answer_is.at at next.goes_on in
      risen_news {s = t} (record { looked = looked_same t; first = poll.same.first; leaves = go_on_length (positions_of old.task) (positions_of new) goes; can = poll.ready.can }) goes (λ same. next.moves (poll.answer_is.at ∙ same))

  pub row_lost : (row : Row) (token : T) (held : Option ℕ) → IsPoll s t old.task new told (polled.Batch row token held) → IsLost s t old (record { task = new; rows = old.rows })
  row_lost row token held poll = lost_by _ poll refl (λ given. inl (row_news row token held poll given))

  pub end_lost : IsPoll s t old.task new told polled.Ended → IsLost s t old (record { task = new; rows = old.rows })
  end_lost poll = lost_by _ poll refl (λ given. inr poll.next.ended)

  pub task_lost : IsPoll s t old.task new told polled.NoMemory → IsLost s t old (record { task = new; rows = old.rows })
  task_lost poll = lost_by _ poll refl (λ given. inl (poll.answer_is given))

  pub never_failed : IsPoll s t old.task new told polled.Failed → IsLost s t old (record { task = new; rows = old.rows })
  never_failed poll = absurd (true≢false (poll.next.refused ∙ is.works))
