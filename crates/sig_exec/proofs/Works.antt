-- An executor's jobs while one after another has its turn.
use Rattle.std.proofs.Common.{◌≡◌, ◌≢◌, ◌∙◌, ℕ, zero, suc, ◌+◌, ◌<◌, ◌≤◌, ◌==◌, List, [], ◌∷◌, length, map, take, get_or, slice_get, slice_set, slice_index, sum_by, Bool, true, false, Option, None, Some, ◌⊎◌, inl, inr, refl, sym, ap, subst, ne_eqb, arith}
use Rattle.std.proofs.lemmas.List.{get_or-map, length-append, length-set, length-take, map-set, set-get_or, take-append-le}
use Rattle.std.proofs.lemmas.List.Sums.{sum_by-set}
use Rattle.std.proofs.lemmas.Option.{get_or_from_slice_get, same_Some, slice_get-get_or, slice_get_within}
use Rattle.std.proofs.Math.Seq.{take-length}
use mathlib.Core.Logic.{dite}
use native.Mathlib.Decide.{ℕ_discrete}
use Rattle.sig_hist.specs.Ports.{IsSoundPort, PortState}
use Rattle.sig_hub.specs.Hubs.{HubState}
use Rattle.sig_hub.specs.Passes.{Pass}
use Rattle.sig_hub.specs.Polls.{IsSamePoller, port_of}
use Rattle.sig_rows.specs.declared.rows.Row.{Row}
use Rattle.sig_view.proofs.WatchedRows.{later_sound, watching_later}
use Rattle.sig_view.specs.Polling.{IsSameTask}
use Rattle.sig_view.specs.Tasks.{first_of, positions_of, view_of}
use Rattle.sig_view.specs.declared.watching.WatchedView.{WatchedView}
use Rattle.sig_exec.specs.Jobs.{AreJobs, HasGiven, HasGone, HasGoneOn, HasRowMore, HasTurned, HasWorked, HasRun, HasWorkedAll, IsFurther, IsIn, IsJob, Keeps, StaysForOthers, IsUntold, Waits, rows_of, task_of}
use Rattle.sig_exec.specs.declared.jobs.Phase.{Phase}
use Rattle.sig_exec.specs.declared.jobs.Phase.TheVariants.{Live, Ended, Lost}
use Rattle.sig_exec.specs.declared.jobs.Work.{Work}
use Rattle.sig_hub.specs.Polls.{Token, collected}
use Rattle.sig_walk.proofs.Leaving.{put_here}
use Rattle.sig_exec.proofs.Moments.{asked_stays, goes_on_same, goes_on_then, waited_since, waits_still}
use Rattle.sig_view.specs.Watching.{IsWatching}

-- ---- a job while others are polled

keeps_still : (hub : HubState) (s t : PortState) (task : ℕ) (told : Option Token) → t.tokens task ≡ s.tokens task → Keeps hub s task told → Keeps hub t task told
keeps_still hub s t task (Some told) same keeps = (keeps.0, same ∙ keeps.1)
keeps_still hub s t task None same keeps = same ∙ keeps

in_still : (hub : HubState) (s t : PortState) (task other : ℕ) (view : WatchedView) (phase : Phase) → StaysForOthers s t other → (task == other) ≡ false → IsIn hub s task view phase → IsIn hub t task view phase
in_still hub s t task other view (Live told) stays apart is = (watching_later s t stays.goes_on.more view is.0, is.1, keeps_still hub s t task told (stays.tokens task apart) is.2)
in_still hub s t task other view Ended stays apart is = (watching_later s t stays.goes_on.more view is.0, is.1)
in_still hub s t task other view Lost stays apart is = later_sound s t stays.goes_on.more (view_of view.task) (first_of view.task) (length (positions_of view.task)) view.rows is

pub job_stays : (hub : HubState) (old new : Pass) (other : ℕ) (work : Work) → IsSamePoller old new → StaysForOthers (port_of old) (port_of new) other → (work.task == other) ≡ false → IsJob hub old work → IsJob hub new work
job_stays hub old new other work same stays apart is = record {
  of_task = record { within = is.of_task.within; poller = same.number ∙ is.of_task.poller };
  first = ap (λ (task : ℕ → ℕ). task (first_of work.view.task)) stays.goes_on.more.task ∙ is.first;
  is_in = in_still hub (port_of old) (port_of new) work.task other work.view work.phase stays apart is.is_in;
}

-- ---- what a turn did, as later moments and since earlier ones

module _ (hub : HubState) (t u : PortState) (task other : ℕ) (stays : StaysForOthers t u other) (apart : (task == other) ≡ false) where
  cause_still : (s : PortState) (new : WatchedView) → IsWatching t new → t.task (first_of new.task) ≡ task → Waits s t new.task ⊎ IsUntold s t task → Waits s u new.task ⊎ IsUntold s u task
  cause_still s new watching first (inl waits) = inl (waits_still s t u new.task other watching.ready stays (rw first apart) waits)
  cause_still s new watching first (inr untold) = inr (record { no_token = untold.no_token; missed = omega (arith, untold.missed, stays.goes_on.missed task) })

  given_still : (s : PortState) (rows : List Row) (new : WatchedView) (phase : Phase) → t.task (first_of new.task) ≡ task → IsIn hub t task new phase → HasGiven s t task rows new phase → HasGiven s u task rows new phase
  given_still s rows new (Live (Some told)) first is given = given
  given_still s rows new (Live None) first is given = (given.0, cause_still s new is.0 first given.1)
  given_still s rows new Ended first is given = given
  given_still s rows new Lost first is given = given

  turned_still : (s : PortState) (old new : WatchedView) (before next : Phase) → t.task (first_of new.task) ≡ task → IsIn hub t task new next → HasTurned s t task old new before next → HasTurned s u task old new before next
  turned_still s old new (Live told) next first is turned = record { same = turned.same; given = given_still s old.rows new next first is turned.given }
  turned_still s old new Ended next first is turned = turned
  turned_still s old new Lost next first is turned = turned

pub worked_still : (hub : HubState) (s : PortState) (pass then : Pass) (other : ℕ) (work next : Work) → StaysForOthers (port_of pass) (port_of then) other → (next.task == other) ≡ false → IsJob hub pass next → HasWorked s (port_of pass) work next → HasWorked s (port_of then) work next
worked_still hub s pass then other work next stays apart is worked = record {
  task = worked.task;
  number = worked.number;
  turned =
      turned_still hub (port_of pass) (port_of then) work.task other stays (rw worked.task at apart) s work.view next.view work.phase next.phase (is.first ∙ worked.task)
      (subst (λ (task : ℕ). IsIn hub (port_of pass) task next.view next.phase) worked.task is.is_in) worked.turned;
}

module _ (hub : HubState) (s t u : PortState) (task : ℕ) (goes_on : HasGoneOn s t) where
  same_kept : (told : Option Token) → Keeps hub s task told → Keeps hub t task told → s.tokens task ≡ t.tokens task
  same_kept (Some told) first second = first.1 ∙ sym second.1
  same_kept None first second = first ∙ sym second

  cause_since : (new : WatchedView) → s.tokens task ≡ t.tokens task → Waits t u new.task ⊎ IsUntold t u task → Waits s u new.task ⊎ IsUntold s u task
  cause_since new same (inl waits) = inl (waited_since s t u new.task goes_on waits)
  cause_since new same (inr untold) = inr (record { no_token = same ∙ untold.no_token; missed = omega (arith, untold.missed, goes_on.missed task) })

  given_since : (rows : List Row) (new : WatchedView) (phase : Phase) → s.tokens task ≡ t.tokens task → HasGiven t u task rows new phase → HasGiven s u task rows new phase
  given_since rows new (Live (Some told)) same given = given
  given_since rows new (Live None) same given = (given.0, cause_since new same given.1)
  given_since rows new Ended same given = given
  given_since rows new Lost same given = given

  turned_since : (old new : WatchedView) (before next : Phase) → IsIn hub s task old before → IsIn hub t task old before → HasTurned t u task old new before next → HasTurned s u task old new before next
  turned_since old new (Live told) next first second turned = record { same = turned.same; given = given_since old.rows new next (same_kept told first.2 second.2) turned.given }
  turned_since old new Ended next first second turned = turned
  turned_since old new Lost next first second turned = turned

worked_since : (hub : HubState) (start pass then : Pass) (work next : Work) → HasGoneOn (port_of start) (port_of pass) → IsJob hub start work → IsJob hub pass work → HasWorked (port_of pass) (port_of then) work next → HasWorked (port_of start) (port_of then) work next
worked_since hub start pass then work next goes_on first second worked = record {
  task = worked.task;
  number = worked.number;
  turned = turned_since hub (port_of start) (port_of pass) (port_of then) work.task goes_on work.view next.view work.phase next.phase first.is_in second.is_in worked.turned;
}

-- ---- one job of the list

pub poller_then : (first second third : Pass) → IsSamePoller first second → IsSamePoller second third → IsSamePoller first third
poller_then first second third one two = record { hub = two.hub ∙ one.hub; number = two.number ∙ one.number; told = λ told. two.told (one.told told) }

get_set_same : {X : Type 0} (xs : List X) (at : ℕ) (x : X) → at < length xs → slice_get (slice_set xs at x) at ≡ Some x
get_set_same [] at x within = absurd (omega (arith, within))
get_set_same (y ∷ xs) zero x within = refl
get_set_same (y ∷ xs) (suc at) x within = get_set_same xs at x (omega (arith, within))

get_set_other : {X : Type 0} (xs : List X) (at k : ℕ) (x : X) → k ≢ at → slice_get (slice_set xs at x) k ≡ slice_get xs k
get_set_other [] at k x other = refl
get_set_other (y ∷ xs) zero zero x other = absurd (other refl)
get_set_other (y ∷ xs) zero (suc k) x other = refl
get_set_other (y ∷ xs) (suc at) zero x other = refl
get_set_other (y ∷ xs) (suc at) (suc k) x other = get_set_other xs at k x (λ same. other (ap suc same))

abbrev pub row_count : Work → ℕ
row_count work = length (rows_of work)

-- the jobs before a place have had their turns, and those from there on are as they were
pub record AreTurning (hub : HubState) (start pass : Pass) (old works : List Work) (index rows : ℕ) : Type 0 where
  pub at_start : AreJobs hub start old
  pub jobs : AreJobs hub pass works
  pub same : IsSamePoller start pass
  pub goes_on : HasGoneOn (port_of start) (port_of pass)
  pub all : length works ≡ length old
  pub done : (k : ℕ) (work next : Work) → k < index → slice_get old k ≡ Some work → slice_get works k ≡ Some next → HasWorked (port_of start) (port_of pass) work next
  pub left : (k : ℕ) → index ≤ k → slice_get works k ≡ slice_get old k
  pub counted : sum_by row_count old + rows ≡ sum_by row_count works
  pub few : rows ≤ index

pub none_turned : (hub : HubState) (start : Pass) (works : List Work) → AreJobs hub start works → AreTurning hub start start works works 0 0
none_turned hub start works jobs = record {
  at_start = jobs;
  jobs = jobs;
  same = record { hub = refl; number = refl; told = λ told. told };
  goes_on = goes_on_same (port_of start) jobs.sound;
  all = refl;
  done = λ k work next none. absurd (omega (arith, none));
  left = λ k from. refl;
  counted = omega arith;
  few = omega arith;
}

pub all_turned : (hub : HubState) (start pass : Pass) (old works : List Work) (rows : ℕ) → AreTurning hub start pass old works (length works) rows → HasWorkedAll (port_of start) (port_of pass) old works rows
all_turned hub start pass old works rows are = record {
  all = are.all;
  each = λ k work next at at_next. are.done k work next (slice_get_within works k next at_next) at at_next;
  counted = are.counted;
}

module _ (hub : HubState) (start pass then : Pass) (old works : List Work) (index rows given : ℕ) (work next : Work) (are : AreTurning hub start pass old works index rows) (at : slice_get works index ≡ Some work) (same : IsSamePoller pass then)
    (stays : StaysForOthers (port_of pass) (port_of then) work.task) (is_job : IsJob hub then next) (worked : HasWorked (port_of pass) (port_of then) work next) (grown : row_count work + given ≡ row_count next) (one_row : given ≤ 1) where
  abbrev after : List Work
  after = slice_set works index next

  within : index < length works
  within = slice_get_within works index work at

  long : length after ≡ length works
  long = length-set works index next

  -- of another job the task is another
  other_task : (k : ℕ) (other : Work) → slice_get works k ≡ Some other → k ≢ index → (other.task == work.task) ≡ false
  other_task k other at_k apart =
      let inside : k < length works = slice_get_within works k other at_k in
      let task_at : (j : ℕ) (job : Work) → slice_get works j ≡ Some job → j < length works → slice_index (map task_of works) j ≡ job.task =
      λ j job at_j in_j. get_or-map task_of works j job 0 in_j ∙ ap task_of (get_or_from_slice_get works j job job at_j) in
      ne_eqb other.task work.task (λ equal. apart (are.jobs.apart k index inside within (task_at k other at_k inside ∙ equal ∙ sym (task_at index work at within))))

  job_at : (k : ℕ) (job : Work) → slice_get works k ≡ Some job → IsJob hub pass job
  job_at k job at_k = subst (IsJob hub pass) (get_or_from_slice_get works k job job at_k) (are.jobs.each k job (slice_get_within works k job at_k))

  each_after : (k : ℕ) (job : Work) → slice_get after k ≡ Some job → IsJob hub then job
  each_after k job at_k = dite (ℕ_discrete k index)
      (λ here. subst (IsJob hub then) (same_Some next job (sym (get_set_same works index next within) ∙ ap (slice_get after) (sym here) ∙ at_k)) is_job)
      (λ apart. let before : slice_get works k ≡ Some job = sym (get_set_other works index k next apart) ∙ at_k in job_stays hub pass then work.task job same stays (other_task k job before apart) (job_at k job before))

  tasks_stay : map task_of after ≡ map task_of works
  tasks_stay = map-set task_of works index next ∙ ap (slice_set (map task_of works) index) (worked.task ∙ sym (ap task_of (get_or_from_slice_get works index work work at)) ∙ sym (get_or-map task_of works index work 0 within)) ∙ set-get_or (map task_of works) index 0

  jobs_after : AreJobs hub then after
  jobs_after = record {
    of = same.hub ∙ are.jobs.of;
    told = same.told are.jobs.told;
    sound = stays.goes_on.more.sound;
    each = λ k d inside. each_after k (get_or after k d) (slice_get-get_or after k d inside);
    apart = λ one other in_one in_other equal.
        are.jobs.apart one other (omega (arith, in_one, long)) (omega (arith, in_other, long)) (ap (λ (tasks : List ℕ). slice_index tasks one) (sym tasks_stay) ∙ equal ∙ ap (λ (tasks : List ℕ). slice_index tasks other) tasks_stay);
  }

  -- the job whose turn it was is as it was at the start
  at_old : slice_get old index ≡ Some work
  at_old = sym (are.left index (omega arith)) ∙ at

  old_job : IsJob hub start work
  old_job = subst (IsJob hub start) (get_or_from_slice_get old index work work at_old) (are.at_start.each index work (slice_get_within old index work at_old))

  done_after : (k : ℕ) (first later : Work) → k < index + 1 → slice_get old k ≡ Some first → slice_get after k ≡ Some later → HasWorked (port_of start) (port_of then) first later
  done_after k first later before at_first at_later = dite (ℕ_discrete k index)
      (λ here.
      let first_is : work ≡ first = same_Some work first (sym at_old ∙ ap (slice_get old) (sym here) ∙ at_first) in
      let later_is : next ≡ later = same_Some next later (sym (get_set_same works index next within) ∙ ap (slice_get after) (sym here) ∙ at_later) in
      subst (λ (job : Work). HasWorked (port_of start) (port_of then) job later) first_is (subst (λ (job : Work). HasWorked (port_of start) (port_of then) work job) later_is
      (worked_since hub start pass then work next are.goes_on old_job (job_at index work at) worked)))
      (λ apart.
      let at_k : slice_get works k ≡ Some later = sym (get_set_other works index k next apart) ∙ at_later in
      worked_still hub (port_of start) pass then work.task first later stays (other_task k later at_k apart) (job_at k later at_k) (are.done k first later (omega (arith, before, apart)) at_first at_k))

  pub one_turned : AreTurning hub start then old after (index + 1) (rows + given)
  one_turned = record {
    at_start = are.at_start;
    jobs = jobs_after;
    same = poller_then start pass then are.same same;
    goes_on = goes_on_then (port_of start) (port_of pass) (port_of then) are.goes_on stays.goes_on;
    all = long ∙ are.all;
    done = done_after;
    left = λ k from. get_set_other works index k next (λ here. absurd (omega (arith, from, here))) ∙ are.left k (omega (arith, from));
    counted = omega (arith, are.counted, grown, sum_by-set row_count works index next work within, ap row_count (get_or_from_slice_get works index work work at));
    few = omega (arith, are.few, one_row);
  }

-- ---- a job whose task is asked for a token

module _ (s t : PortState) (task : ℕ) (sound : IsSoundPort t) where
  pub stays_asked : (was_told : Bool) → t ≡ collected s task was_told → StaysForOthers s t task
  stays_asked was_told is = rw is (asked_stays s task was_told (subst IsSoundPort is sound))

  pub watching_asked : (was_told : Bool) → t ≡ collected s task was_told → (view : WatchedView) → IsWatching s view → IsWatching t view
  watching_asked was_told is view watching = watching_later s t (stays_asked was_told is).goes_on.more view watching

  -- found told, it has the one token
  pub holds_asked : t ≡ collected s task true → s.tokens task ≡ 0 → t.tokens task ≡ 1
  holds_asked is none = ap (λ (port : PortState). port.tokens task) is ∙ put_here s.tokens task (s.tokens task + 1) ∙ ap (λ (count : ℕ). count + 1) none

  -- found untold, it has none still, and no row came of it
  pub none_asked : t ≡ collected s task false → s.tokens task ≡ 0 → t.tokens task ≡ 0
  none_asked is none = ap (λ (port : PortState). port.tokens task) is ∙ none

  pub untold_gone : t ≡ collected s task false → s.tokens task ≡ 0 → (view : WatchedView) → HasGone s t task view view (Live None)
  untold_gone is none view = record {
    same = record { view = refl; caps = refl; first = refl };
    given = (refl, inr (record { no_token = none; missed = omega (arith, ap (λ (port : PortState). port.missed task) is, put_here s.missed task (s.missed task + 1)) }));
  }

  -- and found told, it was polled then
  module _ (u : PortState) (told : t ≡ collected s task true) (none : s.tokens task ≡ 0) where
    asked_cause : (new : WatchedView) → Waits t u new.task ⊎ IsUntold t u task → Waits s u new.task ⊎ IsUntold s u task
    asked_cause new (inl waits) = inl (waited_since s t u new.task (stays_asked true told).goes_on waits)
    asked_cause new (inr untold) = inr (record { no_token = none; missed = omega (arith, untold.missed, (stays_asked true told).goes_on.missed task) })

    asked_given : (rows : List Row) (new : WatchedView) (phase : Phase) → HasGiven t u task rows new phase → HasGiven s u task rows new phase
    asked_given rows new (Live (Some back)) given = given
    asked_given rows new (Live None) given = (given.0, asked_cause new given.1)
    asked_given rows new Ended given = given
    asked_given rows new Lost given = given

    pub asked_gone : (old new : WatchedView) (phase : Phase) → HasGone t u task old new phase → HasGone s u task old new phase
    asked_gone old new phase gone = record { same = gone.same; given = asked_given old.rows new phase gone.given }

-- ---- a job after its turn

pub same_first : (s t : PortState) (task : ℕ) (old new : WatchedView) (before next : Phase) → HasTurned s t task old new before next → first_of new.task ≡ first_of old.task
same_first s t task old new (Live told) next turned = turned.same.first
same_first s t task old new Ended next turned = ap (λ (view : WatchedView). first_of view.task) turned.0
same_first s t task old new Lost next turned = ap (λ (view : WatchedView). first_of view.task) turned.0

one_more : (old new : List Row) → HasRowMore old new → length new ≡ length old + 1
one_more old new more = ap length more.1 ∙ length-append old (more.0 ∷ [])

given_one : (s t : PortState) (task : ℕ) (rows : List Row) (new : WatchedView) (phase : Phase) → HasGiven s t task rows new phase → length new.rows ≢ length rows → length new.rows ≡ length rows + 1
given_one s t task rows new (Live (Some told)) given other = one_more rows new.rows given
given_one s t task rows new (Live None) given other = absurd (other (ap length given.0))
given_one s t task rows new Ended given other = one_more rows new.rows given
given_one s t task rows new Lost given other = absurd (other (ap length given))

-- where its rows are more, there is one more
pub turned_one : (s t : PortState) (task : ℕ) (old new : WatchedView) (before next : Phase) → HasTurned s t task old new before next → length new.rows ≢ length old.rows → length new.rows ≡ length old.rows + 1
turned_one s t task old new (Live told) next turned other = given_one s t task old.rows new next turned.given other
turned_one s t task old new Ended next turned other = absurd (other (ap (λ (view : WatchedView). length view.rows) turned.0))
turned_one s t task old new Lost next turned other = absurd (other (ap (λ (view : WatchedView). length view.rows) turned.0))

-- ---- turns one after another

further_same : (work : Work) → IsFurther work work
further_same work = record { task = refl; number = refl; same = record { view = refl; caps = refl; first = refl }; rows = take-length (rows_of work) }

pub not_run : (works : List Work) → HasRun works works
not_run works = record { all = refl; each = λ k work next at at_next. subst (IsFurther work) (same_Some work next (sym at ∙ at_next)) (further_same work) }

front_more : (front old new : List Row) → take (length front) old ≡ front → HasRowMore old new → take (length front) new ≡ front
front_more front old new is more = ap (take (length front)) more.1 ∙ take-append-le (length front) old (more.0 ∷ []) (omega (arith, ap length is, length-take (length front) old)) ∙ is

rows_then : (s t : PortState) (task : ℕ) (front : List Row) (old new : WatchedView) (before next : Phase) → take (length front) old.rows ≡ front → HasTurned s t task old new before next → take (length front) new.rows ≡ front
rows_then s t task front old new (Live told) (Live (Some back)) is turned = front_more front old.rows new.rows is turned.given
rows_then s t task front old new (Live told) (Live None) is turned = ap (take (length front)) turned.given.0 ∙ is
rows_then s t task front old new (Live told) Ended is turned = front_more front old.rows new.rows is turned.given
rows_then s t task front old new (Live told) Lost is turned = ap (take (length front)) turned.given ∙ is
rows_then s t task front old new Ended next is turned = ap (λ (view : WatchedView). take (length front) view.rows) turned.0 ∙ is
rows_then s t task front old new Lost next is turned = ap (λ (view : WatchedView). take (length front) view.rows) turned.0 ∙ is

same_task : (s t : PortState) (task : ℕ) (old new : WatchedView) (before next : Phase) → HasTurned s t task old new before next → IsSameTask old.task new.task
same_task s t task old new (Live told) next turned = turned.same
same_task s t task old new Ended next turned = subst (λ (view : WatchedView). IsSameTask old.task view.task) (sym turned.0) (record { view = refl; caps = refl; first = refl })
same_task s t task old new Lost next turned = subst (λ (view : WatchedView). IsSameTask old.task view.task) (sym turned.0) (record { view = refl; caps = refl; first = refl })

further_then : (s t : PortState) (first work next : Work) → IsFurther first work → HasWorked s t work next → IsFurther first next
further_then s t first work next is worked =
    let second : IsSameTask work.view.task next.view.task = same_task s t work.task work.view next.view work.phase next.phase worked.turned in
    record {
      task = worked.task ∙ is.task;
      number = worked.number ∙ is.number;
      same = record { view = second.view ∙ is.same.view; caps = second.caps ∙ is.same.caps; first = second.first ∙ is.same.first };
      rows = rows_then s t work.task (rows_of first) work.view next.view work.phase next.phase is.rows worked.turned;
    }

pub run_on : (s t : PortState) (old works next : List Work) (rows : ℕ) → HasRun old works → HasWorkedAll s t works next rows → HasRun old next
run_on s t old works next rows run worked = record {
  all = worked.all ∙ run.all;
  each = λ k first later at at_later.
      let within : k < length works = omega (arith, slice_get_within next k later at_later, worked.all) in
      let work : Work = get_or works k later in
      let at_work : slice_get works k ≡ Some work = slice_get-get_or works k later within in
      further_then s t first work later (run.each k first work at at_work) (worked.each k work later at_work at_later);
}
