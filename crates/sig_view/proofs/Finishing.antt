-- Polls after the first row: one walk, or two with a look between them, and the answer.
use Rattle.std.specs.List.{slice_get}
use Rattle.std.proofs.Common.{◌≡◌, ◌∙◌, ℕ, zero, suc, ◌+◌, ◌≤◌, List, [], ◌∷◌, length, take, drop, map, get_or, slice_index, Bool, true, false, Option, None, Some, refl, sym, ap, arith, le_trans}
use Rattle.std.proofs.lemmas.List.{append-nil, take-append-drop}
use Rattle.std.proofs.lemmas.Option.{get_or_from_slice_get, slice_get_within}
use Rattle.sig_expr.specs.Awaited.{awaits}
use Rattle.sig_hist.specs.Ports.{GoesOn, IsSoundPort, PortState}
use Rattle.sig_hist.specs.Sources.{is_among}
use Rattle.sig_hist.specs.declared.ports.Met.{Met}
use Rattle.sig_walk.proofs.Leaving.{polled_again, polled_by_looks, polled_not, polled_of}
use Rattle.sig_walk.proofs.Listening.{not_closed, same_sources}
use Rattle.sig_walk.proofs.Newer.{news_same}
use Rattle.sig_view.proofs.Stepping.{KeepsPort, before_is, lost_after, moved_on, next_tags, ready_again, sound_row, tags_stay, underway}
use Rattle.sig_view.specs.GoingOn.{HasGoneOn, HasLost, HasStepped, IsAnswered, IsBehind}
use Rattle.sig_walk.specs.Waiting.{HasPolled, CanWait, HasListened, HasHeard, HasRested, IsLast, IsLastOpen, is_open_leaf, is_open_mark}
use Rattle.sig_view.specs.Polling.{HasStayed, IsAtEnd, IsAtRest, IsLaterRow, IsNext, IsPoll, IsSameTask}
use Rattle.sig_rows.specs.SoundRows.{IsNextRow, IsShownBy, Seen, is_awaited}
use Rattle.sig_hist.specs.Ways.{contents_at}
use Rattle.sig_view.specs.Tasks.{IsReady, IsTask, contents_of, is_following, positions_of, sources_of, tags_at, view_of}
use Rattle.sig_walk.specs.Walking.{IsCaughtUp, IsFresh, first_word, is_seen_closed, mark_of, met_since, was_held}
use Rattle.sig_rows.specs.declared.rows.Body.{Body}
use Rattle.sig_rows.specs.declared.rows.Row.{Row}
use Rattle.sig_view.specs.declared.task.Going.{Going}
use Rattle.sig_view.specs.declared.task.Going.TheVariants.{Answered, Nowhere}
use Rattle.sig_view.specs.declared.task.Polled.{Polled}
use Rattle.sig_view.specs.declared.task.Polled.TheVariants as polled
use Rattle.sig_view.specs.declared.task.Stage.TheVariants.{Ended}
use Rattle.sig_view.specs.declared.task.ViewTask.{ViewTask}
use Rattle.sig_walk.specs.declared.walk.Mark.{Mark}
use Rattle.sig_walk.specs.declared.walk.Mark.TheVariants.{Skipped}

-- ---- a walk and its answer

abbrev row_at : ViewTask → Body → Row
row_at task body = record { at = positions_of task; body = body }

pub gone_on : {T : Type 0} (s t : PortState) (old mid new : ViewTask) (body : Body) (told : T) (going : Going T) → IsReady s old → HasStepped s t old mid body → IsAnswered mid new body told going → HasGoneOn s t old new told going
gone_on s t old mid new body told (Answered polled.NoMemory) ready stepped is = lost_after s t old mid body ready stepped new is.0 is.1
gone_on s t old mid new body told (Answered (polled.Batch row token held)) ready stepped is =
    let same_body : row.body ≡ body = ap (λ (row : Row). row.body) is.2 in
    let there : HasStepped s t old mid row.body = rw same_body stepped in
    rw is.0 (there, (refl, is.1, is.2 ∙ ap (row_at mid) (sym same_body), is.3, is.4))
gone_on s t old mid new body told (Answered (polled.Again word token)) ready stepped is = rw is.0 (body, stepped, (refl, is.1, is.2, is.3))
gone_on s t old mid new body told (Answered polled.Pending) ready stepped is = absurd is
gone_on s t old mid new body told (Answered polled.Ended) ready stepped is = absurd is
gone_on s t old mid new body told (Answered polled.Failed) ready stepped is = absurd is
gone_on s t old mid new body told (Nowhere token) ready stepped is = rw is.0 (body, stepped, (refl, is.1, is.2, is.3))

-- ---- between the walks of a poll

-- no leaf has gone on and no word was met since the poll began
pub record HasPaused (s t : PortState) (old mid : ViewTask) : Type 0 where
  pub polled : HasPolled s t old.walk false
  pub same : IsSameTask old mid
  pub stays : positions_of mid ≡ positions_of old
  pub met : t.met ≡ s.met
  pub contents : contents_of t mid ≡ contents_of s old
  pub tags : tags_at mid ≡ tags_at old

pub paused_not : (s : PortState) (task : ViewTask) → HasPaused s s task task
paused_not s task = record { polled = polled_not s task.walk; same = record { view = refl; caps = refl; first = refl }; stays = refl; met = refl; contents = refl; tags = refl }

same_task : (old mid new : ViewTask) → IsSameTask old mid → IsSameTask mid new → IsSameTask old new
same_task old mid new first second = record { view = second.view ∙ first.view; caps = second.caps ∙ first.caps; first = second.first ∙ first.first }

no_word : (met : List Met) → None ≡ first_word met → met ≡ []
no_word [] is = refl
no_word (met ∷ more) is = cc

-- where none was met the words are those of before
same_met : (s t : PortState) → take (length s.met) t.met ≡ s.met → None ≡ first_word (met_since s t) → t.met ≡ s.met
same_met s t kept none = let nothing : met_since s t ≡ [] = no_word (met_since s t) none in sym (take-append-drop (length s.met) t.met) ∙ rw (kept, nothing) (append-nil s.met)

-- a leaf that is fresh as of a later moment is so as of an earlier one, where no word was met between them
pub fresh_since : (s t u : PortState) (task : ViewTask) (leaf : ℕ) → t.met ≡ s.met → t.source ≡ s.source → ((source : ℕ) → GoesOn s source (t.seen source) (t.count source)) → IsFresh t u task.walk leaf → IsFresh s u task.walk leaf
fresh_since s t u task leaf met source seen fresh held =
    let at : ℕ = task.walk.first + leaf in
    let held_later : was_held t u at ≡ false = rw met held in
    let later : t.count (s.source at) ≤ slice_index task.walk.positions leaf = rw source at (fresh held_later) in
    le_trans (seen (s.source at)).known later

-- ---- what the port is after a poll, and how the task goes on

-- a task in the stage after the first row goes on in it
going_on : {T : Type 0} (old new : ViewTask) (word : ℕ) (told : T) → is_following old ≡ true → is_following new ≡ true → IsNext old new (polled.Again word told)
going_on old new word told follows still =
    let was = underway old.stage follows in
    let is = underway new.stage still in
    record { refused = sym was.no_failure; failed = rw (is.no_failure, was.no_failure) refl; ended = is.no_end; row = rw (is.rows, was.rows) refl }

row_goes_on : {T : Type 0} (old new : ViewTask) (row : Row) (held : Option ℕ) (told : T) → is_following old ≡ true → is_following new ≡ true → IsNext old new (polled.Batch row told held)
row_goes_on old new row held told follows still =
    let was = underway old.stage follows in
    let is = underway new.stage still in
    record { refused = sym was.no_failure; failed = rw (is.no_failure, was.no_failure) refl; ended = is.no_end; row = rw (is.rows, was.rows) refl }

module _ (s t u : PortState) (old mid new : ViewTask) (follows : is_following old ≡ true) (paused : HasPaused s t old mid) (ready : IsReady t mid) where
  same_view : view_of mid ≡ view_of old
  same_view = rw paused.same.view refl

  polled_on : HasPolled t u mid.walk false → HasPolled s u old.walk false
  polled_on polled = polled_again s t u old.walk false paused.polled (polled_of t u mid.walk old.walk false (sym paused.same.first) (sym (ap length paused.stays)) polled)

  lost_is : {T : Type 0} (told : T) → HasLost t u mid new → IsPoll s u old new told polled.NoMemory
  lost_is told lost =
      let was = underway old.stage follows in
      record {
        ready = lost.ready;
        same = same_task old mid new paused.same lost.same;
        polled = polled_on (polled_by_looks t u mid.walk lost.looked);
        next = record { refused = sym was.no_failure; failed = rw was.no_failure lost.failed; ended = lost.goes_on; row = rw was.rows lost.row };
        answer_is = λ row. news_same paused.same.first paused.stays lost.news;
      }

  module _ (body : Body) (stepped : HasStepped t u mid new body) where
    fresh_each : (leaf : ℕ) → is_awaited (view_of new) (sources_of u new) (positions_of new) leaf ≡ true → IsFresh s u new.walk leaf
    fresh_each leaf awaited =
        let among : is_among leaf (awaits (contents_of u new) (view_of mid)) ≡ true = rw stepped.same.view at awaited in
        fresh_since s t u new leaf paused.met paused.polled.source paused.polled.seen (stepped.walked.fresh leaf among)

    word_is : new.walk.held ≡ first_word (met_since s u)
    word_is = stepped.walked.held ∙ ap (λ (met : List Met). first_word (drop (length met) u.met)) paused.met

    shown_there : (seen : Seen) → IsShownBy (view_of old) (contents_of s old) seen → IsShownBy (view_of mid) (contents_of t mid) seen
    shown_there seen shows_it = rw (same_view, paused.contents) shows_it

    later_row : (row : Row) → row.body ≡ body → row.at ≡ positions_of new → new.walk.moved ≡ true → IsLaterRow s u old new row
    later_row row same_body at moved = record {
      sound = λ seen shows_it tags.
          let next : IsNextRow (view_of mid) (sources_of u new) (positions_of mid) seen (positions_of new) body = sound_row t u mid new body ready stepped seen (shown_there seen shows_it) (tags ∙ sym paused.tags) moved in
          rw (at, same_body) (rw (same_view, paused.stays) at next);
      tags = λ seen shows_it tags. rw same_body (next_tags t u mid new body ready stepped seen (shown_there seen shows_it) (tags ∙ sym paused.tags));
      fresh = fresh_each;
    }

    batch_is : {T : Type 0} (told token : T) (row : Row) (held : Option ℕ) → row.body ≡ body → new.walk.moved ≡ true → row.at ≡ positions_of new → token ≡ told → held ≡ new.walk.held → IsPoll s u old new told (polled.Batch row token held)
    batch_is told token row held same_body moved at same_token is_held = record {
      ready = stepped.ready;
      same = same_task old mid new paused.same stepped.same;
      polled = polled_on (polled_by_looks t u mid.walk stepped.looked);
      next = row_goes_on old new row held token follows stepped.follows;
      answer_is = record {
        at = at;
        sound = rw (underway old.stage follows).rows (later_row row same_body at moved);
        same_token = same_token;
        first_held = is_held ∙ word_is;
      };
    }

    has_stayed : new.walk.moved ≡ false → HasStayed s u old new
    has_stayed still = record {
      row = (underway old.stage follows).rows;
      stays = (stepped.walked.stays still).1 ∙ paused.stays;
      tags = λ follows. tags_stay t u mid new body ready stepped still ∙ paused.tags;
      fresh = fresh_each;
    }

    again_is : {T : Type 0} (told token : T) (word : ℕ) → new.walk.moved ≡ false → new.walk.held ≡ Some word → token ≡ told → IsPoll s u old new told (polled.Again word token)
    again_is told token word still is_held same_token = record {
      ready = stepped.ready;
      same = same_task old mid new paused.same stepped.same;
      polled = polled_on (polled_by_looks t u mid.walk stepped.looked);
      next = going_on old new word token follows stepped.follows;
      answer_is = record {
        held_up = rw (underway old.stage follows).rows (has_stayed still);
        same_token = same_token;
        first_held = sym is_held ∙ word_is;
      };
    }

  -- a walk that answers ends the poll
  pub finished : {T : Type 0} (told : T) (answer : Polled T) → HasGoneOn t u mid new told (Answered answer) → IsPoll s u old new told answer
  finished told polled.NoMemory gone = lost_is told gone
  finished told (polled.Batch row token held) gone =
      let row_is : row ≡ record { at = positions_of new; body = row.body } = gone.1.2 in
      batch_is row.body gone.0 told token row held refl gone.1.1 (ap (λ (row : Row). row.at) row_is) gone.1.3 gone.1.4
  finished told (polled.Again word token) gone = again_is gone.0 gone.1 told token word gone.2.1 gone.2.2 gone.2.3
  finished told polled.Pending gone = absurd gone.2
  finished told polled.Ended gone = absurd gone.2
  finished told polled.Failed gone = absurd gone.2

  -- the token has come back before
  pub finished_again : {T : Type 0} (told token : T) (answer : Polled T) → token ≡ told → HasGoneOn t u mid new token (Answered answer) → IsPoll s u old new told answer
  finished_again told token answer same gone = rw (← same) (finished token answer gone)

-- ---- waits

-- what a wait leaves as it was
module _ (t u : PortState) (mid : ViewTask) (rests : Bool) (listened : HasListened t u mid.walk rests) where
  same_leaves : sources_of u mid ≡ sources_of t mid
  same_leaves = same_sources t u mid.walk.first (length (positions_of mid)) listened.polled.plan listened.polled.source listened.seen

  same_closed : (leaf : ℕ) → is_seen_closed u leaf ≡ is_seen_closed t leaf
  same_closed leaf = rw (listened.polled.plan, listened.polled.source, listened.seen) refl

  pub still_ready : IsReady t mid → IsSoundPort u → IsReady u mid
  still_ready ready sound =
      let keeps : KeepsPort t u = record { is_own = listened.polled.is_own; source = listened.polled.source; task = listened.polled.task; plan = listened.polled.plan } in
      ready_again t u mid mid ready keeps (record { view = refl; caps = refl; first = refl }) refl
      (record { sound = sound; numbers = ready.can.numbers; own = λ leaf within. rw listened.polled.is_own (ready.can.own leaf within); within = rw same_leaves ready.can.within; marks = ready.can.marks })
      (rw same_leaves ready.holds)

-- a leaf whose mark is as it was when the walk set out isn't open
unlooked_shut : (marks news : List Mark) (leaf : ℕ) → slice_get news leaf ≡ slice_get (map (λ mark. Skipped) marks) leaf → is_open_mark (get_or news leaf Skipped) ≡ true → ⊥
unlooked_shut marks [] leaf same opens = cc
unlooked_shut [] (mark ∷ news) zero same opens = cc
unlooked_shut [] (mark ∷ news) (suc leaf) same opens = unlooked_shut [] news leaf same opens
unlooked_shut (old ∷ marks) (mark ∷ news) zero same opens = cc
unlooked_shut (old ∷ marks) (mark ∷ news) (suc leaf) same opens = unlooked_shut marks news leaf same opens

-- a walk that found nothing
pub record HasFoundNothing (s t : PortState) (old mid : ViewTask) : Type 0 where
  pub body : Body
  pub stepped : HasStepped s t old mid body
  pub still : mid.walk.moved ≡ false
  pub silent : mid.walk.held ≡ None

pub found_nothing : {T : Type 0} (s t : PortState) (old mid : ViewTask) (told token : T) → HasGoneOn s t old mid told (Nowhere token) → HasFoundNothing s t old mid
found_nothing s t old mid told token gone = record { body = gone.0; stepped = gone.1; still = gone.2.1; silent = gone.2.2 }

module _ (s t : PortState) (old mid : ViewTask) (follows : is_following old ≡ true) (ready : IsReady s old) (nothing : HasFoundNothing s t old mid) where
  stepped : HasStepped s t old mid nothing.body
  stepped = nothing.stepped

  same_tags : tags_at mid ≡ tags_at old
  same_tags = tags_stay s t old mid nothing.body ready stepped nothing.still

  is_task : IsTask mid
  is_task = stepped.ready.is_task

  stays : positions_of mid ≡ positions_of old
  stays = (stepped.walked.stays nothing.still).1

  abbrev IsAmong : ℕ → Type 0
  IsAmong leaf = is_among leaf (awaits (contents_of t mid) (view_of mid)) ≡ true

  caught_up : (leaf : ℕ) → IsAmong leaf → IsCaughtUp t mid.walk leaf
  caught_up leaf among = stepped.walked.caught_up nothing.still nothing.silent leaf (rw stepped.same.view at among)

  -- a leaf that wasn't looked at isn't open
  open_among : (leaf : ℕ) (among : Bool) → is_among leaf (awaits (contents_of t mid) (view_of old)) ≡ among → is_open_leaf mid.walk leaf ≡ true → among ≡ true
  open_among leaf true is opens = refl
  open_among leaf false is opens = absurd (unlooked_shut old.walk.marks mid.walk.marks leaf (stepped.walked.unmarked leaf is) opens)

  pub opens_among : (leaf : ℕ) → is_open_leaf mid.walk leaf ≡ true → IsAmong leaf
  opens_among leaf opens = rw stepped.same.view (open_among leaf _ refl opens)

  pub can_wait : CanWait t mid.walk
  can_wait = record {
    can = stepped.ready.can;
    one_task = λ leaf within. stepped.ready.port.one_task leaf (omega (arith, is_task.leaf_each));
    caught_up = λ leaf opens. caught_up leaf (opens_among leaf opens);
  }

  polled_for : (u : PortState) (rests : Bool) → HasPolled t u mid.walk rests → HasPolled s u old.walk rests
  polled_for u rests polled = polled_again s t u old.walk rests (polled_by_looks s t old.walk stepped.looked) (polled_of t u mid.walk old.walk rests (sym stepped.same.first) (sym (ap length stays)) polled)

  -- the poll looks again
  pub paused : (u : PortState) → HasHeard t u mid.walk → HasPaused s u old mid
  paused u news =
      let listened = news.listened in
      let sources : sources_of u mid ≡ sources_of t mid = same_leaves t u mid false listened in
      let contents : contents_of t mid ≡ contents_of s old = ap (contents_at (sources_of t mid)) stays ∙ before_is s t old mid nothing.body ready stepped in
      record {
        polled = polled_for u false listened.polled;
        same = stepped.same;
        stays = stays;
        met = listened.met ∙ same_met s t stepped.looked.met (sym nothing.silent ∙ stepped.walked.held);
        contents = rw sources contents;
        tags = same_tags;
      }

  -- what the look has shown is there for the next walk
  pub behind : (u : PortState) → HasHeard t u mid.walk → IsBehind u mid
  behind u news = record { leaf = news.leaf; awaited = rw (same_leaves t u mid false news.listened) (opens_among news.leaf news.opens); more = rw news.listened.polled.source news.more }

  fresh_there : (leaf : ℕ) → IsAmong leaf → IsFresh s t mid.walk leaf
  fresh_there leaf among = stepped.walked.fresh leaf (rw stepped.same.view at among)

  -- no leaf can go on
  closed_when : (leaf : ℕ) (closed : Bool) → is_open_mark (mark_of closed) ≡ false → closed ≡ true
  closed_when leaf true shut = refl
  closed_when leaf false shut = cc

  at_end : (leaf : ℕ) → IsLastOpen mid.walk (length mid.walk.marks) None → IsAmong leaf → IsAtEnd s t old (moved_on mid mid.walk Ended) leaf
  at_end leaf none among =
      let caught : IsCaughtUp t mid.walk leaf = caught_up leaf among in
      let mark : get_or mid.walk.marks leaf Skipped ≡ mark_of (is_seen_closed t (mid.walk.first + leaf)) = get_or_from_slice_get mid.walk.marks leaf _ Skipped caught.mark in
      let shut : is_open_leaf mid.walk leaf ≡ false = none leaf (slice_get_within mid.walk.marks leaf _ caught.mark) in
      record { position = caught.position; closed = closed_when leaf _ (sym (ap is_open_mark mark) ∙ shut) }

  pub ends : {T : Type 0} (told : T) → IsLastOpen mid.walk (length mid.walk.marks) None → IsPoll s t old (moved_on mid mid.walk Ended) told polled.Ended
  ends told none =
      let was = underway old.stage follows in
      let new : ViewTask = moved_on mid mid.walk Ended in
      let keeps : KeepsPort t t = record { is_own = refl; source = refl; task = refl; plan = refl } in
      record {
        ready = ready_again t t mid new stepped.ready keeps (record { view = refl; caps = refl; first = refl }) refl stepped.ready.can tt;
        same = record { view = stepped.same.view; caps = stepped.same.caps; first = stepped.same.first };
        polled = polled_by_looks s t old.walk stepped.looked;
        next = record { refused = sym was.no_failure; failed = rw was.no_failure refl; ended = refl; row = rw was.rows refl };
        answer_is = record {
          stayed = record { row = was.rows; stays = stays; tags = λ follows. cc; fresh = fresh_there };
          ended = λ leaf awaited. at_end leaf none awaited;
        };
      }

  module _ (u : PortState) (last : ℕ) (is_last : IsLast mid.walk (length mid.walk.marks) last) (rested : HasRested t u mid.walk) where
    listened : HasListened t u mid.walk true
    listened = rested.listened

    -- the leaves that are awaited are those that were
    among_still : (leaf : ℕ) → is_awaited (view_of mid) (sources_of u mid) (positions_of mid) leaf ≡ true → IsAmong leaf
    among_still leaf awaited = rw (same_leaves t u mid true listened) at awaited

    closed_later : (leaf : ℕ) → is_seen_closed u leaf ≡ is_seen_closed t leaf
    closed_later leaf = same_closed t u mid true listened leaf

    opens_when : (leaf : ℕ) → IsAmong leaf → is_seen_closed u (mid.walk.first + leaf) ≡ false → is_open_leaf mid.walk leaf ≡ true
    opens_when leaf among opens =
        let mark : get_or mid.walk.marks leaf Skipped ≡ mark_of (is_seen_closed t (mid.walk.first + leaf)) = get_or_from_slice_get mid.walk.marks leaf _ Skipped (caught_up leaf among).mark in
        ap is_open_mark (mark ∙ ap mark_of (sym (closed_later (mid.walk.first + leaf)) ∙ opens))

    at_rest_by : (leaf : ℕ) (closed : Bool) → IsAmong leaf → is_seen_closed u (mid.walk.first + leaf) ≡ closed → IsAtRest s u old mid closed leaf
    at_rest_by leaf true among closed = record { position = rw (listened.polled.source, listened.seen) (caught_up leaf among).position; closed = closed }
    at_rest_by leaf false among closed =
        let opens : is_open_leaf mid.walk leaf ≡ true = opens_when leaf among closed in
        record { condition = rested.waits leaf opens; armed = rw stepped.looked.arms at (rested.armed_each leaf opens) }

    fresh_later : (leaf : ℕ) → IsAmong leaf → IsFresh s u mid.walk leaf
    fresh_later leaf among held = fresh_there leaf among (rw (listened.met, listened.polled.source) at held)

    pub waits : {T : Type 0} (told : T) → IsSoundPort u → IsPoll s u old mid told polled.Pending
    waits told sound =
        let was = underway old.stage follows in
        let is = underway mid.stage stepped.follows in
        let among : IsAmong last = opens_among last is_last.opens in
        let awaited : is_awaited (view_of mid) (sources_of u mid) (positions_of mid) last ≡ true = rw (same_leaves t u mid true listened) among in
        record {
          ready = still_ready t u mid true listened stepped.ready sound;
          same = stepped.same;
          polled = polled_for u true listened.polled;
          next = record { refused = sym was.no_failure; failed = rw (is.no_failure, was.no_failure) refl; ended = is.no_end; row = rw (is.rows, was.rows) refl };
          answer_is = record {
            stayed = record { row = was.rows; stays = stays; tags = λ follows. same_tags; fresh = λ leaf awaited. fresh_later leaf (among_still leaf awaited) };
            rests = λ leaf awaited. at_rest_by leaf _ (among_still leaf awaited) refl;
            some = (last, awaited, closed_later (mid.walk.first + last) ∙ not_closed t mid.walk last (caught_up last among) is_last.opens);
          };
        }

-- what a source has shown a later walk finds
pub finds_more : (s t : PortState) (old mid : ViewTask) → IsReady s old → IsBehind s old → HasFoundNothing s t old mid → ⊥
finds_more s t old mid ready behind nothing =
    let stepped = nothing.stepped in
    let walked = stepped.walked in
    let leaf : ℕ = behind.leaf in
    let at : ℕ = old.walk.first + leaf in
    let contents : contents_of t mid ≡ contents_of s old = ap (contents_at (sources_of t mid)) (walked.stays nothing.still).1 ∙ before_is s t old mid nothing.body ready stepped in
    let among : is_among leaf (awaits (contents_of t mid) (view_of old)) ≡ true = rw contents behind.awaited in
    let caught : IsCaughtUp t mid.walk leaf = walked.caught_up nothing.still nothing.silent leaf among in
    let position : slice_index (positions_of old) leaf ≡ length (t.seen (s.source at)) = rw ((walked.stays nothing.still).1, stepped.same.first, stepped.looked.source) at caught.position in
    let count : t.count (s.source at) ≡ length (t.seen (s.source at)) = rw (stepped.same.first, stepped.looked.source) at caught.count in
    omega (arith, behind.more, (stepped.looked.seen (s.source at)).known, position, count)
