-- A view that is polled until no held word is in its way.
use Rattle.std.proofs.Common.{◌≡◌, ◌∙◌, ℕ, ◌+◌, ◌-◌, List, [], ◌∷◌, ◌++◌, length, Bool, true, false, Option, None, Some, ◌⊎◌, inl, inr, refl, sym, ap, subst, arith}
use Rattle.std.proofs.lemmas.List.{append-nil}
use Rattle.sig_expr.specs.Leaves.{leaves}
use Rattle.sig_expr.specs.Shapes.{view_tree}
use Rattle.sig_expr.specs.declared.expressions.View.{View}
use Rattle.sig_hist.specs.Ports.{PortState}
use Rattle.sig_hub.specs.Hubs.{HubState}
use Rattle.sig_hub.specs.Polls.{Token}
use Rattle.sig_rows.specs.declared.rows.Row.{Row}
use Rattle.sig_view.specs.Polling.{IsAtEnd, IsAtRest, IsPending, IsSameTask, IsTold}
use Rattle.sig_view.specs.Tasks.{first_of, is_ended, positions_of}
use Rattle.sig_view.specs.Watching.{IsGiven, IsLost, IsWatching}
use Rattle.sig_view.specs.declared.task.Polled.TheVariants as polled
use Rattle.sig_view.specs.declared.task.ViewTask.{ViewTask}
use Rattle.sig_view.specs.declared.watching.WatchedView.{WatchedView}
use Rattle.sig_walk.proofs.Leaving.{polled_again, polled_not, polled_of, put_here}
use Rattle.sig_walk.specs.Waiting.{HasPolled}
use Rattle.sig_exec.proofs.Moments.{polled_stays}
use Rattle.sig_exec.specs.Jobs.{HasGone, HasRowMore, IsIn, StaysForOthers, Waits, token_of}
use Rattle.sig_exec.specs.declared.jobs.Phase.{Phase}
use Rattle.sig_exec.specs.declared.jobs.Phase.TheVariants.{Live, Ended, Lost}

-- each poll so far found a held word, and gave no row
pub record HasTried (hub : HubState) (s t : PortState) (old new : WatchedView) (token : Token) : Type 0 where
  pub polled : HasPolled s t old.task.walk false
  pub watching : IsWatching t new
  pub goes_on : is_ended new.task ≡ false
  pub same : IsSameTask old.task new.task
  pub rows : new.rows ≡ old.rows
  pub told : token ≡ token_of hub (s.task (first_of old.task))

-- the poll that gave an answer, and the phase that is by that
pub record HasSettled (hub : HubState) (s t : PortState) (old new : WatchedView) (phase : Phase) : Type 0 where
  pub others : StaysForOthers s t (s.task (first_of old.task))
  pub is_in : IsIn hub t (s.task (first_of old.task)) new phase
  pub gone : HasGone s t (s.task (first_of old.task)) old new phase

same_then : (old mid new : ViewTask) → IsSameTask old mid → IsSameTask mid new → IsSameTask old new
same_then old mid new first second = record { view = second.view ∙ first.view; caps = second.caps ∙ first.caps; first = second.first ∙ first.first }

pub not_tried : (hub : HubState) (s : PortState) (old : WatchedView) (token : Token) → IsWatching s old → is_ended old.task ≡ false → token ≡ token_of hub (s.task (first_of old.task)) → HasTried hub s s old old token
not_tried hub s old token watching goes_on told = record { polled = polled_not s old.task.walk; watching = watching; goes_on = goes_on; same = record { view = refl; caps = refl; first = refl }; rows = refl; told = told }

as_many_leaves : (s t : PortState) (old new : WatchedView) → IsWatching s old → IsWatching t new → IsSameTask old.task new.task → length (positions_of new.task) ≡ length (positions_of old.task)
as_many_leaves s t old new was is same = is.ready.is_task.leaf_each ∙ ap (λ (shown : View). length (leaves (view_tree shown))) same.view ∙ sym was.ready.is_task.leaf_each

-- ---- one poll more

module _ (hub : HubState) (s t u : PortState) (old mid new : WatchedView) (token : Token) (start : IsWatching s old) (tried : HasTried hub s t old mid token) where
  abbrev task : ℕ
  task = s.task (first_of old.task)

  polled_on : (rests : Bool) → HasPolled t u mid.task.walk rests → HasPolled s u old.task.walk rests
  polled_on rests polled = polled_again s t u old.task.walk rests tried.polled (polled_of t u mid.task.walk old.task.walk rests (sym tried.same.first) (sym (as_many_leaves s t old mid start tried.watching tried.same)) polled)

  pub tried_again : (word : ℕ) (back : Token) → IsGiven t u mid new token (polled.Again word back) [] → HasTried hub s u old new back
  tried_again word back given = record {
    polled = polled_on false given.poll.polled;
    watching = given.watching;
    goes_on = given.poll.next.ended;
    same = same_then old.task mid.task new.task tried.same given.poll.same;
    rows = given.rows ∙ append-nil mid.rows ∙ tried.rows;
    told = given.poll.answer_is.same_token ∙ tried.told;
  }

  gone_on : IsSameTask mid.task new.task → IsSameTask old.task new.task
  gone_on same = same_then old.task mid.task new.task tried.same same

  row_more : (row : Row) → new.rows ≡ mid.rows ++ row ∷ [] → HasRowMore old.rows new.rows
  row_more row more = (row, more ∙ ap (λ (rows : List Row). rows ++ row ∷ []) tried.rows)

  module _ (holds : s.tokens task ≡ 1) where
    pub row_settles : (row : Row) (back : Token) (held : Option ℕ) → IsGiven t u mid new token (polled.Batch row back held) (row ∷ []) → HasSettled hub s u old new (Live (Some back))
    row_settles row back held given =
        let polled : HasPolled s u old.task.walk false = polled_on false given.poll.polled in
        record {
          others = polled_stays s u old.task.walk false given.watching.ready.port.sound polled;
          is_in = (given.watching, given.poll.next.ended, (given.poll.answer_is.same_token ∙ tried.told, ap (λ (tokens : ℕ → ℕ). tokens task) polled.tokens ∙ holds));
          gone = record { same = gone_on given.poll.same; given = row_more row given.rows };
        }

    -- the token is spent
    none_left : (polled : HasPolled s u old.task.walk true) → u.tokens task ≡ 0
    none_left polled = ap (λ (tokens : ℕ → ℕ). tokens task) polled.tokens ∙ put_here s.tokens task (s.tokens task - 1) ∙ ap (λ (count : ℕ). count - 1) holds

    since : (leaf : ℕ) → IsTold t u mid.task new.task leaf → IsTold s u new.task new.task leaf
    since leaf told = record { condition = told.condition; armed = omega (arith, told.armed, tried.polled.rises (first_of new.task + leaf)) }

    rests_by : (closed : Bool) (leaf : ℕ) → IsAtRest t u mid.task new.task closed leaf → IsTold s u new.task new.task leaf ⊎ IsAtEnd s u new.task new.task leaf
    rests_by true leaf ended = inr (record { position = ended.position; closed = ended.closed })
    rests_by false leaf told = inl (since leaf told)

    waits : IsPending t u mid.task new.task → Waits s u new.task
    waits pending = record {
      each = λ leaf awaited. rests_by _ leaf (pending.rests leaf awaited);
      some = (pending.some.0, pending.some.1, since pending.some.0 (subst (λ (closed : Bool). IsAtRest t u mid.task new.task closed pending.some.0) pending.some.2 (pending.rests pending.some.0 pending.some.1)));
    }

    pub rest_settles : IsGiven t u mid new token polled.Pending [] → HasSettled hub s u old new (Live None)
    rest_settles given =
        let polled : HasPolled s u old.task.walk true = polled_on true given.poll.polled in
        record {
          others = polled_stays s u old.task.walk true given.watching.ready.port.sound polled;
          is_in = (given.watching, given.poll.next.ended, none_left polled);
          gone = record { same = gone_on given.poll.same; given = (given.rows ∙ append-nil mid.rows ∙ tried.rows, inl (waits given.poll.answer_is)) };
        }

  pub end_settles : (row : Row) → IsGiven t u mid new token polled.Ended (row ∷ []) → HasSettled hub s u old new Ended
  end_settles row given = record {
    others = polled_stays s u old.task.walk false given.watching.ready.port.sound (polled_on false given.poll.polled);
    is_in = (given.watching, given.poll.next.ended);
    gone = record { same = gone_on given.poll.same; given = row_more row given.rows };
  }

  pub loss_settles : IsLost t u mid new → HasSettled hub s u old new Lost
  loss_settles lost = record {
    others = polled_stays s u old.task.walk false lost.ready.port.sound (polled_on false lost.polled);
    is_in = lost.sound;
    gone = record { same = gone_on lost.same; given = lost.rows ∙ tried.rows };
  }
