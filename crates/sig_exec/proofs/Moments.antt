-- What polls of one task leave of the others, and how such moments follow one another.
use Rattle.std.proofs.Common.{◌≡◌, ◌∙◌, ℕ, ◌+◌, ◌-◌, ◌≤◌, ◌==◌, cond, Bool, true, false, ◌⊎◌, inl, inr, refl, sym, ap, arith}
use Rattle.sig_hist.specs.Ports.{IsSoundPort, PortState, put}
use Rattle.sig_hist.specs.declared.ports.Condition.TheVariants.{Waiting}
use Rattle.sig_hist.specs.declared.ports.Version.{Version}
use Rattle.sig_expr.specs.Shapes.{view_tree}
use Rattle.sig_hub.specs.Polls.{collected}
use Rattle.sig_rows.proofs.Numbering.{awaited_within}
use Rattle.sig_rows.specs.SoundRows.{is_awaited}
use Rattle.sig_view.proofs.Later.{same_holds}
use Rattle.sig_view.specs.Polling.{IsAtEnd, IsTold}
use Rattle.sig_view.specs.Tasks.{IsReady, contents_of, first_of, positions_of, sources_of, view_of}
use Rattle.sig_view.specs.declared.task.ViewTask.{ViewTask}
use Rattle.sig_walk.proofs.Leaving.{by_place, stands}
use Rattle.sig_walk.proofs.Staying.{goes_on_later}
use Rattle.sig_walk.specs.Waiting.{HasPolled}
use Rattle.sig_walk.specs.Walking.{HasSeenMore, Progress}
use Rattle.sig_exec.specs.Jobs.{HasGoneOn, StaysForOthers, Waits}

-- ---- one moment after another

pub more_then : (s t u : PortState) → HasSeenMore s t → HasSeenMore t u → HasSeenMore s u
more_then s t u first second = record {
  sound = second.sound;
  is_own = second.is_own ∙ first.is_own;
  source = second.source ∙ first.source;
  task = second.task ∙ first.task;
  plan = second.plan ∙ first.plan;
  seen = λ source. goes_on_later s t u source (first.seen source) first.plan (second.seen source);
}

pub goes_on_same : (s : PortState) → IsSoundPort s → HasGoneOn s s
goes_on_same s sound = record {
  more = record { sound = sound; is_own = refl; source = refl; task = refl; plan = refl; seen = λ source. stands s source (s.count source) (omega arith) };
  arms = λ leaf. omega arith;
  missed = λ task. omega arith;
}

pub goes_on_then : (s t u : PortState) → HasGoneOn s t → HasGoneOn t u → HasGoneOn s u
goes_on_then s t u first second = record {
  more = more_then s t u first.more second.more;
  arms = λ leaf. omega (arith, first.arms leaf, second.arms leaf);
  missed = λ task. omega (arith, first.missed task, second.missed task);
}

pub stays_same : (s : PortState) (task : ℕ) → IsSoundPort s → StaysForOthers s s task
stays_same s task sound = record { goes_on = goes_on_same s sound; tokens = λ other apart. refl; waits = λ leaf version apart waits. waits }

pub stays_then : (s t u : PortState) (task : ℕ) → StaysForOthers s t task → StaysForOthers t u task → StaysForOthers s u task
stays_then s t u task first second = record {
  goes_on = goes_on_then s t u first.goes_on second.goes_on;
  tokens = λ other apart. second.tokens other apart ∙ first.tokens other apart;
  waits = λ leaf version apart waits. second.waits leaf version (rw first.goes_on.more.task apart) (first.waits leaf version apart waits);
}

-- ---- polls

put_other : {X : Type 0} (f : ℕ → X) (at k : ℕ) (x : X) → (k == at) ≡ false → put f at x k ≡ f k
put_other f at k x other = rw other refl

tokens_by : (s t : PortState) (walk : Progress) (rests : Bool) → t.tokens ≡ cond rests (put s.tokens (s.task walk.first) (s.tokens (s.task walk.first) - 1)) s.tokens → (other : ℕ) → (other == s.task walk.first) ≡ false → t.tokens other ≡ s.tokens other
tokens_by s t walk true is other apart = ap (λ (tokens : ℕ → ℕ). tokens other) is ∙ put_other s.tokens (s.task walk.first) other _ apart
tokens_by s t walk false is other apart = ap (λ (tokens : ℕ → ℕ). tokens other) is

pub polled_stays : (s t : PortState) (walk : Progress) (rests : Bool) → IsSoundPort t → HasPolled s t walk rests → StaysForOthers s t (s.task walk.first)
polled_stays s t walk rests sound polled = record {
  goes_on = record {
    more = record { sound = sound; is_own = polled.is_own; source = polled.source; task = polled.task; plan = polled.plan; seen = polled.seen };
    arms = polled.rises;
    missed = λ task. rw polled.missed (omega arith);
  };
  tokens = tokens_by s t walk rests polled.tokens;
  waits = polled.waits;
}

-- ---- tokens

woken_waits : (s : PortState) (leaf task : ℕ) (version : Version) (mine : Bool) → s.condition leaf ≡ Waiting version → (s.task leaf == task) ≡ mine → mine ≡ false → (collected s task true).condition leaf ≡ Waiting version
woken_waits s leaf task version true waits is apart = cc
woken_waits s leaf task version false waits is apart = rw is waits

pub asked_stays : (s : PortState) (task : ℕ) (was_told : Bool) → IsSoundPort (collected s task was_told) → StaysForOthers s (collected s task was_told) task
asked_stays s task true sound = record {
  goes_on = record {
    more = record { sound = sound; is_own = refl; source = refl; task = refl; plan = refl; seen = λ source. stands s source (s.count source) (omega arith) };
    arms = λ leaf. omega arith;
    missed = λ other. omega arith;
  };
  tokens = λ other apart. put_other s.tokens task other _ apart;
  waits = λ leaf version apart waits. woken_waits s leaf task version false waits apart refl;
}
asked_stays s task false sound = record {
  goes_on = record {
    more = record { sound = sound; is_own = refl; source = refl; task = refl; plan = refl; seen = λ source. stands s source (s.count source) (omega arith) };
    arms = λ leaf. omega arith;
    missed = λ other. by_place s.missed task (s.missed task + 1) other (λ missed. s.missed other ≤ missed) (λ here. omega (arith, ap s.missed here)) (λ apart. omega arith);
  };
  tokens = λ other apart. refl;
  waits = λ leaf version apart waits. waits;
}

-- ---- waits

-- the bells of a view that waits were set since an earlier moment, too
pub waited_since : (s t u : PortState) (view : ViewTask) → HasGoneOn s t → Waits t u view → Waits s u view
waited_since s t u view goes_on waits =
    let since : (leaf : ℕ) → IsTold t u view view leaf → IsTold s u view view leaf =
    λ leaf told. record { condition = told.condition; armed = omega (arith, told.armed, goes_on.arms (first_of view + leaf)) } in
    record {
      each = λ leaf awaited. waits_by leaf since (waits.each leaf awaited);
      some = (waits.some.0, waits.some.1, since waits.some.0 waits.some.2);
    }
  where
    waits_by : (leaf : ℕ) → ((leaf : ℕ) → IsTold t u view view leaf → IsTold s u view view leaf) → IsTold t u view view leaf ⊎ IsAtEnd t u view view leaf → IsTold s u view view leaf ⊎ IsAtEnd s u view view leaf
    waits_by leaf since (inl told) = inl (since leaf told)
    waits_by leaf since (inr ended) = inr (record { position = ended.position; closed = ended.closed })

-- a view waits still after polls of another task
module _ (s t u : PortState) (view : ViewTask) (other : ℕ) (ready : IsReady t view) (stays : StaysForOthers t u other) (apart : (t.task (first_of view) == other) ≡ false) where
  more : HasSeenMore t u
  more = stays.goes_on.more

  awaited_then : (leaf : ℕ) → is_awaited (view_of view) (sources_of u view) (positions_of view) leaf ≡ is_awaited (view_of view) (sources_of t view) (positions_of view) leaf
  awaited_then leaf = rw (same_holds t u more view ready) refl

  told_still : (leaf : ℕ) → is_awaited (view_of view) (sources_of t view) (positions_of view) leaf ≡ true → IsTold s t view view leaf → IsTold s u view view leaf
  told_still leaf awaited told =
      let within = awaited_within (view_tree view.view) (contents_of t view) leaf awaited in
      record {
        condition = stays.waits (first_of view + leaf) _ (rw (ready.port.one_task leaf within) apart) told.condition;
        armed = omega (arith, told.armed, stays.goes_on.arms (first_of view + leaf));
      }

  ended_still : (leaf : ℕ) → IsAtEnd s t view view leaf → IsAtEnd s u view view leaf
  ended_still leaf ended =
      let source : ℕ = t.source (first_of view + leaf) in
      let whole : u.seen source ≡ t.seen source = (more.seen source).closed ended.closed in
      record {
        position = rw (more.source, whole) ended.position;
        closed = rw (more.source, more.plan, whole) ended.closed;
      }

  still : (leaf : ℕ) → is_awaited (view_of view) (sources_of t view) (positions_of view) leaf ≡ true → IsTold s t view view leaf ⊎ IsAtEnd s t view view leaf → IsTold s u view view leaf ⊎ IsAtEnd s u view view leaf
  still leaf awaited (inl told) = inl (told_still leaf awaited told)
  still leaf awaited (inr ended) = inr (ended_still leaf ended)

  pub waits_still : Waits s t view → Waits s u view
  waits_still waits = record {
    each = λ leaf awaited. let before = sym (awaited_then leaf) ∙ awaited in still leaf before (waits.each leaf before);
    some = (waits.some.0, awaited_then waits.some.0 ∙ waits.some.1, told_still waits.some.0 waits.some.1 waits.some.2);
  }
