-- What arms, looks and rests leave of a port, as a poll promises it.
use Rattle.std.proofs.Common.{◌≡◌, ◌≢◌, ◌∙◌, ℕ, ◌+◌, ◌-◌, ◌^◌, ◌<◌, ◌≤◌, ◌==◌, min, length, cond, Bool, true, false, refl, ap, arith}
use Rattle.std.proofs.lemmas.Bool.{eqb-true}
use Rattle.std.proofs.lemmas.Bool.Decides.{nat_tests}
use Rattle.std.proofs.lemmas.List.{take_all}
use Rattle.sig_hist.specs.Ports.{GoesOn, PortState, armed, at_rest, checked, looked, put, raised}
use Rattle.sig_hist.specs.declared.ports.Condition.{Condition}
use Rattle.sig_hist.specs.declared.ports.Condition.TheVariants.{Waiting}
use Rattle.sig_hist.specs.declared.ports.Version.{Version}
use Rattle.sig_hist.proofs.Ways.{front_on}
use Rattle.sig_walk.proofs.Staying.{goes_on_later}
use Rattle.sig_walk.specs.Waiting.{HasPolled, is_walked}
use Rattle.sig_walk.specs.Walking.{HasLooked, Progress}

-- a fact at a place of a function that was put at another
pub by_place : {X : Type 0} (f : ℕ → X) (at : ℕ) (x : X) (k : ℕ) (P : X → Type 0) → (k ≡ at → P x) → (k ≢ at → P (f k)) → P (put f at x k)
by_place f at x k P here other = elim (k == at) as (λ same. (k == at) ≡ same → P (cond same x (f k))) [
  | true ↦ λ same. here (eqb-true k at same)
  | false ↦ λ apart. other (grind (arith, nat_tests))
] refl

pub put_here : {X : Type 0} (f : ℕ → X) (at : ℕ) (x : X) → put f at x at ≡ x
put_here f at x = by_place f at x at (λ y. y ≡ x) (λ same. refl) (λ other. absurd (other refl))

-- nothing was seen
pub stands : (s : PortState) (source count : ℕ) → s.count source ≤ count → GoesOn s source (s.seen source) count
stands s source count known = record { front = take_all _ _ (omega arith); known = known; closed = λ closed. refl }

module _ (s : PortState) (walk : Progress) where
  walked : (leaf : ℕ) → leaf < length walk.positions → is_walked walk (walk.first + leaf) ≡ true
  walked leaf within = grind (arith, nat_tests)

  pub polled_not : HasPolled s s walk false
  polled_not = record {
    is_own = refl;
    source = refl;
    task = refl;
    plan = refl;
    missed = refl;
    seen = λ source. stands s source (s.count source) (omega arith);
    met = take_all _ _ (omega arith);
    tokens = refl;
    arms = λ leaf other. refl;
    rises = λ leaf. omega arith;
    waits = λ leaf version other waits. waits;
  }

  pub polled_armed : (leaf : ℕ) → leaf < length walk.positions → s.task (walk.first + leaf) ≡ s.task walk.first → HasPolled s (armed s (walk.first + leaf)) walk false
  polled_armed leaf within one_task =
      let at : ℕ = walk.first + leaf in
      record {
        is_own = refl;
        source = refl;
        task = refl;
        plan = refl;
        missed = refl;
        seen = λ source. stands s source (s.count source) (omega arith);
        met = take_all _ _ (omega arith);
        tokens = refl;
        arms = λ k other. by_place s.arms at (raised (s.arms at)) k (λ arms. arms ≡ s.arms k) (λ here. let mine : is_walked walk k ≡ true = ap (is_walked walk) here ∙ walked leaf within in cc) (λ apart. refl);
        rises = λ k. by_place s.arms at (raised (s.arms at)) k (λ arms. min (s.arms k) (2 ^ 64 - 1) ≤ arms) (λ here. omega (arith, ap s.arms here)) (λ apart. omega arith);
        waits = λ k version other waits. by_place s.condition at Condition.Armed k (λ condition. condition ≡ Waiting version)
            (λ here. let mine : s.task k ≡ s.task walk.first = ap s.task here ∙ one_task in absurd (grind (arith, nat_tests))) (λ apart. waits);
      }

  still_waits : (version old : Version) (condition : Condition) (same : Bool) → condition ≡ Waiting old → cond same (checked version condition) condition ≡ Waiting old
  still_waits version old condition true waits = ap (checked version) waits
  still_waits version old condition false waits = waits

  pub polled_looked : (source : ℕ) (version : Version) → s.count source ≤ version.count → HasPolled s (looked s source version) walk false
  polled_looked source version known = record {
    is_own = refl;
    source = refl;
    task = refl;
    plan = refl;
    missed = refl;
    seen = λ k. stands s k _ (by_place s.count source version.count k (λ count. s.count k ≤ count) (λ here. omega (arith, ap s.count here)) (λ apart. omega arith));
    met = take_all _ _ (omega arith);
    tokens = refl;
    arms = λ k other. refl;
    rises = λ k. omega arith;
    waits = λ k old other waits. still_waits version old (s.condition k) (s.source k == source) waits;
  }

  pub polled_rested : (task : ℕ) → task ≡ s.task walk.first → HasPolled s (at_rest s task) walk true
  polled_rested task is = record {
    is_own = refl;
    source = refl;
    task = refl;
    plan = refl;
    missed = refl;
    seen = λ source. stands s source (s.count source) (omega arith);
    met = take_all _ _ (omega arith);
    tokens = rw is refl;
    arms = λ leaf other. refl;
    rises = λ leaf. omega arith;
    waits = λ k version other waits. rw (is, other) waits;
  }

-- what looks and fetches leave
pub polled_by_looks : (s t : PortState) (walk : Progress) → HasLooked s t → HasPolled s t walk false
polled_by_looks s t walk looked = record {
  is_own = looked.is_own;
  source = looked.source;
  task = looked.task;
  plan = looked.plan;
  missed = looked.missed;
  seen = looked.seen;
  met = looked.met;
  tokens = looked.tokens;
  arms = λ leaf other. rw looked.arms refl;
  rises = λ leaf. rw looked.arms (omega arith);
  waits = λ leaf version other waits. looked.waits leaf version waits;
}

-- one after another
pub polled_again : (s t u : PortState) (walk : Progress) (rests : Bool) → HasPolled s t walk false → HasPolled t u walk rests → HasPolled s u walk rests
polled_again s t u walk rests first second = record {
  is_own = second.is_own ∙ first.is_own;
  source = second.source ∙ first.source;
  task = second.task ∙ first.task;
  plan = second.plan ∙ first.plan;
  missed = second.missed ∙ first.missed;
  seen = λ source. goes_on_later s t u source (first.seen source) first.plan (second.seen source);
  met = front_on s.met t.met u.met first.met second.met;
  tokens = rw (first.tokens, first.task) at second.tokens;
  arms = λ leaf other. second.arms leaf other ∙ first.arms leaf other;
  rises = λ leaf. omega (arith, first.rises leaf, second.rises leaf);
  waits = λ leaf version other waits. second.waits leaf version (rw first.task other) (first.waits leaf version other waits);
}

-- of another walk over the same leaves
pub polled_of : (s t : PortState) (walk other : Progress) (rests : Bool) → other.first ≡ walk.first → length other.positions ≡ length walk.positions → HasPolled s t walk rests → HasPolled s t other rests
polled_of s t walk other rests first leaves polled = record {
  is_own = polled.is_own;
  source = polled.source;
  task = polled.task;
  plan = polled.plan;
  missed = polled.missed;
  seen = polled.seen;
  met = polled.met;
  tokens = rw first polled.tokens;
  arms = λ leaf apart. polled.arms leaf (rw (first, leaves) at apart);
  rises = polled.rises;
  waits = λ leaf version apart. polled.waits leaf version (rw first at apart);
}
