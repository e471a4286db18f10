-- What a look, a rest and an asking for a token do to what an account knows as a port.
use Rattle.std.proofs.Common.{◌≡◌, ◌∙◌, ℕ, zero, suc, ◌+◌, ◌-◌, ◌^◌, ◌<◌, ◌≤◌, ◌==◌, min, List, [], ◌∷◌, length, slice_index_or, get_or, set, nat_lt, cond, Bool, true, false, not, ◌||◌, ◌≢◌, refl, sym, ap, subst, ne_eqb, arith}
use Rattle.std.proofs.lemmas.Bool.{ltb-true, ltb-false}
use Rattle.std.proofs.lemmas.List.{get_or-set_other, get_or_past, length-set}
use Rattle.std.proofs.lemmas.Simd.{get_or-zip2}
use mathlib.Core.Logic.{dite}
use native.Mathlib.Decide.{ℕ_discrete}
use Rattle.sig_flag.proofs.Stepping.{by_place, put_here, put_else}
use Rattle.sig_flag.proofs.Watching.{changed_long, set_same}
use Rattle.sig_flag.specs.Accounts as accounts
use Rattle.sig_flag.specs.Accounts.{no_plan, no_watch, no_hold, opening_knowledge, known, watch, hold, changed, after_look, after_collect, woken}
use Rattle.sig_flag.specs.Layouts.{leaf_at, no_leaf}
use Rattle.sig_flag.specs.Machines.{Machine, IsShown}
use Rattle.sig_flag.specs.declared.accounts.Account.{Account}
use Rattle.sig_flag.specs.declared.accounts.Hold.{Hold}
use Rattle.sig_flag.specs.declared.accounts.Knowledge.{Knowledge}
use Rattle.sig_flag.specs.declared.accounts.Watch.{Watch}
use Rattle.sig_flag.specs.declared.shape.LeafPlan.{LeafPlan}
use Rattle.sig_hist.specs.Ports as ports
use Rattle.sig_hist.specs.Ports.{put, checked, settled, looked, is_news}
use Rattle.sig_hist.specs.Sources.{room_of}
use Rattle.sig_hist.specs.declared.ports.Condition.{Condition}
use Rattle.sig_hist.specs.declared.ports.Condition.TheVariants.{Idle}
use Rattle.sig_hist.specs.declared.ports.Version.{Version}
use Rattle.sig_hub.proofs.Entered.{IsSeenAll, seen_all}
use Rattle.sig_hub.proofs.Stepped.{IsSoundAccount, Keeps}
use Rattle.sig_hub.specs.Polls.{collected, port_of}

-- ---- parts of an account, read after a change

read_there : {X Y : Type 0} (f : X → Y) (xs : List X) (at : ℕ) (x d : X) → (length xs ≤ at → f x ≡ f d) → f (get_or (set xs at x) at d) ≡ f x
read_there f [] at x d past = sym (past (omega arith))
read_there f (first ∷ xs) zero x d past = refl
read_there f (first ∷ xs) (suc at) x d past = read_there f xs at x d (λ beyond. past (omega (arith, beyond)))

-- what is read of an element after one was written; beyond the end nothing is
pub read_set : {X Y : Type 0} (f : X → Y) (xs : List X) (at k : ℕ) (x d : X) → (length xs ≤ at → f x ≡ f d) → f (get_or (set xs at x) k d) ≡ put (λ j. f (get_or xs j d)) at (f x) k
read_set {X} {Y} f xs at k x d past =
    dite (ℕ_discrete k at)
    (λ same. subst (λ (j : ℕ). f (get_or (set xs at x) j d) ≡ put (λ n. f (get_or xs n d)) at (f x) j) (sym same) (read_there f xs at x d past ∙ sym (put_here (λ n. f (get_or xs n d)) at (f x))))
    (λ other. ap f (get_or-set_other xs at k x d other) ∙ sym (put_else (λ n. f (get_or xs n d)) at k (f x) other))

-- each leaf's condition is changed; that of no leaf is idle
changed_at : (change : LeafPlan → Condition → Condition) (leaves : List LeafPlan) (a : Account) → length a.watches ≡ length leaves → ((plan : LeafPlan) → change plan Idle ≡ Idle) → (leaf : ℕ) →
    slice_index_or (changed change leaves a) leaf no_watch ≡ record (watch a leaf) { condition = change (leaf_at leaves leaf) (watch a leaf).condition }
changed_at change leaves a long idle leaf =
    let by = λ (plan : LeafPlan) (w : Watch). record w { condition = change plan w.condition } in
    elim (nat_lt leaf (length leaves)) as (λ within. nat_lt leaf (length leaves) ≡ within → slice_index_or (changed change leaves a) leaf no_watch ≡ by (leaf_at leaves leaf) (watch a leaf)) [
      | true ↦ λ is. let within = ltb-true leaf (length leaves) is in get_or-zip2 by leaves a.watches leaf no_leaf no_watch no_watch within (omega (arith, long))
      | false ↦ λ is.
          let past = ltb-false leaf (length leaves) is in
          let none : watch a leaf ≡ no_watch = get_or_past a.watches leaf no_watch (omega (arith, long)) in
          get_or_past (changed change leaves a) leaf no_watch (omega (arith, changed_long change leaves a long))
          ∙ (λ i. record { condition = sym (idle (leaf_at leaves leaf)) i; arms = 0 }) ∙ ap (by (leaf_at leaves leaf)) (sym none)
    ] refl

idle_both : (b : Bool) → cond b Idle Idle ≡ Idle
idle_both true = refl
idle_both false = refl

-- ---- looks

module _ (a : Account) (source : ℕ) (version : Version) (shown : IsShown (known a source) version) where
  -- a source that there isn't shows nothing
  shown_past : length a.knows ≤ source → version.count ≡ 0
  shown_past past =
      let room : version.count ≤ room_of no_plan.allow = subst (λ (k : Knowledge). version.count ≤ room_of k.plan.allow) (get_or_past a.knows source (opening_knowledge no_plan) past) shown.room in
      omega (arith, room)

  pub looked_sound : (leaves : List LeafPlan) → IsSoundAccount a → IsSoundAccount (after_look leaves a source version)
  looked_sound leaves sound k =
      let none = opening_knowledge no_plan in
      let next : Knowledge = record (known a source) { count = version.count } in
      let was = sound source in
      let parts : seen_all (known (after_look leaves a source version) k) ≡ ((known a k).plan, (known a k).seen, put (λ j. (known a j).count) source version.count k) =
      λ i. (
        set_same (λ (x : Knowledge). x.plan) a.knows source k next none refl i,
        set_same (λ (x : Knowledge). x.seen) a.knows source k next none refl i,
        read_set (λ (x : Knowledge). x.count) a.knows source k next none shown_past i,
      ) in
      subst IsSeenAll (sym parts) (by_place (λ j count (same : ℕ). IsSeenAll ((known a j).plan, (known a j).seen, count)) (λ j. (known a j).count) (λ j. (known a j).count) source version.count version.count
      (record { of_plan = was.of_plan; legal = was.legal; known = omega (arith, was.known, shown.count); room = shown.room; closed = shown.whole }) (λ j other. sound j) k)

  pub looked_port : (machine : Machine) → length a.watches ≡ length machine.layout.leaves →
      port_of (record { hub = machine; account = after_look machine.layout.leaves a source version }) ≡ looked (port_of (record { hub = machine; account = a })) source version
  looked_port machine long =
      let none = opening_knowledge no_plan in
      let next : Knowledge = record (known a source) { count = version.count } in
      let leaves = machine.layout.leaves in
      let watch_is = changed_at (λ leaf condition. cond (leaf.source == source) (checked version condition) condition) leaves a long (λ leaf. idle_both (leaf.source == source)) in
      λ i. record (port_of (record { hub = machine; account = a })) {
        condition = λ leaf. (watch_is leaf i).condition;
        arms = λ leaf. min (watch_is leaf i).arms (2 ^ 64 - 1);
        plan = λ k. set_same (λ (x : Knowledge). x.plan) a.knows source k next none refl i;
        seen = λ k. set_same (λ (x : Knowledge). x.seen) a.knows source k next none refl i;
        count = λ k. read_set (λ (x : Knowledge). x.count) a.knows source k next none shown_past i;
      }

pub look_keeps : (leaves : List LeafPlan) (a : Account) (source : ℕ) (version : Version) → length a.watches ≡ length leaves → Keeps a (after_look leaves a source version)
look_keeps leaves a source version long = record {
  number = refl;
  turn = refl;
  rings = refl;
  tells = refl;
  sources = length-set a.knows source _;
  leaves = changed_long (λ leaf condition. cond (leaf.source == source) (checked version condition) condition) leaves a long ∙ sym long;
  tasks = refl;
}

-- ---- rests

pub rested_port : (machine : Machine) (a : Account) (task : ℕ) → length a.watches ≡ length machine.layout.leaves →
    port_of (record { hub = machine; account = accounts.at_rest machine.layout.leaves a task }) ≡ ports.at_rest (port_of (record { hub = machine; account = a })) task
rested_port machine a task long =
    let next : Hold = record (hold a task) { tokens = (hold a task).tokens - 1 } in
    let leaves = machine.layout.leaves in
    let watch_is = changed_at (λ leaf condition. cond (leaf.task == task) (settled condition) condition) leaves a long (λ leaf. idle_both (leaf.task == task)) in
    let none_left : length a.holds ≤ task → (hold a task).tokens - 1 ≡ 0 = λ past. ap (λ (h : Hold). h.tokens - 1) (get_or_past a.holds task no_hold past) in
    λ i. record (port_of (record { hub = machine; account = a })) {
      condition = λ leaf. (watch_is leaf i).condition;
      arms = λ leaf. min (watch_is leaf i).arms (2 ^ 64 - 1);
      tokens = λ k. read_set (λ (h : Hold). h.tokens) a.holds task k next no_hold none_left i;
      missed = λ k. set_same (λ (h : Hold). h.missed) a.holds task k next no_hold refl i;
    }

pub rest_keeps : (leaves : List LeafPlan) (a b : Account) (task : ℕ) → Keeps a b → length b.watches ≡ length leaves → Keeps a (accounts.at_rest leaves b task)
rest_keeps leaves a b task keeps long = record {
  number = keeps.number;
  turn = keeps.turn;
  rings = keeps.rings;
  tells = keeps.tells;
  sources = keeps.sources;
  leaves = changed_long (λ leaf condition. cond (leaf.task == task) (settled condition) condition) leaves b long ∙ sym long ∙ keeps.leaves;
  tasks = length-set b.holds task _ ∙ keeps.tasks;
}

-- whether there is news

pub news_more : (at : ℕ) (version : Version) → version.count ≢ at → is_news at version ≡ true
news_more at version more i = not (ne_eqb version.count at more i) || version.closed

or_last : (b : Bool) → b || true ≡ true
or_last true = refl
or_last false = refl

pub news_closed : (at : ℕ) (version : Version) → version.closed ≡ true → is_news at version ≡ true
news_closed at version closed = ap (λ (b : Bool). not (version.count == at) || b) closed ∙ or_last (not (version.count == at))

-- ---- tokens

pub collected_port : (machine : Machine) (a : Account) (task : ℕ) (told : Bool) → task < length a.holds → length a.watches ≡ length machine.layout.leaves →
    port_of (record { hub = machine; account = after_collect machine.layout.leaves a task told }) ≡ collected (port_of (record { hub = machine; account = a })) task told
collected_port machine a task true within long =
    let next : Hold = record (hold a task) { tokens = (hold a task).tokens + 1; found = (hold a task).found + 1 } in
    let leaves = machine.layout.leaves in
    let watch_is = changed_at (λ leaf condition. cond (leaf.task == task) (woken condition) condition) leaves a long (λ leaf. idle_both (leaf.task == task)) in
    λ i. record (port_of (record { hub = machine; account = a })) {
      condition = λ leaf. (watch_is leaf i).condition;
      arms = λ leaf. min (watch_is leaf i).arms (2 ^ 64 - 1);
      tokens = λ k. read_set (λ (h : Hold). h.tokens) a.holds task k next no_hold (λ past. absurd (omega (arith, within, past))) i;
      missed = λ k. set_same (λ (h : Hold). h.missed) a.holds task k next no_hold refl i;
    }
collected_port machine a task false within long =
    let next : Hold = record (hold a task) { missed = (hold a task).missed + 1 } in
    λ i. record (port_of (record { hub = machine; account = a })) {
      tokens = λ k. set_same (λ (h : Hold). h.tokens) a.holds task k next no_hold refl i;
      missed = λ k. read_set (λ (h : Hold). h.missed) a.holds task k next no_hold (λ past. absurd (omega (arith, within, past))) i;
    }

pub collect_keeps : (leaves : List LeafPlan) (a : Account) (task : ℕ) (told : Bool) → length a.watches ≡ length leaves → Keeps a (after_collect leaves a task told)
collect_keeps leaves a task true long = record {
  number = refl;
  turn = refl;
  rings = refl;
  tells = refl;
  sources = refl;
  leaves = changed_long (λ leaf condition. cond (leaf.task == task) (woken condition) condition) leaves a long ∙ sym long;
  tasks = length-set a.holds task _;
}
collect_keeps leaves a task false long = record { number = refl; turn = refl; rings = refl; tells = refl; sources = refl; leaves = refl; tasks = length-set a.holds task _ }

pub collect_sound : (leaves : List LeafPlan) (a : Account) (task : ℕ) (told : Bool) → IsSoundAccount a → IsSoundAccount (after_collect leaves a task told)
collect_sound leaves a task true sound = sound
collect_sound leaves a task false sound = sound
