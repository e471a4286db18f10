-- What the port of one source knows after its calls.
use Rattle.std.proofs.Common.{◌≡◌, ◌∙◌, ℕ, ◌+◌, ◌<◌, ◌≤◌, ◌==◌, nat_lt, List, [], ◌∷◌, ◌++◌, length, map, get_or, slice_set, take, cond, Bool, true, false, Option, refl, sym, ap, subst, true≢false, arith}
use Rattle.std.proofs.lemmas.Bool.{eqb-true}
use Rattle.std.proofs.lemmas.Bool.Decides.{nat_tests}
use Rattle.std.proofs.lemmas.List.{get_or-set_same, get_or-set_other, length-map, length-set, length-take, length_push, take_all, take-append-le}
use Rattle.sig_hist.proofs.Among.{each_among}
use Rattle.sig_hist.proofs.Counts.{kept_start}
use Rattle.sig_hist.proofs.Entries.{stays_in}
use Rattle.sig_hist.proofs.Mapped.{mapped}
use Rattle.sig_hist.specs.Entering.{entering_from}
use Rattle.sig_hist.specs.Histories.{IsFront, has_left, is_closed, is_leave}
use Rattle.sig_hist.specs.Plain.{no_leaf, leaf_armed, leaf_settled, version_of}
use Rattle.sig_hist.specs.Ports.{GoesOn, IsFetch, IsFetchInVain, IsSeen, IsSoundPort, put, looked, at_rest, armed, seen_of}
use Rattle.sig_hist.specs.Sources.{Source, IsIn, IsPlan, IsSource, entered, is_among, room_of, writers_of}
use Rattle.sig_hist.specs.declared.bells.PlainLeaf.{PlainLeaf}
use Rattle.sig_hist.specs.declared.edits.Entry.{Entry}
use Rattle.sig_hist.specs.declared.plans.SourcePlan.{SourcePlan}
use Rattle.sig_hist.specs.declared.ports.Fetched.{Fetched}
use Rattle.sig_hist.specs.declared.ports.Version.{Version}
use Rattle.trials_parts.specs.Moving.{HasCaughtUp, IsOneSource, OneSource, known, leaf_checked}

-- ---- functions with another value at one number

same_put : {X : Type 0} (f : ℕ → X) (at k : ℕ) → f k ≡ put f at (f at) k
same_put f at k = elim (k == at) as (λ same. (k == at) ≡ same → f k ≡ cond same (f at) (f k)) [
  | true ↦ λ same. ap f (eqb-true k at same)
  | false ↦ λ other. refl
] refl

put_again : {X : Type 0} (f : ℕ → X) (at : ℕ) (x y : X) (k : ℕ) → put f at y k ≡ put (put f at x) at y k
put_again f at x y k = elim (k == at) as (λ same. cond same y (f k) ≡ cond same y (cond same x (f k))) [ true ↦ refl | false ↦ refl ]

put_leaf : {X : Type 0} (read : PlainLeaf → X) (leaves : List PlainLeaf) (at : ℕ) (leaf : PlainLeaf) (k : ℕ) → at < length leaves →
    read (get_or (slice_set leaves at leaf) k no_leaf) ≡ put (λ (k : ℕ). read (get_or leaves k no_leaf)) at (read leaf) k
put_leaf read leaves at leaf k within = elim (k == at) as (λ same. (k == at) ≡ same → read (get_or (slice_set leaves at leaf) k no_leaf) ≡ cond same (read leaf) (read (get_or leaves k no_leaf))) [
  | true ↦ λ same. rw (eqb-true k at same, get_or-set_same leaves at leaf no_leaf within) refl
  | false ↦ λ other. rw (get_or-set_other leaves at k leaf no_leaf (grind (arith, nat_tests))) refl
] refl

-- ---- looks, rests and bells

pub known_looked : (old port : OneSource) (version : Version) (leaves : List PlainLeaf) → port ≡ record old { count = version.count } → leaves ≡ map (leaf_checked version) port.leaves →
    known (record port { leaves = leaves }) ≡ looked (known old) 0 version
known_looked old port version leaves counted changed =
    let each = mapped (leaf_checked version) refl old.leaves in
    rw (changed, counted) (λ i. record (looked (known old) 0 version) {
      is_own = λ leaf. nat_lt leaf (length-map old.leaves (leaf_checked version) i);
      condition = λ leaf. (each leaf i).condition;
      arms = λ leaf. (each leaf i).arms;
      count = λ source. put_again (λ (source : ℕ). 0) 0 old.count version.count source i;
    })

pub known_at_rest : (port : OneSource) (leaves : List PlainLeaf) → leaves ≡ map leaf_settled port.leaves → known (record port { leaves = leaves }) ≡ at_rest (known port) 0
known_at_rest port leaves changed =
    let each = mapped leaf_settled refl port.leaves in
    rw changed (λ i. record (at_rest (known port) 0) {
      is_own = λ leaf. nat_lt leaf (length-map port.leaves leaf_settled i);
      condition = λ leaf. (each leaf i).condition;
      arms = λ leaf. (each leaf i).arms;
      tokens = λ task. same_put (λ (task : ℕ). 0) 0 task i;
    })

pub known_armed : (port : OneSource) (leaf : ℕ) (changed : PlainLeaf) → leaf < length port.leaves → changed ≡ leaf_armed (get_or port.leaves leaf no_leaf) →
    known (record port { leaves = slice_set port.leaves leaf changed }) ≡ armed (known port) leaf
known_armed port leaf changed within is = rw is (let arm : PlainLeaf = leaf_armed (get_or port.leaves leaf no_leaf) in
    λ i. record (known port) {
      is_own = λ k. nat_lt k (length-set port.leaves leaf arm i);
      condition = λ k. put_leaf (λ (leaf : PlainLeaf). leaf.condition) port.leaves leaf arm k within i;
      arms = λ k. put_leaf (λ (leaf : PlainLeaf). leaf.arms) port.leaves leaf arm k within i;
    })

-- ---- sound states

-- a source whose writer is in isn't closed
stays_open : (source : Source) (writer : ℕ) → IsIn source writer → is_closed (writers_of source.plan.allow) source.history ≡ true → ⊥
stays_open source writer is_in closed =
    let left = each_among (λ (writer : ℕ). has_left writer source.history) (writers_of source.plan.allow) writer closed is_in.is_writer in
    true≢false (sym left ∙ is_in.stays)

pub known_is_sound : (port : OneSource) (writer pushes : ℕ) → IsOneSource port writer pushes → IsSoundPort (known port)
known_is_sound port writer pushes is source = elim (source == 0) as (λ same. IsSeen port.source.plan (cond same port.source.history []) (cond same port.count 0)) [
  | true ↦ record {
    of_plan = is.is_source.plan;
    legal = is.is_source.legal;
    known = is.seen;
    room = omega (arith, is.pushed, is.room);
    closed = λ closed. absurd (stays_open port.source writer is.is_in closed);
  }
  | false ↦ record { of_plan = is.is_source.plan; legal = tt; known = omega arith; room = omega arith; closed = λ closed. refl }
]

pub started : (plan : SourcePlan) (writer pushes : ℕ) (port : OneSource) → IsPlan plan → is_among writer (writers_of plan.allow) ≡ true → pushes ≤ room_of plan.allow →
    port.source ≡ record { plan = plan; history = [] } → port.count ≡ 0 → IsOneSource port writer pushes
started plan writer pushes port is_plan among room source_is count_is =
    let start : Source = record { plan = plan; history = [] } in
    let is : IsOneSource (record port { source = start; count = 0 }) writer pushes = record {
      is_source = (kept_start plan (room_of plan.allow) is_plan (omega arith)).of_source;
      is_in = record { is_writer = among; stays = refl };
      seen = omega arith;
      pushed = omega arith;
      room = room;
    } in
    subst (λ (it : OneSource). IsOneSource it writer pushes) (λ i. record port { source = sym source_is i; count = sym count_is i }) is

-- ---- fetches

pub caught_up_start : (source : Source) (writer count : ℕ) → IsSource source → IsIn source writer → length source.history ≤ count → HasCaughtUp source source writer count
caught_up_start source writer count is_source is_in within =
    record { plan = refl; front = take_all _ source.history (omega arith); is_source = is_source; is_in = is_in; within = within }

pub caught_up_more : (old new next : Source) (writer count : ℕ) (entry : Entry) → HasCaughtUp old new writer count → next ≡ entered new entry → is_leave entry.edit ≡ false → IsSource next → length new.history < count →
    HasCaughtUp old next writer count
caught_up_more old new next writer count entry so_far is no_leave is_source within = record {
  plan = ap (λ (source : Source). source.plan) is ∙ so_far.plan;
  front = rw (is, take-append-le (length old.history) new.history (entry ∷ []) (omega (arith, ap length so_far.front, length-take (length old.history) new.history))) so_far.front;
  is_source = is_source;
  is_in = rw is (stays_in new writer entry so_far.is_in no_leave);
  within = rw is (omega (arith, length_push new.history entry));
}

-- more of the source was seen
known_seen : (port : OneSource) (source : Source) → source.plan ≡ port.source.plan → known (record port { source = source }) ≡ seen_of (known port) 0 source.history port.count
known_seen port source same = λ i. record (known port) {
  plan = λ k. same i;
  seen = λ k. put_again (λ (k : ℕ). []) 0 port.source.history source.history k i;
  count = λ k. put_again (λ (k : ℕ). 0) 0 port.count port.count k i;
}

module _ (port : OneSource) (source : Source) (writer : ℕ) (is_in : IsIn port.source writer) (caught_up : HasCaughtUp port.source source writer port.count) where
  pub fetch_in_vain : IsFetchInVain (known port) (known (record port { source = source })) 0
  fetch_in_vain = record {
    state = known_seen port source caught_up.plan;
    goes_on = record { front = caught_up.front; known = omega arith; closed = λ closed. absurd (stays_open port.source writer is_in closed) };
  }

  pub fetch_made : (leaf : ℕ) (from : Option ℕ) (fetched : Fetched) → length source.history ≡ port.count → fetched.version ≡ version_of source → fetched.entering ≡ entering_from source from →
      IsFetch (known port) (known (record port { source = source })) leaf from fetched
  fetch_made leaf from fetched all version entering = record {
    state = known_seen port source caught_up.plan ∙ ap (seen_of (known port) 0 source.history) (sym all);
    goes_on = record { front = caught_up.front; known = omega (arith, all); closed = λ closed. absurd (stays_open port.source writer is_in closed) };
    count = ap (λ (version : Version). version.count) version;
    closed = ap (λ (version : Version). version.closed) version ∙ ap (λ (plan : SourcePlan). is_closed (writers_of plan.allow) source.history) caught_up.plan;
    entering = entering ∙ ap (λ (plan : SourcePlan). entering_from (record { plan = plan; history = source.history }) from) caught_up.plan;
  }

pub one_more : (source next : Source) (entry : Entry) (place : ℕ) → next ≡ entered source entry → length source.history ≡ place → length next.history ≡ place + 1
one_more source next entry place is long = rw is (omega (arith, length_push source.history entry, long))
