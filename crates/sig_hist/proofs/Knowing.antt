-- What the port of one thread knows after its calls.
use Rattle.std.proofs.Common.{◌≡◌, ◌∙◌, ℕ, zero, suc, ◌+◌, ◌<◌, ◌==◌, nat_lt, List, [], ◌∷◌, ◌++◌, length, map, get_or, slice_set, take, drop, cond, true, false, Option, All, refl, sym, ap, arith}
use Rattle.std.proofs.lemmas.Bool.{eqb-true}
use Rattle.std.proofs.lemmas.Bool.Decides.{nat_tests}
use Rattle.std.proofs.lemmas.List.{get_or_default, get_or-set_same, get_or-set_other, length-map, length-set, take_all, take_at}
use Rattle.std.proofs.lemmas.List.Edits.{map_over_more}
use Rattle.std.proofs.lemmas.List.Elements.{All-map, All-set, All-tail, All-weaker}
use Rattle.sig_hist.proofs.Counts.{kept_start}
use Rattle.sig_hist.proofs.Mapped.{mapped}
use Rattle.sig_hist.proofs.Staying.{no_leaves}
use Rattle.sig_hist.specs.Entering.{entering_from}
use Rattle.sig_hist.specs.Plain.{OneThread, IsOneThread, no_source, no_leaf, source_at, leaf_at, version_of, known, after_leave, leaf_checked, leaf_settled, leaf_armed, source_of, leaf_of}
use Rattle.sig_hist.specs.Ports.{IsSoundPort, put, looked, at_rest, armed, seen_of, IsFetch, IsFetchInVain, IsFetchRefusal}
use Rattle.sig_hist.specs.Sources.{Source, IsPlan, IsSource, room_of}
use Rattle.sig_hist.specs.declared.bells.PlainLeaf.{PlainLeaf}
use Rattle.sig_hist.specs.declared.plans.SourcePlan.{SourcePlan}
use Rattle.sig_hist.specs.declared.ports.Condition.TheVariants.{Idle}
use Rattle.sig_hist.specs.declared.ports.Fetched.{Fetched}
use Rattle.sig_hist.specs.declared.ports.FetchError.{FetchError}
use Rattle.sig_hist.specs.declared.ports.FetchError.TheVariants.{Again, NoMemory}
use Rattle.sig_hist.specs.declared.ports.Version.{Version}

-- ---- lists of leaves

-- a loop that changes each item
pub changed_more : {X : Type 0} (f : X → X) (xs ys : List X) (at : ℕ) (default y : X) → at < length xs → length ys ≡ length xs → ys ≡ map f (take at xs) ++ drop at xs → y ≡ f (get_or ys at default) →
    slice_set ys at y ≡ map f (take (at + 1) xs) ++ drop (at + 1) xs
changed_more f xs ys at default y within long is read =
    rw read (map_over_more f xs ys at (get_or ys at default) within is (get_or_default ys at default _ (omega arith)))

-- and a loop over the sources that a caller leaves
pub left_more : (caller : ℕ) (xs ys : List Source) (at : ℕ) → at < length xs → length ys ≡ length xs → ys ≡ map (after_leave caller) (take at xs) ++ drop at xs →
    slice_set ys at (after_leave caller (get_or ys at no_source)) ≡ map (after_leave caller) (take (at + 1) xs) ++ drop (at + 1) xs
left_more caller xs ys at within long is = changed_more (after_leave caller) xs ys at no_source _ within long is refl

-- a list whose items were all written
pub all_written : {X : Type 0} (xs ys : List X) (n : ℕ) → length ys ≡ n → take n (ys ++ drop (length ys) xs) ≡ ys
all_written xs ys n long = take_at ys (drop (length ys) xs) n long

same_put : {X : Type 0} (f : ℕ → X) (at k : ℕ) → put f at (f at) k ≡ f k
same_put f at k = elim (k == at) as (λ same. (k == at) ≡ same → cond same (f at) (f k) ≡ f k) [
  | true ↦ λ same. ap f (sym (eqb-true k at same))
  | false ↦ λ other. refl
] refl

-- what is read of a leaf, after one was changed
put_leaf : {X : Type 0} (read : PlainLeaf → X) (leaves : List PlainLeaf) (at : ℕ) (leaf : PlainLeaf) (k : ℕ) → at < length leaves →
    read (get_or (slice_set leaves at leaf) k no_leaf) ≡ put (λ (k : ℕ). read (get_or leaves k no_leaf)) at (read leaf) k
put_leaf read leaves at leaf k within = elim (k == at) as (λ same. (k == at) ≡ same → read (get_or (slice_set leaves at leaf) k no_leaf) ≡ cond same (read leaf) (read (get_or leaves k no_leaf))) [
  | true ↦ λ same. rw (eqb-true k at same, get_or-set_same leaves at leaf no_leaf within) refl
  | false ↦ λ other. rw (get_or-set_other leaves at k leaf no_leaf (grind (arith, nat_tests))) refl
] refl

-- ---- looks, rests and bells

known_changed : (port : OneThread) (f : PlainLeaf → PlainLeaf) → f no_leaf ≡ no_leaf → known (record port { leaves = map f port.leaves }) ≡ record (known port) {
  source = λ leaf. (f (leaf_at port leaf)).source;
  condition = λ leaf. (f (leaf_at port leaf)).condition;
  arms = λ leaf. (f (leaf_at port leaf)).arms;
}
known_changed port f none = λ i. record (known port) {
  is_own = λ leaf. nat_lt leaf (length-map port.leaves f i);
  source = λ leaf. (mapped f none port.leaves leaf i).source;
  condition = λ leaf. (mapped f none port.leaves leaf i).condition;
  arms = λ leaf. (mapped f none port.leaves leaf i).arms;
}

idle_checked : (version : Version) (source : ℕ) → leaf_checked source version no_leaf ≡ no_leaf
idle_checked version source = elim (0 == source) as (λ same. record no_leaf { condition = cond same Idle Idle } ≡ no_leaf) [ true ↦ refl | false ↦ refl ]

pub known_looked : (port : OneThread) (source : ℕ) (version : Version) (leaves : List PlainLeaf) → leaves ≡ map (leaf_checked source version) port.leaves → version ≡ version_of (source_at port source) →
    known (record port { leaves = leaves }) ≡ looked (known port) source version
known_looked port source version leaves changed is =
    let count : (k : ℕ) → length (source_at port k).history ≡ put (known port).count source version.count k = λ k. rw is (sym (same_put (known port).count source k)) in
    rw changed (known_changed port (leaf_checked source version) (idle_checked version source)) ∙ λ i. record (looked (known port) source version) { count = λ k. count k i }

pub known_at_rest : (port : OneThread) (leaves : List PlainLeaf) → leaves ≡ map leaf_settled port.leaves → known (record port { leaves = leaves }) ≡ at_rest (known port) 0
known_at_rest port leaves changed =
    rw changed (known_changed port leaf_settled refl) ∙ λ i. record (at_rest (known port) 0) { tokens = λ task. sym (same_put (λ (task : ℕ). 0) 0 task) i }

pub known_armed : (port : OneThread) (leaf : ℕ) (changed : PlainLeaf) → leaf < length port.leaves → changed ≡ leaf_armed (leaf_at port leaf) → known (record port { leaves = slice_set port.leaves leaf changed }) ≡ armed (known port) leaf
known_armed port leaf changed within is = rw is (let arm : PlainLeaf = leaf_armed (leaf_at port leaf) in
    λ i. record (known port) {
      is_own = λ k. nat_lt k (length-set port.leaves leaf arm i);
      source = λ k. (put_leaf (λ (leaf : PlainLeaf). leaf.source) port.leaves leaf arm k within ∙ same_put (known port).source leaf k) i;
      condition = λ k. put_leaf (λ (leaf : PlainLeaf). leaf.condition) port.leaves leaf arm k within i;
      arms = λ k. put_leaf (λ (leaf : PlainLeaf). leaf.arms) port.leaves leaf arm k within i;
    })

-- ---- fetches

known_seen : (port : OneThread) (source : ℕ) → known port ≡ seen_of (known port) source ((known port).seen source) ((known port).count source)
known_seen port source = λ i. record (known port) {
  seen = λ k. sym (same_put (known port).seen source k) i;
  count = λ k. sym (same_put (known port).count source k) i;
}

known_in_vain : (port : OneThread) (source : ℕ) → IsFetchInVain (known port) (known port) source
known_in_vain port source = record {
  state = known_seen port source;
  goes_on = record { front = take_all _ _ (omega arith); known = omega arith; closed = λ closed. refl };
}

pub known_refused : (port : OneThread) (leaf : ℕ) (error : FetchError) → error ≡ NoMemory → IsFetchRefusal (known port) (known port) leaf error
known_refused port leaf (Again word) is = cc
known_refused port leaf NoMemory is = known_in_vain port (leaf_at port leaf).source

pub known_fetched : (port : OneThread) (leaf : ℕ) (from : Option ℕ) (fetched : Fetched) → fetched.version ≡ version_of (source_at port (leaf_at port leaf).source) → fetched.entering ≡ entering_from (source_at port (leaf_at port leaf).source) from →
    IsFetch (known port) (known port) leaf from fetched
known_fetched port leaf from fetched version entering =
    let source : ℕ = (leaf_at port leaf).source in
    record {
      state = known_seen port source;
      goes_on = (known_in_vain port source).goes_on;
      count = ap (λ (version : Version). version.count) version;
      closed = ap (λ (version : Version). version.closed) version;
      entering = entering;
    }

-- ---- sound states

anywhere : {X : Type 0} (P : X → Type 0) (xs : List X) (k : ℕ) (default : X) → All P xs → P default → P (get_or xs k default)
anywhere P [] k default all past = past
anywhere P (x ∷ xs) zero default all past = all 0 default (omega arith)
anywhere P (x ∷ xs) (suc k) default all past = anywhere P xs k default (All-tail P x xs all) past

no_source_is : IsSource no_source
no_source_is = record {
  plan = record { in_order = tt; within_cap = omega arith; distinct = tt; room = omega arith };
  within_cap = omega arith;
  legal = tt;
  by_writers = refl;
  room = omega arith;
  allowances = λ caller. omega arith;
  leaves_last = no_leaves;
}

pub known_is_sound : (port : OneThread) → IsOneThread port → IsSoundPort (known port)
known_is_sound port is source =
    let here : IsSource (source_at port source) = anywhere IsSource port.sources source no_source is.sources no_source_is in
    record { of_plan = here.plan; legal = here.legal; known = omega arith; room = here.room; closed = λ closed. refl }

-- leaves that were changed, each of the source that it had
pub leaves_changed : (port : OneThread) (f : PlainLeaf → PlainLeaf) → ((leaf : PlainLeaf) → (f leaf).source ≡ leaf.source) → IsOneThread port → IsOneThread (record port { leaves = map f port.leaves })
leaves_changed port f same is =
    let IsWithin : PlainLeaf → Type 0 = λ leaf. leaf.source < length port.sources in
    record {
      sources = is.sources;
      leaves = All-map IsWithin f port.leaves (All-weaker IsWithin (λ leaf. IsWithin (f leaf)) (λ leaf within. rw (same leaf) within) port.leaves is.leaves);
    }

pub leaves_checked : (port : OneThread) (source : ℕ) (version : Version) (leaves : List PlainLeaf) → leaves ≡ map (leaf_checked source version) port.leaves → IsOneThread port → IsOneThread (record port { leaves = leaves })
leaves_checked port source version leaves changed is = rw changed (leaves_changed port (leaf_checked source version) (λ leaf. refl) is)

pub source_changed : (port : OneThread) (source : ℕ) (next : Source) → IsSource next → IsOneThread port → IsOneThread (record port { sources = slice_set port.sources source next })
source_changed port source next is_source is = record {
  sources = All-set IsSource port.sources source next is_source is.sources;
  leaves = rw (length-set port.sources source next) is.leaves;
}

pub started : (plans : List SourcePlan) (numbers : List ℕ) (sources : List Source) (leaves : List PlainLeaf) → All IsPlan plans → All (λ source. source < length plans) numbers →
    sources ≡ map source_of plans → leaves ≡ map leaf_of numbers → IsOneThread (record { sources = sources; leaves = leaves })
started plans numbers sources leaves are_plans within sources_are leaves_are = rw (sources_are, leaves_are) (record {
  sources = All-map IsSource source_of plans (All-weaker IsPlan (λ plan. IsSource (source_of plan)) (λ plan is. (kept_start plan (room_of plan.allow) is (omega arith)).of_source) plans are_plans);
  leaves = rw (length-map plans source_of) (All-map (λ (leaf : PlainLeaf). leaf.source < length plans) leaf_of numbers within);
})
