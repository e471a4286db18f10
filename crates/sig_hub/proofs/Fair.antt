-- How the plans of sources are looked through.
use Rattle.std.proofs.Common.{◌≡◌, ◌∙◌, ℕ, ◌+◌, ◌-◌, ◌^◌, ◌<◌, ◌==◌, List, ◌∷◌, length, take, drop, get_or, Bool, true, false, IsTrue, ◌↔◌, All, sym, ap, subst, drop-cons, add-one, length-drop, arith}
use Rattle.std.proofs.lemmas.List.{take_all, length-map, get_or-map}
use Rattle.std.proofs.lemmas.List.Elements.{All-map}
use Rattle.std.specs.List.{list_any}
use Rattle.sig_hist.specs.Sources.{AreDistinct, IsPlan, is_among, room_of, writers_of}
use Rattle.sig_hist.specs.declared.plans.Allowance.{Allowance}
use Rattle.sig_hist.specs.declared.plans.SourcePlan.{SourcePlan}
use Rattle.sig_hub.proofs.Started.{any_writer}
use Rattle.sig_hub.specs.Plans.{IsSourceBy}

-- what some writers and the others may make
pub record IsAdding (allow : List Allowance) (place room : ℕ) : Type 0 where
  pub total : room + room_of (drop place allow) ≡ room_of allow
  pub few : room < 2 ^ 32

-- those before a place differ from all others
pub record AreDistinctBefore (allow : List Allowance) (place : ℕ) : Type 0 where
  pub where_others_are : AreDistinct (writers_of (drop place allow)) → AreDistinct (writers_of allow)
  pub others_are : AreDistinct (writers_of allow) → AreDistinct (writers_of (drop place allow))

front_of : (allow : List Allowance) (place : ℕ) (default : Allowance) → place < length allow → drop place allow ≡ get_or allow place default ∷ drop (place + 1) allow
front_of allow place default within = drop-cons allow place default within ∙ ap (λ (n : ℕ). get_or allow place default ∷ drop n allow) (sym (add-one place))

-- the others, as the code takes them
others : (allow : List Allowance) (place : ℕ) → take (length allow - (place + 1)) (drop (place + 1) allow) ≡ drop (place + 1) allow
others allow place = take_all (length allow - (place + 1)) (drop (place + 1) allow) (omega (arith, length-drop (place + 1) allow))

module _ (allow : List Allowance) (place : ℕ) (default : Allowance) (before : AreDistinctBefore allow place) (within : place < length allow) (answer : Bool)
    (is : answer ≡ list_any (λ (other : Allowance). other.writer == (get_or allow place default).writer) (take (length allow - (place + 1)) (drop (place + 1) allow))) where
  among_others : answer ≡ is_among (get_or allow place default).writer (writers_of (drop (place + 1) allow))
  among_others =
      is ∙ ap (list_any (λ (other : Allowance). other.writer == (get_or allow place default).writer)) (others allow place) ∙ any_writer (get_or allow place default).writer (drop (place + 1) allow)

  pub distinct_more : answer ≡ false → AreDistinctBefore allow (place + 1)
  distinct_more lacks =
      let here = front_of allow place default within in
      record {
        where_others_are = λ distinct. before.where_others_are (subst (λ (a : List Allowance). AreDistinct (writers_of a)) (sym here) (sym among_others ∙ lacks, distinct));
        others_are = λ all. (subst (λ (a : List Allowance). AreDistinct (writers_of a)) here (before.others_are all)).1;
      }

  pub not_distinct : answer ≡ true → AreDistinct (writers_of allow) → ⊥
  not_distinct has all =
      let lacks : is_among (get_or allow place default).writer (writers_of (drop (place + 1) allow)) ≡ false =
      (subst (λ (a : List Allowance). AreDistinct (writers_of a)) (front_of allow place default within) (before.others_are all)).0 in
      let has_it : is_among (get_or allow place default).writer (writers_of (drop (place + 1) allow)) ≡ true = sym among_others ∙ has in
      cc

-- ---- writers' numbers

by_writers : (writers : ℕ) (allow : List Allowance) → All (λ allowance. allowance.writer < writers) allow → All (λ writer. writer < writers) (writers_of allow)
by_writers writers allow by = All-map (λ writer. writer < writers) (λ (allowance : Allowance). allowance.writer) allow by

by_allowances : (writers : ℕ) (allow : List Allowance) → All (λ writer. writer < writers) (writers_of allow) → All (λ allowance. allowance.writer < writers) allow
by_allowances writers allow by =
    let writer_of : Allowance → ℕ = λ allowance. allowance.writer in
    λ k d within. subst (λ n. n < writers) (get_or-map writer_of allow k d (writer_of d) within) (by k (writer_of d) (rw length-map within))

pub source_by : (writers : ℕ) (plan : SourcePlan) (allow : List Allowance) (by : Bool) → allow ≡ plan.allow → IsPlan plan → (IsTrue by ↔ All (λ allowance. allowance.writer < writers) allow) → (IsTrue by ↔ IsSourceBy writers plan)
source_by writers plan allow by is sound tests = (
  (λ passes. record { of_plan = sound; by = by_writers writers plan.allow (subst (All (λ allowance. allowance.writer < writers)) is (tests.0 passes)) }),
  (λ all. tests.1 (subst (All (λ allowance. allowance.writer < writers)) (sym is) (by_allowances writers plan.allow all.by))),
)
