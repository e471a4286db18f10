-- The leaves, the pollers and the jobs of views, one view after another.
use Rattle.std.proofs.Common.{◌≡◌, ◌∙◌, ℕ, zero, suc, ◌+◌, ◌-◌, ◌%◌, ◌^◌, ◌<◌, ◌≤◌, ◌==◌, List, [], ◌∷◌, ◌++◌, length, map, take, drop, get_or, slice_get, cond, Bool, true, false, Some, All, refl, sym, ap, subst, append_assoc, add-one, arith}
use Rattle.std.proofs.lemmas.List.{append-nil, drop_all, length-append, length-map, map-append}
use Rattle.std.proofs.lemmas.List.Elements.{All-nil, All-push}
use Rattle.sig_expr.specs.Leaves.{leaves}
use Rattle.sig_expr.specs.Shapes.{view_tree}
use Rattle.sig_expr.specs.declared.expressions.View.{View}
use Rattle.sig_flag.specs.declared.shape.LeafPlan.{LeafPlan}
use Rattle.sig_exec.specs.Jobs.{work_of, works_of}
use Rattle.sig_exec.specs.Views.{AreJobsOf, IsJobOf, IsViewJob, leaf_of, leaves_before, leaves_from, numbers_from, pollers_from}
use Rattle.sig_exec.specs.declared.jobs.Job.{Job}
use Rattle.sig_exec.specs.declared.jobs.Work.{Work}

abbrev pub of_view : View → List ℕ
of_view view = leaves (view_tree view)

-- one view more
leaves_more : (task number : ℕ) (views : List View) (view : View) → slice_get views number ≡ Some view → length (leaves_from task (take (suc number) views)) ≡ length (leaves_from task (take number views)) + length (of_view view)
leaves_more task number [] view at = cc
leaves_more task zero (first ∷ views) view at =
    let same : first ≡ view = search Rattle.std.proofs.Common.rules in
    omega (arith, ap (λ (shown : View). length (of_view shown)) same, length-append (map (leaf_of task) (of_view first)) [], length-map (of_view first) (leaf_of task))
leaves_more task (suc number) (first ∷ views) view at =
    let mine : List LeafPlan = map (leaf_of task) (of_view first) in
    omega (arith, leaves_more (suc task) number views view at, length-append mine (leaves_from (suc task) (take (suc number) views)), length-append mine (leaves_from (suc task) (take number views)))

leaves_inside : (task number : ℕ) (views : List View) → length (leaves_from task (take number views)) ≤ length (leaves_from task views)
leaves_inside task zero views = omega arith
leaves_inside task (suc number) [] = omega arith
leaves_inside task (suc number) (first ∷ views) =
    let mine : List LeafPlan = map (leaf_of task) (of_view first) in
    omega (arith, leaves_inside (suc task) number views, length-append mine (leaves_from (suc task) (take number views)), length-append mine (leaves_from (suc task) views))

drop_next : {X : Type 0} (xs : List X) (index : ℕ) (x : X) → slice_get xs index ≡ Some x → drop index xs ≡ x ∷ drop (suc index) xs
drop_next [] index x at = cc
drop_next (y ∷ xs) zero x at = search Rattle.std.proofs.Common.rules
drop_next (y ∷ xs) (suc index) x at = drop_next xs index x at

drop_there : {X : Type 0} (xs : List X) (index : ℕ) (x : X) → slice_get xs index ≡ Some x → drop index xs ≡ x ∷ drop (index + 1) xs
drop_there xs index x at = drop_next xs index x at ∙ ap (λ (next : ℕ). x ∷ drop next xs) (sym (add-one index))

-- the leaves of the views before a place, and those from there on, are those of all
pub leaves_left : (views : List View) (index : ℕ) (view : View) (plans : List LeafPlan) → slice_get views index ≡ Some view → plans ++ leaves_from index (drop index views) ≡ leaves_from 0 views →
    (plans ++ map (leaf_of index) (of_view view)) ++ leaves_from (index + 1) (drop (index + 1) views) ≡ leaves_from 0 views
leaves_left views index view plans at left =
    append_assoc plans (map (leaf_of index) (of_view view)) (leaves_from (index + 1) (drop (index + 1) views))
    ∙ ap (λ (next : ℕ). plans ++ (map (leaf_of index) (of_view view) ++ leaves_from next (drop (index + 1) views))) (add-one index)
    ∙ ap (λ (rest : List View). plans ++ leaves_from index rest) (sym (drop_there views index view at)) ∙ left

-- and so are the pollers of the tasks
pub pollers_left : (pollers task tasks : ℕ) (numbers all : List ℕ) → task < tasks → numbers ++ pollers_from pollers task (tasks - task) ≡ all → (numbers ++ task % pollers ∷ []) ++ pollers_from pollers (task + 1) (tasks - (task + 1)) ≡ all
pollers_left pollers task tasks numbers all within left =
    append_assoc numbers (task % pollers ∷ []) (pollers_from pollers (task + 1) (tasks - (task + 1)))
    ∙ ap (λ (next : ℕ). numbers ++ task % pollers ∷ pollers_from pollers next (tasks - (task + 1))) (add-one task)
    ∙ ap (λ (count : ℕ). numbers ++ pollers_from pollers task count) (let more : suc (tasks - (task + 1)) ≡ tasks - task = omega (arith, within) in more) ∙ left

-- ---- jobs

abbrev number_of : Work → ℕ
number_of work = work.number

-- the jobs of the views before a place
pub record AreListed (views : List View) (caps : List ℕ) (pollers poller index first : ℕ) (jobs : List (ℕ × Job)) : Type 0 where
  pub numbers : map number_of (works_of jobs) ++ numbers_from pollers poller index (drop index views) ≡ numbers_from pollers poller 0 views
  pub each : All (IsJobOf views caps) (works_of jobs)
  pub first_is : first ≡ leaves_before views index
  pub few : length jobs ≤ index

pub none_listed : (views : List View) (caps : List ℕ) (pollers poller : ℕ) → AreListed views caps pollers poller 0 0 []
none_listed views caps pollers poller = record { numbers = refl; each = All-nil (IsJobOf views caps); first_is = refl; few = omega arith }

pub all_listed : (views : List View) (caps : List ℕ) (pollers poller first : ℕ) (jobs : List (ℕ × Job)) → AreListed views caps pollers poller (length views) first jobs → AreJobsOf views caps pollers poller (works_of jobs)
all_listed views caps pollers poller first jobs are = record {
  numbers = sym (append-nil (map number_of (works_of jobs))) ∙ ap (λ (rest : List View). map number_of (works_of jobs) ++ numbers_from pollers poller (length views) rest) (sym (drop_all (length views) views (omega arith))) ∙ are.numbers;
  each = are.each;
}

module _ (views : List View) (caps : List ℕ) (pollers poller index first : ℕ) (jobs : List (ℕ × Job)) (view : View) (at : slice_get views index ≡ Some view) (are : AreListed views caps pollers poller index first jobs) where
  abbrev rest : List View
  rest = drop (index + 1) views

  numbers_at : map number_of (works_of jobs) ++ numbers_from pollers poller index (view ∷ rest) ≡ numbers_from pollers poller 0 views
  numbers_at = ap (λ (left : List View). map number_of (works_of jobs) ++ numbers_from pollers poller index left) (sym (drop_there views index view at)) ∙ are.numbers

  next_first : first + length (of_view view) ≡ leaves_before views (index + 1)
  next_first = omega (arith, are.first_is, leaves_more 0 index views view at, ap (leaves_before views) (add-one index))

  pub first_fits : length (leaves_from 0 views) < 2 ^ 64 → first + length (of_view view) < 2 ^ 64
  first_fits few = omega (arith, few, next_first, leaves_inside 0 (index + 1) views)

  pub not_mine : (index % pollers == poller) ≡ false → AreListed views caps pollers poller (index + 1) (first + length (of_view view)) jobs
  not_mine other = record {
    numbers = ap (λ (next : ℕ). map number_of (works_of jobs) ++ numbers_from pollers poller next rest) (add-one index)
        ∙ sym (ap (λ (mine : Bool). map number_of (works_of jobs) ++ cond mine (index ∷ numbers_from pollers poller (suc index) rest) (numbers_from pollers poller (suc index) rest)) other) ∙ numbers_at;
    each = are.each;
    first_is = next_first;
    few = omega (arith, are.few);
  }

  module _ (job : Job) (is : IsViewJob view caps index first (work_of index job)) where
    works_more : works_of (jobs ++ (index, job) ∷ []) ≡ works_of jobs ++ work_of index job ∷ []
    works_more = map-append (λ (each : ℕ × Job). work_of each.0 each.1) jobs ((index, job) ∷ [])

    is_job : IsJobOf views caps (work_of index job)
    is_job = record {
      view = view;
      at = ap (slice_get views) is.of_number ∙ at;
      is_new = record {
        of_task = is.of_task ∙ sym is.of_number;
        of_number = refl;
        unpolled = rw (is.of_number, ← are.first_is) is.unpolled;
        lives = is.lives;
      };
    }

    pub is_mine : (index % pollers == poller) ≡ true → AreListed views caps pollers poller (index + 1) (first + length (of_view view)) (jobs ++ (index, job) ∷ [])
    is_mine mine = record {
      numbers =
          let before : List ℕ = map number_of (works_of jobs) in
          ap (λ (works : List Work). map number_of works ++ numbers_from pollers poller (index + 1) rest) works_more
          ∙ ap (λ (numbers : List ℕ). numbers ++ numbers_from pollers poller (index + 1) rest) (map-append number_of (works_of jobs) (work_of index job ∷ []))
          ∙ append_assoc before (number_of (work_of index job) ∷ []) (numbers_from pollers poller (index + 1) rest)
          ∙ ap (λ (number : ℕ). before ++ number ∷ numbers_from pollers poller (index + 1) rest) is.of_number
          ∙ ap (λ (next : ℕ). before ++ index ∷ numbers_from pollers poller next rest) (add-one index)
          ∙ sym (ap (λ (own : Bool). before ++ cond own (index ∷ numbers_from pollers poller (suc index) rest) (numbers_from pollers poller (suc index) rest)) mine) ∙ numbers_at;
      each = subst (All (IsJobOf views caps)) (sym works_more) (All-push (IsJobOf views caps) (works_of jobs) (work_of index job) are.each is_job);
      first_is = next_first;
      few = omega (arith, are.few, length-append jobs ((index, job) ∷ []));
    }
