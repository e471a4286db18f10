-- The jobs of a poller at the start of a hub for views.
use Rattle.std.proofs.Common.{◌≡◌, ◌≢◌, ◌∙◌, ℕ, zero, suc, ◌+◌, ◌-◌, ◌%◌, ◌^◌, ◌<◌, ◌≤◌, ◌==◌, min, List, [], ◌∷◌, ◌++◌, length, map, take, get_or, slice_get, slice_index, nat_lt, Bool, true, false, cond, Option, None, Some, All, refl, sym, ap, subst, eq-eqb, arith}
use Rattle.std.proofs.lemmas.Bool.Decides.{nat_tests}
use Rattle.std.proofs.lemmas.List.{get_or-map, get_or-append-add, get_or_append_left, length-append, length-map}
use Rattle.std.proofs.lemmas.Option.{get_or_from_slice_get, slice_get_within}
use Rattle.sig_expr.specs.Bounds.{cap_of}
use Rattle.sig_expr.specs.Leaves.{leaves, map_leaves, sig_leaves, vec_leaves, sigs_leaves, vecs_leaves}
use Rattle.sig_expr.specs.Shapes.{view_tree}
use Rattle.sig_expr.specs.Trees.{MapTree, map_source, mapped_values, SigTree, cell, mapped_signal, deduped, switched, length_of, total_of, at_key, VecTree, vector, mapped, filtered, filtered_by, mapped_by, sorted, joined, flattened, picked, keys_in, values_in, ViewTree, signal_view, vector_view, map_view, entries_view, tagged_view}
use Rattle.sig_expr.specs.declared.expressions.View.{View}
use Rattle.sig_flag.specs.Accounts.{no_hold, no_plan, opening_knowledge, plan_at}
use Rattle.sig_flag.specs.Layouts.{IsLeafOf, Layout, leaf_at, no_leaf}
use Rattle.sig_flag.specs.declared.shape.LeafPlan.{LeafPlan}
use Rattle.sig_hist.specs.Ports.{IsSoundPort, PortState}
use Rattle.sig_hist.specs.declared.plans.SourcePlan.{SourcePlan}
use Rattle.sig_hub.specs.Hubs.{AreNew, HubState, IsMade, new_pass}
use Rattle.sig_hub.specs.Plans.{IsSound}
use Rattle.sig_hub.specs.declared.hub.Passes.{Passes}
use Rattle.sig_hub.specs.declared.plans.HubPlan.{HubPlan}
use Rattle.sig_hub.specs.Passes.{Pass, HasTold}
use Rattle.sig_hub.specs.Polls.{polls, port_of}
use Rattle.sig_view.proofs.WatchedRows.{unpolled_watching}
use Rattle.sig_view.specs.Tasks.{CanPoll, first_of}
use Rattle.sig_exec.proofs.Planned.{of_view}
use Rattle.sig_exec.specs.Jobs.{AreJobs, IsIn, IsJob, task_of}
use Rattle.sig_exec.specs.Views.{AreJobsOf, IsJobOf, IsPollerFor, IsWatch, StartsFor, caps_of, leaf_of, leaves_before, leaves_from, numbers_from, plan_for, pollers_from}
use Rattle.sig_exec.specs.declared.jobs.Phase.{Phase}
use Rattle.sig_exec.specs.declared.jobs.Work.{Work}
use Rattle.sig_exec.specs.declared.watch.Watch.{Watch}

-- ---- every view has a leaf

module _ {L : Type 0} where
  front_some : (xs ys : List L) → 0 < length xs → 0 < length (xs ++ ys)
  front_some xs ys some = omega (arith, some, length-append xs ys)

  some_map_leaf : (m : MapTree L) → 0 < length (map_leaves m)
  some_map_leaf (map_source l) = omega arith
  some_map_leaf (mapped_values f m) = some_map_leaf m

  mutual
    some_sig_leaf : (e : SigTree L) → 0 < length (sig_leaves e)
    some_sig_leaf (cell l) = omega arith
    some_sig_leaf (mapped_signal f e) = some_sig_leaf e
    some_sig_leaf (deduped e) = some_sig_leaf e
    some_sig_leaf (switched e bank) = front_some (sig_leaves e) (sigs_leaves bank) (some_sig_leaf e)
    some_sig_leaf (length_of e) = some_vec_leaf e
    some_sig_leaf (total_of e) = some_vec_leaf e
    some_sig_leaf (at_key key default m) = some_map_leaf m

    some_vec_leaf : (e : VecTree L) → 0 < length (vec_leaves e)
    some_vec_leaf (vector l) = omega arith
    some_vec_leaf (mapped f e) = some_vec_leaf e
    some_vec_leaf (filtered p e) = some_vec_leaf e
    some_vec_leaf (filtered_by e bank) = front_some (vec_leaves e) (sigs_leaves bank) (some_vec_leaf e)
    some_vec_leaf (mapped_by e bank) = front_some (vec_leaves e) (sigs_leaves bank) (some_vec_leaf e)
    some_vec_leaf (sorted f e) = some_vec_leaf e
    some_vec_leaf (joined a b) = front_some (vec_leaves a) (vec_leaves b) (some_vec_leaf a)
    some_vec_leaf (flattened e bank) = front_some (vec_leaves e) (vecs_leaves bank) (some_vec_leaf e)
    some_vec_leaf (picked e bank) = front_some (sig_leaves e) (vecs_leaves bank) (some_sig_leaf e)
    some_vec_leaf (keys_in m) = some_map_leaf m
    some_vec_leaf (values_in m) = some_map_leaf m

  some_leaf : (view : ViewTree L) → 0 < length (leaves view)
  some_leaf (signal_view e) = some_sig_leaf e
  some_leaf (vector_view e) = some_vec_leaf e
  some_leaf (map_view m) = some_map_leaf m
  some_leaf (entries_view m) = some_map_leaf m
  some_leaf (tagged_view e) = some_vec_leaf e

-- ---- leaves and pollers by the number of a view

module _ where
  leaf_there : (task number leaf : ℕ) (views : List View) (view : View) → slice_get views number ≡ Some view → leaf < length (of_view view) →
      leaf_at (leaves_from task views) (length (leaves_from task (take number views)) + leaf) ≡ leaf_of (task + number) (slice_index (of_view view) leaf)
  leaf_there task number leaf [] view at within = cc
  leaf_there task zero leaf (first ∷ views) view at within =
      let same : first ≡ view = search Rattle.std.proofs.Common.rules in
      let here : leaf < length (of_view first) = rw same within in
      let at_leaf : 0 + leaf ≡ leaf = omega arith in
      ap (leaf_at (map (leaf_of task) (of_view first) ++ leaves_from (suc task) views)) at_leaf
      ∙ get_or_append_left (map (leaf_of task) (of_view first)) (leaves_from (suc task) views) no_leaf leaf (omega (arith, here, length-map (of_view first) (leaf_of task)))
      ∙ get_or-map (leaf_of task) (of_view first) leaf 0 no_leaf here ∙ ap (λ (shown : View). leaf_of task (slice_index (of_view shown) leaf)) same ∙ ap (λ (t : ℕ). leaf_of t (slice_index (of_view view) leaf)) (omega arith)
  leaf_there task (suc number) leaf (first ∷ views) view at within =
      let mine : List LeafPlan = map (leaf_of task) (of_view first) in
      let before : List LeafPlan = leaves_from (suc task) (take number views) in
      let moved : length (mine ++ before) + leaf ≡ length mine + (length before + leaf) = omega (arith, length-append mine before) in
      ap (leaf_at (mine ++ leaves_from (suc task) views)) moved ∙ get_or-append-add mine (leaves_from (suc task) views) (length before + leaf) no_leaf
      ∙ leaf_there (suc task) number leaf views view at within ∙ ap (λ (t : ℕ). leaf_of t (slice_index (of_view view) leaf)) (omega arith)

  leaf_inside : (task number leaf : ℕ) (views : List View) (view : View) → slice_get views number ≡ Some view → leaf < length (of_view view) →
      length (leaves_from task (take number views)) + leaf < length (leaves_from task views)
  leaf_inside task number leaf [] view at within = cc
  leaf_inside task zero leaf (first ∷ views) view at within =
      let same : first ≡ view = search Rattle.std.proofs.Common.rules in
      let here : leaf < length (of_view first) = rw same within in
      let all : leaves_from task (first ∷ views) ≡ map (leaf_of task) (of_view first) ++ leaves_from (suc task) views = refl in
      omega (arith, here, ap length all, length-map (of_view first) (leaf_of task), length-append (map (leaf_of task) (of_view first)) (leaves_from (suc task) views))
  leaf_inside task (suc number) leaf (first ∷ views) view at within =
      let mine : List LeafPlan = map (leaf_of task) (of_view first) in
      omega (arith, leaf_inside (suc task) number leaf views view at within, length-append mine (leaves_from (suc task) (take number views)), length-append mine (leaves_from (suc task) views))

  poller_there : (pollers task number count : ℕ) → number < count → slice_index (pollers_from pollers task count) number ≡ (task + number) % pollers
  poller_there pollers task number zero within = absurd (omega (arith, within))
  poller_there pollers task zero (suc count) within = ap (λ (t : ℕ). t % pollers) (omega arith)
  poller_there pollers task (suc number) (suc count) within = poller_there pollers (suc task) number count (omega (arith, within)) ∙ ap (λ (t : ℕ). t % pollers) (omega arith)

  as_many_pollers : (pollers task count : ℕ) → length (pollers_from pollers task count) ≡ count
  as_many_pollers pollers task zero = refl
  as_many_pollers pollers task (suc count) = ap suc (as_many_pollers pollers (suc task) count)

  -- ---- a poller's numbers rise, and are its own

  mine_by : (pollers poller number k d : ℕ) (is_mine : Bool) (views : List View) → (number % pollers == poller) ≡ is_mine →
      ((k : ℕ) → k < length (numbers_from pollers poller (suc number) views) → (get_or (numbers_from pollers poller (suc number) views) k d % pollers ≡ poller) × (suc number ≤ get_or (numbers_from pollers poller (suc number) views) k d)) →
      k < length (cond is_mine (number ∷ numbers_from pollers poller (suc number) views) (numbers_from pollers poller (suc number) views)) →
      (get_or (cond is_mine (number ∷ numbers_from pollers poller (suc number) views) (numbers_from pollers poller (suc number) views)) k d % pollers ≡ poller)
      × (number ≤ get_or (cond is_mine (number ∷ numbers_from pollers poller (suc number) views) (numbers_from pollers poller (suc number) views)) k d)
  mine_by pollers poller number zero d true views is rest within = (grind (arith, nat_tests), omega arith)
  mine_by pollers poller number (suc k) d true views is rest within = let later = rest k (omega (arith, within)) in (later.0, omega (arith, later.1))
  mine_by pollers poller number k d false views is rest within = let later = rest k within in (later.0, omega (arith, later.1))

  number_mine : (pollers poller number k d : ℕ) (views : List View) → k < length (numbers_from pollers poller number views) →
      (get_or (numbers_from pollers poller number views) k d % pollers ≡ poller) × (number ≤ get_or (numbers_from pollers poller number views) k d)
  number_mine pollers poller number k d [] within = absurd (omega (arith, within))
  number_mine pollers poller number k d (view ∷ views) within =
      mine_by pollers poller number k d (number % pollers == poller) views refl (λ k within. number_mine pollers poller (suc number) k d views within) within

  abbrev Apart : List ℕ → Type 0
  Apart numbers = (one other : ℕ) → one < length numbers → other < length numbers → slice_index numbers one ≡ slice_index numbers other → one ≡ other

  apart_by : (pollers poller number : ℕ) (is_mine : Bool) (views : List View) → Apart (numbers_from pollers poller (suc number) views) → Apart (cond is_mine (number ∷ numbers_from pollers poller (suc number) views) (numbers_from pollers poller (suc number) views))
  apart_by pollers poller number true views rest zero zero one other same = refl
  apart_by pollers poller number true views rest zero (suc k) one other same = absurd (omega (arith, (number_mine pollers poller (suc number) k 0 views (omega (arith, other))).1, same))
  apart_by pollers poller number true views rest (suc k) zero one other same = absurd (omega (arith, (number_mine pollers poller (suc number) k 0 views (omega (arith, one))).1, same))
  apart_by pollers poller number true views rest (suc j) (suc k) one other same = ap suc (rest j k (omega (arith, one)) (omega (arith, other)) same)
  apart_by pollers poller number false views rest one other in_one in_other same = rest one other in_one in_other same

  numbers_apart : (pollers poller number : ℕ) (views : List View) → Apart (numbers_from pollers poller number views)
  numbers_apart pollers poller number [] one other within there same = absurd (omega (arith, within))
  numbers_apart pollers poller number (view ∷ views) one other within there same = apart_by pollers poller number (number % pollers == poller) views (numbers_apart pollers poller (suc number) views) one other within there same

-- ---- at the start

module _ (views : List View) (caps : List ℕ) (pollers poller : ℕ) (sources : List SourcePlan) (writers : ℕ) (hub : HubState) (pass : Pass) (few : length (leaves_from 0 views) < 2 ^ 64) (caps_are : caps ≡ map (λ (plan : SourcePlan). plan.cap) sources)
    (is_for : IsPollerFor sources writers pollers poller views hub pass) where
  abbrev layout : Layout
  layout = hub.machine.layout

  abbrev port : PortState
  port = port_of pass

  leaves_are : layout.leaves ≡ leaves_from 0 views
  leaves_are = is_for.made.of_leaves

  pass_is : pass ≡ new_pass hub (writers + poller)
  pass_is = is_for.made.pollers.each poller pass is_for.at

  hub_is : pass.hub ≡ hub.machine
  hub_is = ap (λ (p : Pass). p.hub) pass_is

  number_is : pass.account.number ≡ writers + poller
  number_is = ap (λ (p : Pass). p.account.number) pass_is

  sound : IsSoundPort port
  sound =
      let within = slice_get_within is_for.passes.pollers poller pass is_for.at in
      subst (λ (p : Pass). IsSoundPort (port_of p)) (get_or_from_slice_get is_for.passes.pollers poller pass pass is_for.at) (is_for.made.sound poller pass within)

  told : HasTold pass
  told = rw pass_is (record { no_ring = refl; no_tell = refl })

  plan_in_pass : (source : ℕ) → source < length sources → port.plan source ≡ plan_at sources source
  plan_in_pass source within =
      ap (λ (p : Pass). (port_of p).plan source) pass_is
      ∙ ap (λ (all : List SourcePlan). (get_or (map opening_knowledge all) source (opening_knowledge no_plan)).plan) is_for.made.of_sources
      ∙ ap (λ k. k.plan) (get_or-map opening_knowledge sources source no_plan (opening_knowledge no_plan) within)

  cap_is : (source : ℕ) → source < length sources → (port.plan source).cap ≡ cap_of caps source
  cap_is source within =
      ap (λ (p : SourcePlan). p.cap) (plan_in_pass source within)
      ∙ sym (ap (λ (all : List ℕ). get_or all source 0) caps_are ∙ get_or-map (λ (p : SourcePlan). p.cap) sources source no_plan 0 within)

  module _ (number : ℕ) (view : View) (at : slice_get views number ≡ Some view) (mine : number % pollers ≡ poller) where
    abbrev first : ℕ
    first = leaves_before views number

    leaf_is : (leaf : ℕ) → leaf < length (of_view view) → leaf_at pass.hub.layout.leaves (first + leaf) ≡ leaf_of number (slice_index (of_view view) leaf)
    leaf_is leaf within = rw (hub_is, leaves_are) (leaf_there 0 number leaf views view at within ∙ ap (λ (t : ℕ). leaf_of t (slice_index (of_view view) leaf)) (let same : 0 + number ≡ number = omega arith in same))

    leaf_within : (leaf : ℕ) → leaf < length (of_view view) → first + leaf < length (leaves_from 0 views)
    leaf_within leaf within = leaf_inside 0 number leaf views view at within

    its_task : (leaf : ℕ) → leaf < length (of_view view) → port.task (first + leaf) ≡ number
    its_task leaf within = ap (λ (plan : LeafPlan). plan.task) (leaf_is leaf within)

    its_poller : slice_index layout.pollers number ≡ writers + poller
    its_poller =
        let inside : number < length views = slice_get_within views number view at in
        ap (λ (all : List ℕ). slice_index all number) is_for.made.of_tasks
        ∙ get_or-map (λ (k : ℕ). writers + k) (pollers_from pollers 0 (length views)) number 0 0 (omega (arith, inside, as_many_pollers pollers 0 (length views)))
        ∙ ap (λ (k : ℕ). writers + k) (poller_there pollers 0 number (length views) inside ∙ ap (λ (t : ℕ). t % pollers) (let same : 0 + number ≡ number = omega arith in same) ∙ mine)

    own : (leaf : ℕ) → leaf < length (of_view view) → polls pass (first + leaf) ≡ true
    own leaf within =
        let inside : nat_lt (first + leaf) (length layout.leaves) ≡ true = let there = leaf_within leaf within in rw leaves_are (grind (arith, nat_tests)) in
        let by : (slice_index layout.pollers number == writers + poller) ≡ true = eq-eqb _ _ its_poller in
        rw (number_is, its_task leaf within, hub_is, inside) by

    source_is : (leaf : ℕ) → leaf < length (of_view view) → (port.source (first + leaf) ≡ slice_index (of_view view) leaf) × (slice_index (of_view view) leaf < length sources)
    source_is leaf within =
        let one : IsLeafOf (length sources) (length (pollers_from pollers 0 (length views))) (leaf_at (leaves_from 0 views) (first + leaf)) = is_for.sound.leaves (first + leaf) no_leaf (leaf_within leaf within) in
        let few_sources : length sources < 2 ^ 32 = is_for.sound.counts.few_sources in
        let near : min (slice_index (of_view view) leaf) (2 ^ 32 - 1) < length sources = subst (λ (plan : LeafPlan). plan.source < length sources) (leaf_there 0 number leaf views view at within) one.of_source in
        (ap (λ (plan : LeafPlan). plan.source) (leaf_is leaf within) ∙ omega (arith, near, few_sources), omega (arith, near, few_sources))

    can_poll : CanPoll port view caps first
    can_poll = record {
      sound = sound;
      numbers = omega (arith, few, some_leaf (view_tree view), leaf_within (length (of_view view) - 1) (omega (arith, some_leaf (view_tree view))));
      own = own;
      one_task = λ leaf within. its_task leaf within ∙ sym (ap port.task (omega arith) ∙ its_task 0 (some_leaf (view_tree view)));
      within_caps = λ leaf within. let there = source_is leaf within in rw there.0 (omega (arith, cap_is (slice_index (of_view view) leaf) there.1));
    }

  as_many : length layout.pollers ≡ length views
  as_many = ap length is_for.made.of_tasks ∙ length-map (pollers_from pollers 0 (length views)) (λ (k : ℕ). writers + k) ∙ as_many_pollers pollers 0 (length views)

  no_token : (task : ℕ) → task < length layout.pollers → port.tokens task ≡ 0
  no_token task within = ap (λ (p : Pass). (port_of p).tokens task) pass_is ∙ ap (λ h. h.tokens) (get_or-map (λ (k : ℕ). no_hold) layout.pollers task 0 no_hold within)

  starts : (work : Work) → work.number % pollers ≡ poller → IsJobOf views caps work → IsJob hub pass work
  starts work mine job =
      let number : ℕ = work.number in
      let some : 0 < length (of_view job.view) = some_leaf (view_tree job.view) in
      let within : work.task < length layout.pollers = omega (arith, slice_get_within views number job.view job.at, as_many, job.is_new.of_task) in
      let first_is : first_of work.view.task ≡ leaves_before views number + 0 = omega (arith, job.is_new.unpolled.is_new.first_leaf) in
      let ready = job.is_new.unpolled.is_new.ready port (can_poll number job.view job.at mine) in
      record {
        of_task = record { within = within; poller = number_is ∙ sym (its_poller number job.view job.at mine) ∙ ap (slice_index layout.pollers) (sym job.is_new.of_task) };
        first = ap port.task first_is ∙ its_task number job.view job.at mine 0 some ∙ sym job.is_new.of_task;
        is_in = subst (λ (phase : Phase). IsIn hub port work.task work.view phase) (sym job.is_new.lives) (unpolled_watching port job.view caps (leaves_before views number) work.view job.is_new.unpolled ready, job.is_new.unpolled.is_new.goes_on, no_token work.task within);
      }

  same_numbers : (works : List Work) → All (IsJobOf views caps) works → map task_of works ≡ map (λ (work : Work). work.number) works
  same_numbers [] are = refl
  same_numbers (work ∷ works) are =
      let first : IsJobOf views caps work = are 0 work (omega arith) in
      ap (λ (task : ℕ). task ∷ map task_of works) first.is_new.of_task ∙ ap (λ (tasks : List ℕ). work.number ∷ tasks) (same_numbers works (λ k d within. are (suc k) d (omega (arith, within))))

  pub jobs_start : (works : List Work) → AreJobsOf views caps pollers poller works → AreJobs hub pass works
  jobs_start works are =
      let tasks_are : map task_of works ≡ numbers_from pollers poller 0 views = same_numbers works are.each ∙ are.numbers in
      record {
        of = hub_is;
        told = told;
        sound = sound;
        each = λ k d within.
            let work : Work = get_or works k d in
            let number_at : work.number ≡ get_or (numbers_from pollers poller 0 views) k 0 = sym (get_or-map (λ (work : Work). work.number) works k d 0 within) ∙ ap (λ (all : List ℕ). get_or all k 0) are.numbers in
            let inside : k < length (numbers_from pollers poller 0 views) = omega (arith, within, ap length are.numbers, length-map works (λ (work : Work). work.number)) in
            starts work (ap (λ (n : ℕ). n % pollers) number_at ∙ (number_mine pollers poller 0 k 0 views inside).0) (are.each k d within);
        apart = λ one other in_one in_other same.
            let long : length (map task_of works) ≡ length works = length-map works task_of in
            let counted : length (numbers_from pollers poller 0 views) ≡ length works = sym (ap length tasks_are) ∙ long in
            numbers_apart pollers poller 0 views one other (omega (arith, in_one, counted)) (omega (arith, in_other, counted))
            (sym (ap (λ (all : List ℕ). slice_index all one) tasks_are) ∙ same ∙ ap (λ (all : List ℕ). slice_index all other) tasks_are);
      }

-- ---- one poller

pub watch_starts : (sources : List SourcePlan) (writers : ℕ) (views : List View) (plan : HubPlan) (caps : List ℕ) (hub : HubState) (passes : Passes) (works : List Work) (watch : Watch) → plan ≡ plan_for sources writers 1 views → IsSound plan → IsMade plan hub passes → caps ≡ caps_of sources →
    AreJobsOf views caps 1 0 works → StartsFor views caps 1 0 works → watch.hub ≡ hub → watch.writers ≡ passes.writers → slice_get passes.pollers 0 ≡ Some watch.pass → watch.exec ≡ works → IsWatch sources writers views watch
watch_starts sources writers views plan caps hub passes works watch plan_is sound made caps_are of_views starts at_hub at_writers at_pass at_works = record {
  of_sources = ap (λ (h : HubState). h.machine.layout.plans) at_hub ∙ made.of_sources ∙ ap (λ (p : HubPlan). p.sources) plan_is;
  writers_are = rw (at_hub, at_writers) (subst (λ (p : HubPlan). AreNew hub 0 p.writers passes.writers) plan_is made.writers);
  of_views = rw (at_works, ← caps_are) of_views;
  jobs = rw (at_hub, at_works)
      (starts sources writers hub watch.pass caps_are (record {
        passes = passes;
        sound = subst IsSound plan_is sound;
        made = subst (λ (p : HubPlan). IsMade p hub passes) plan_is made;
        at = at_pass;
      }));
}
