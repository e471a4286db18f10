-- How the seats of passes are gathered at the end.
use Rattle.std.proofs.Common.{◌≡◌, ◌∙◌, ℕ, ◌+◌, ◌<◌, ◌≤◌, ◌==◌, ◌⊎◌, inl, inr, ⊎_elim, List, [], ◌∷◌, ◌++◌, length, map, sum_by, get_or, slice_get, Bool, true, false, Some, All, refl, sym, ap, subst, append_assoc, length-append, zero-add, arith}
use Rattle.std.proofs.lemmas.List.{append-nil, length_push, length-map, map-append, get_or-map}
use Rattle.std.proofs.lemmas.List.Elements.{All-nil, All-cons, All-head, All-tail, All-same, All-append, All-map, All-push, All-weaker}
use Rattle.std.proofs.lemmas.List.Sums.{sum_by-cons}
use Rattle.atomic_table.specs.Seated.{TableId}
use Rattle.sig_flag.specs.Accounts.{plan_at, known, hold, watch}
use Rattle.sig_flag.specs.Layouts.{Layout, leaf_at}
use Rattle.sig_flag.specs.Machines.{Machine, AreBack, IsEnd, IsReadyList, OwesNothing}
use Rattle.sig_flag.specs.Machines as flags
use Rattle.sig_flag.specs.Turns.{IsKnown}
use Rattle.sig_flag.specs.declared.accounts.Account.{Account}
use Rattle.sig_hist.specs.Plain.{version_of}
use Rattle.sig_hist.specs.Sources.{Source, is_among}
use Rattle.sig_hist.specs.declared.plans.SourcePlan.{SourcePlan}
use Rattle.sig_hist.specs.declared.ports.Condition.TheVariants.{Waiting}
use Rattle.sig_hub.proofs.Listed.{listed_each, listed_rises, listed_within}
use Rattle.sig_hub.specs.Ends.{AreOf, AreTold, IsFinished, IsHeard, IsLast, Knew, Rises, listed}
use Rattle.sig_hub.specs.Hubs.{HubState, IsHub}
use Rattle.sig_hub.specs.Passes.{Pass, IsOf}
use Rattle.sig_hub.specs.Seats.{Rests, AreSeatsOf, at_seat, at_pass}
use Rattle.sig_hub.specs.Turns.{PassSeat, its_plan, its_history}
use Rattle.sig_hub.specs.declared.ending.Returned.{Returned}

-- some passes gave their seats, and others are left
pub record AreMoved (all moved rest : List Pass) (before now : List PassSeat) : Type 0 where
  pub parts : moved ++ rest ≡ all
  pub counted : length now ≡ length before + length moved
  pub seats : (passes : List Pass) → AreSeatsOf passes before → AreSeatsOf (passes ++ moved) now

pub none_moved : (all rest : List Pass) (before : List PassSeat) → rest ≡ all → AreMoved all [] rest before before
none_moved all rest before is = record { parts = is; counted = omega arith; seats = λ passes are. subst (λ (p : List Pass). AreSeatsOf p before) (sym (append-nil passes)) are }

seats_more : (passes : List Pass) (seats : List PassSeat) (pass : Pass) (seat : PassSeat) → AreSeatsOf passes seats → at_seat seat ≡ at_pass pass → Rests seat → AreSeatsOf (passes ++ pass ∷ []) (seats ++ seat ∷ [])
seats_more passes seats pass seat are same rests = record {
  same = rw (map-append, map-append, are.same, same) refl;
  at_rest = All-push Rests seats seat are.at_rest rests;
}

pub moved_more : (all moved rest others : List Pass) (before now : List PassSeat) (after : List PassSeat) (pass : Pass) (seat : PassSeat) → AreMoved all moved rest before now → rest ≡ pass ∷ others → at_seat seat ≡ at_pass pass → Rests seat →
    after ≡ now ++ seat ∷ [] → AreMoved all (moved ++ pass ∷ []) others before after
moved_more all moved rest others before now after pass seat are is view rests pushed = record {
  parts = append_assoc moved (pass ∷ []) others ∙ ap (λ (back : List Pass). moved ++ back) (sym is) ∙ are.parts;
  counted = omega (arith, ap length pushed, length_push now seat, length_push moved pass, are.counted);
  seats = λ passes of. subst (AreSeatsOf (passes ++ (moved ++ pass ∷ []))) (sym pushed)
      (subst (λ (p : List Pass). AreSeatsOf p (now ++ seat ∷ [])) (append_assoc passes moved (pass ∷ [])) (seats_more (passes ++ moved) now pass seat (are.seats passes of) view rests));
}

-- ---- all of some passes, and all of their seats

front_of_all : (P : Pass → Type 0) (xs ys : List Pass) → All P (xs ++ ys) → All P xs
front_of_all P [] ys all = All-nil P
front_of_all P (x ∷ xs) ys all = All-cons P x xs (All-head P x (xs ++ ys) all) (front_of_all P xs ys (All-tail P x (xs ++ ys) all))

back_of_all : (P : Pass → Type 0) (xs ys : List Pass) → All P (xs ++ ys) → All P ys
back_of_all P [] ys all = all
back_of_all P (x ∷ xs) ys all = back_of_all P xs ys (All-tail P x (xs ++ ys) all)

of_map : {X Y : Type 0} (f : X → Y) (P : Y → Type 0) (xs : List X) → All P (map f xs) → All (λ x. P (f x)) xs
of_map f P xs all = λ k d within. subst P (get_or-map f xs k d (f d) within) (all k (f d) (rw length-map within))

sum_map : {X Y : Type 0} (f : X → Y) (g : Y → ℕ) (xs : List X) → sum_by (λ x. g (f x)) xs ≡ sum_by g (map f xs)
sum_map f g [] = refl
sum_map f g (x ∷ xs) = sum_by-cons (λ x. g (f x)) x xs ∙ ap (λ (n : ℕ). g (f x) + n) (sum_map f g xs) ∙ sym (sum_by-cons g (f x) (map f xs))

-- what is there at a seat, and at a pass
abbrev There : Type 0
There = TableId × Account

module _ (passes : List Pass) (seats : List PassSeat) (are : AreSeatsOf passes seats) where
  pub as_many : length seats ≡ length passes
  as_many = sym (length-map seats at_seat) ∙ ap length are.same ∙ length-map passes at_pass

  to_passes : (P : There → Type 0) → All (λ seat. P (at_seat seat)) seats → All (λ pass. P (at_pass pass)) passes
  to_passes P all = of_map at_pass P passes (All-same P (map at_pass passes) (map at_seat seats) (sym are.same) (All-map P at_seat seats all))

  to_seats : (P : There → Type 0) → All (λ pass. P (at_pass pass)) passes → All (λ seat. P (at_seat seat)) seats
  to_seats P all = of_map at_seat P seats (All-same P (map at_seat seats) (map at_pass passes) are.same (All-map P at_pass passes all))

  same_sums : (g : There → ℕ) → sum_by (λ seat. g (at_seat seat)) seats ≡ sum_by (λ pass. g (at_pass pass)) passes
  same_sums g = sum_map at_seat g seats ∙ ap (sum_by g) are.same ∙ sym (sum_map at_pass g passes)

pub no_seats : (seats : List PassSeat) → seats ≡ [] → AreSeatsOf [] seats
no_seats seats none = subst (AreSeatsOf []) (sym none) (record { same = refl; at_rest = All-nil Rests })

-- ---- the end of a hub, as it is inside and as its callers see it

module _ (hub now : HubState) (is : hub ≡ now) (back : Returned) (seats given : List PassSeat) (are : AreSeatsOf (back.left ++ back.pollers) seats) (given_is : given ≡ seats) where
  pub are_back : IsHub hub → AreOf now back → now.writers + now.pollers ≤ length back.left + length back.pollers → AreBack hub.machine given
  are_back sound of enough =
      let of_hub : AreOf hub back = rw is of in
      let enough_of_hub : hub.writers + hub.pollers ≤ length back.left + length back.pollers = rw is enough in
      let passes : List Pass = back.left ++ back.pollers in
      let here : (pass : Pass) → IsOf hub.machine pass → pass.hub.id ≡ hub.machine.id = λ pass same. ap (λ (m : Machine). m.id) same in
      let all = to_seats passes seats are (λ (there : There). there.0 ≡ hub.machine.id)
      (All-weaker (IsOf hub.machine) (λ pass. pass.hub.id ≡ hub.machine.id) here passes (All-append (IsOf hub.machine) back.left back.pollers of_hub.left of_hub.pollers)) in
      subst (AreBack hub.machine) (sym given_is) (record {
        all = omega (arith, sound.seats, as_many passes seats are, length-append back.left back.pollers);
        at_rest = λ k d within. let rests = are.at_rest k d within in (record { at_table = all k d within; one_account = rests.one_account }, rests.no_turn);
      })

  module _ (states : List Source) (ready : List Bool) (told : List ℕ) (of : AreOf now back) (enough : now.writers + now.pollers ≤ length back.left + length back.pollers) (ended : IsEnd its_plan its_history hub.machine given states)
      (of_ready : IsReadyList hub.machine.layout given ready) (of_heard : flags.IsHeard its_plan its_history hub.machine.layout given states ready) (told_is : told ≡ listed ready 0) where
    abbrev passes : List Pass
    passes = back.left ++ back.pollers

    end : IsEnd its_plan its_history now.machine seats states
    end = rw (← is, ← given_is) ended

    tasks : IsReadyList now.machine.layout seats ready
    tasks = rw (← is, ← given_is) of_ready

    none_waits : flags.IsHeard its_plan its_history now.machine.layout seats states ready
    none_waits = rw (← is, ← given_is) of_heard

    is_ready : (task : ℕ) → is_among task told ≡ get_or ready task false
    is_ready task = ap (is_among task) told_is ∙ ap (λ (k : ℕ). is_among k (listed ready 0)) (sym (zero-add task)) ∙ listed_each ready 0 task

    are_told : AreTold now.machine.layout back told
    are_told = record {
      rising = subst Rises (sym told_is) (listed_rises ready 0);
      within = subst (All (λ task. task < length now.machine.layout.pollers)) (sym told_is)
          (All-weaker (λ task. task < 0 + length ready) (λ task. task < length now.machine.layout.pollers) (λ task under. omega (arith, under, tasks.all)) (listed ready 0) (listed_within ready 0));
      each = λ task within.
          is_ready task ∙ tasks.each task within ∙ (λ i. same_sums passes seats are (λ (there : There). (hold there.1 task).found) i == same_sums passes seats are (λ (there : There). (hold there.1 task).raised) i);
    }

    each_last : (source : ℕ) (state : Source) → slice_get states source ≡ Some state → IsLast back source (plan_at now.machine.layout.plans source) state
    each_last source state at =
        let last = end.each source state at in
        let plan = plan_at now.machine.layout.plans source in
        let all = to_passes passes seats are (λ (there : There). IsKnown there.1.number plan state.history (known there.1 source)) last.known in
        record {
          of_plan = last.of_plan;
          history = last.of_history;
          left = front_of_all (Knew source plan state) back.left back.pollers all;
          pollers = back_of_all (Knew source plan state) back.left back.pollers all;
        }

    owes : All OwesNothing seats
    owes = All-weaker Rests OwesNothing (λ seat rests. rests.nothing) seats are.at_rest

    are_heard : (leaf : ℕ) (state : Source) → leaf < length now.machine.layout.leaves → slice_get states (leaf_at now.machine.layout.leaves leaf).source ≡ Some state → All (IsHeard now.machine.layout told leaf state) back.pollers
    are_heard leaf state within at = λ k d inside version waits.
        let layout : Layout = now.machine.layout in
        let its_task : ℕ = (leaf_at layout.leaves leaf).task in
        let there_is : (pass : There) → Type 0 = λ there.
        (watch there.1 leaf).condition ≡ Waiting version → (version_of (record { plan = plan_at layout.plans (leaf_at layout.leaves leaf).source; history = state.history }) ≡ version)
        ⊎ ((get_or ready its_task false ≡ true) ⊎ (0 < (hold there.1 its_task).tokens)) in
        let all = to_passes passes seats are there_is (none_waits.each owes leaf version state within at) in
        let plan_is = (each_last (leaf_at layout.leaves leaf).source state at).of_plan in
        ⊎_elim (λ same. inl (ap (λ (plan : SourcePlan). version_of (record { plan = plan; history = state.history })) plan_is ∙ same))
        (λ more. inr (⊎_elim (λ is_one. inl (is_ready its_task ∙ is_one)) (λ token. inr token) more))
        (back_of_all (λ pass. there_is (at_pass pass)) back.left back.pollers all k d inside waits)

    pub finished : IsFinished now back (record { sources = states; told = told })
    finished = record { all_back = enough; all = end.counted; each = each_last; told = are_told; heard = are_heard }
