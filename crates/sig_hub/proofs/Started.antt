-- How the passes of a hub are made.
use Rattle.std.proofs.Common.{◌≡◌, ◌∙◌, ℕ, zero, suc, ◌+◌, ◌<◌, ◌≤◌, ◌==◌, List, [], ◌∷◌, ◌++◌, length, map, ◌⊎◌, ◌≢◌, get_or, slice_get, Bool, true, false, not, ◌&&◌, ◌||◌, Some, All, ⊎_elim, refl, sym, ap, subst, ne_eqb, zero-add, arith}
use Rattle.std.proofs.Math.Bool.{or-false, and-true}
use Rattle.std.proofs.lemmas.Bool.{cases_order, eqb-true, eqb-false, or_right}
use Rattle.std.proofs.lemmas.List.{length-map, length_push}
use Rattle.std.proofs.lemmas.List.Elements.{All-nil, All-head, All-tail, All-push}
use Rattle.std.proofs.lemmas.List.Folds.{list_any-append, list_any_none}
use Rattle.std.proofs.lemmas.Option.{get_or_from_slice_get, slice_get-get_or, slice_get_read}
use Rattle.std.specs.List.{list_any}
use Rattle.sig_flag.specs.Accounts.{no_plan, opening_account, opening_knowledge, plan_at}
use Rattle.sig_flag.specs.Layouts.{Layout}
use Rattle.sig_flag.specs.Machines.{Machine}
use Rattle.sig_flag.specs.declared.accounts.Account.{Account}
use Rattle.sig_flag.specs.declared.accounts.Knowledge.{Knowledge}
use Rattle.sig_hist.specs.Histories.{ends_with_leave}
use Rattle.sig_hist.specs.Ports.{IsSoundPort}
use Rattle.sig_hist.specs.Sources.{IsPlan, is_among, writers_of}
use Rattle.sig_hist.specs.declared.plans.Allowance.{Allowance}
use Rattle.sig_hist.specs.declared.plans.SourcePlan.{SourcePlan}
use Rattle.sig_hub.proofs.Entered.{seen_all, IsSeenAll}
use Rattle.sig_hub.proofs.InTurn.{reads}
use Rattle.sig_hub.specs.Hubs.{HubState, AreNew, new_pass}
use Rattle.sig_hub.specs.Passes.{Pass, Falls, pass_of, IsStation, IsAccountOf, AreThoseToLeave}
use Rattle.sig_hub.specs.Polls.{port_of}
use Rattle.sig_hub.specs.Starting.{AreWritten, IsDraft, AreDrafts, IsNewSeat, AreNewSeats, AreNewPasses}
use Rattle.sig_hub.specs.Turns.{PassSeat}
use Rattle.sig_hub.specs.declared.starting.Draft.{Draft}

-- ---- the sources that a writer writes

pub any_writer : (number : ℕ) (allow : List Allowance) → list_any (λ (allowance : Allowance). allowance.writer == number) allow ≡ is_among number (writers_of allow)
any_writer number [] = refl
any_writer number (allowance ∷ allow) = ap (λ (others : Bool). (allowance.writer == number) || others) (any_writer number allow)

-- what a test of a plan that was read says of the plan at its place
pub asked : (plans : List SourcePlan) (number place : ℕ) (plan : SourcePlan) (allow : List Allowance) (answer : Bool) → plan ≡ get_or plans place plan → place < length plans → allow ≡ plan.allow →
    answer ≡ list_any (λ (allowance : Allowance). allowance.writer == number) allow → is_among number (writers_of (plan_at plans place).allow) ≡ answer
asked plans number place plan allow answer read within its is =
    let there : plan_at plans place ≡ plan = get_or_from_slice_get plans place plan no_plan (slice_get_read plans (length plans) place plan refl within read) in
    ap (λ (p : SourcePlan). is_among number (writers_of p.allow)) there ∙ ap (λ (a : List Allowance). is_among number (writers_of a)) (sym its) ∙ sym (any_writer number allow) ∙ sym is

plan_past : (plans : List SourcePlan) (source : ℕ) → length plans ≤ source → plan_at plans source ≡ no_plan
plan_past [] source past = refl
plan_past (plan ∷ plans) zero past = absurd (omega arith)
plan_past (plan ∷ plans) (suc source) past = plan_past plans source (omega arith)

above : (place source : ℕ) → place ≤ source → (place == source) ≡ false → place + 1 ≤ source
above place source over other = let apart : place ≢ source = eqb-false place source other in ⊎_elim (λ (same : place ≡ source). absurd (apart same)) (λ (else : (place < source) ⊎ (source < place)). ⊎_elim (λ (low : place < source). omega arith) (λ (high : source < place). absurd (omega arith)) else) (cases_order place source)

below : (sources : List ℕ) (source place : ℕ) → All (λ s. place ≤ s) sources → source < place → is_among source sources ≡ false
below sources source place past under = list_any_none (λ (s : ℕ). s == source) sources (λ k d at. let over = past k d at in ne_eqb (get_or sources k d) source (λ same. absurd (omega arith)))

pub none_written : (plans : List SourcePlan) (number place : ℕ) → length plans ≤ place → AreWritten plans number place []
none_written plans number place past = record {
  within = All-nil _;
  past = All-nil _;
  each = λ source over. sym (ap (λ (p : SourcePlan). is_among number (writers_of p.allow)) (plan_past plans source (omega arith)));
  falling = tt;
}

falls_push : (sources : List ℕ) (source : ℕ) → Falls sources → All (λ s. source < s) sources → Falls (sources ++ source ∷ [])
falls_push [] source falls over = (All-nil _, tt)
falls_push (first ∷ sources) source falls over =
    (All-push (λ s. s < first) sources source falls.0 (All-head (λ s. source < s) first sources over), falls_push sources source falls.1 (All-tail (λ s. source < s) first sources over))

module _ (plans : List SourcePlan) (number place next : ℕ) (sources : List ℕ) (is : next ≡ place + 1) (within : next ≤ length plans) (are : AreWritten plans number next sources) where
  pub written_less : is_among number (writers_of (plan_at plans place).allow) ≡ false → AreWritten plans number place sources
  written_less lacks = record {
    within = are.within;
    past = λ k d at. let over = are.past k d at in omega (arith, is);
    each = λ source over. elim (place == source) as (λ here. (place == source) ≡ here → is_among source sources ≡ is_among number (writers_of (plan_at plans source).allow)) [
      | true ↦ λ same. subst (λ s. is_among s sources ≡ is_among number (writers_of (plan_at plans s).allow)) (eqb-true place source same) (below sources place next are.past (omega (arith, is)) ∙ sym lacks)
      | false ↦ λ other. are.each source (let over = above place source over other in omega (arith, is))
    ] refl;
    falling = are.falling;
  }

  pub written_more : is_among number (writers_of (plan_at plans place).allow) ≡ true → AreWritten plans number place (sources ++ place ∷ [])
  written_more has = record {
    within = All-push (λ s. s < length plans) sources place are.within (omega (arith, is));
    past = All-push (λ s. place ≤ s) sources place (λ k d at. let over = are.past k d at in omega (arith, is)) (omega arith);
    each = λ source over. list_any-append (λ (s : ℕ). s == source) sources (place ∷ [])
        ∙ elim (place == source) as (λ here. (place == source) ≡ here → (is_among source sources || (here || false)) ≡ is_among number (writers_of (plan_at plans source).allow)) [
          | true ↦ λ same. or_right (is_among source sources) true refl ∙ subst (λ s. true ≡ is_among number (writers_of (plan_at plans s).allow)) (eqb-true place source same) (sym has)
          | false ↦ λ other. or-false (is_among source sources) ∙ are.each source (let over = above place source over other in omega (arith, is))
        ] refl;
    falling = falls_push sources place are.falling (λ k d at. let over = are.past k d at in omega (arith, is));
  }

-- ---- drafts, seats and passes in their order

pub drafts_push : (plans : List SourcePlan) (first : ℕ) (drafts : List Draft) (draft : Draft) → AreDrafts plans first drafts → IsDraft plans (first + length drafts) draft → AreDrafts plans first (drafts ++ draft ∷ [])
drafts_push plans first [] draft are is = (subst (λ (n : ℕ). IsDraft plans n draft) (omega arith) is, tt)
drafts_push plans first (one ∷ drafts) draft are is = (are.0, drafts_push plans (suc first) drafts draft are.1 (subst (λ (n : ℕ). IsDraft plans n draft) (omega arith) is))

pub draft_more : (plans : List SourcePlan) (number : ℕ) (drafts after : List Draft) (draft : Draft) → AreDrafts plans 0 drafts → length drafts ≡ number → draft.number ≡ number → AreWritten plans number 0 draft.sources.items →
    after ≡ drafts ++ draft ∷ [] → AreDrafts plans 0 after × (length after ≡ number + 1)
draft_more plans number drafts after draft are counted is_number written is = (
  subst (AreDrafts plans 0) (sym is) (drafts_push plans 0 drafts draft are (subst (λ (n : ℕ). IsDraft plans n draft) (sym counted ∙ sym (zero-add (length drafts))) (record { of_number = is_number; of_sources = written }))),
  omega (arith, ap length is, length_push drafts draft),
)

passes_push : (hub : HubState) (first : ℕ) (passes : List Pass) (pass : Pass) → AreNewPasses hub first passes → pass ≡ new_pass hub (first + length passes) → AreNewPasses hub first (passes ++ pass ∷ [])
passes_push hub first [] pass are is = (is ∙ ap (new_pass hub) (omega arith), tt)
passes_push hub first (one ∷ passes) pass are is = (are.0, passes_push hub (suc first) passes pass are.1 (is ∙ ap (new_pass hub) (omega arith)))

new_at : (hub : HubState) (first : ℕ) (passes : List Pass) → AreNewPasses hub first passes → (k : ℕ) (pass : Pass) → slice_get passes k ≡ Some pass → pass ≡ new_pass hub (first + k)
new_at hub first [] are k pass at = absurd (cc)
new_at hub first (one ∷ passes) are zero pass at = let same : one ≡ pass = cc in sym same ∙ are.0 ∙ ap (new_pass hub) (omega arith)
new_at hub first (one ∷ passes) are (suc k) pass at = new_at hub (suc first) passes are.1 k pass at ∙ ap (new_pass hub) (omega arith)

pub are_new : (hub : HubState) (first count : ℕ) (passes : List Pass) → AreNewPasses hub first passes → length passes ≡ count → AreNew hub first count passes
are_new hub first count passes are counted = record { all = counted; each = new_at hub first passes are }

pub seats_from : (machine : Machine) (first : ℕ) (seats : List PassSeat) → ((k : ℕ) (seat : PassSeat) → slice_get seats k ≡ Some seat → IsNewSeat machine (first + k) seat) → AreNewSeats machine first seats
seats_from machine first [] each = tt
seats_from machine first (one ∷ seats) each =
    (subst (λ (n : ℕ). IsNewSeat machine n one) (omega arith) (each 0 one refl), seats_from machine (suc first) seats (λ k seat at. subst (λ (n : ℕ). IsNewSeat machine n seat) (omega arith) (each (suc k) seat at)))

-- ---- a new pass

known_new : (plans : List SourcePlan) (source : ℕ) → get_or (map opening_knowledge plans) source (opening_knowledge no_plan) ≡ opening_knowledge (plan_at plans source)
known_new [] source = refl
known_new (plan ∷ plans) zero = refl
known_new (plan ∷ plans) (suc source) = known_new plans source

seen_new : (plan : SourcePlan) → IsPlan plan → IsSeenAll (seen_all (opening_knowledge plan))
seen_new plan is = record { of_plan = is; legal = tt; known = omega arith; room = omega arith; closed = λ closed. refl }

no_plan_is : IsPlan no_plan
no_plan_is = record { in_order = tt; within_cap = omega arith; distinct = tt; room = omega arith }

plan_is : (plans : List SourcePlan) (source : ℕ) → All IsPlan plans → IsPlan (plan_at plans source)
plan_is [] source all = no_plan_is
plan_is (plan ∷ plans) zero all = All-head IsPlan plan plans all
plan_is (plan ∷ plans) (suc source) all = plan_is plans source (All-tail IsPlan plan plans all)

opening_of : (layout : Layout) (number : ℕ) → All IsPlan layout.plans → IsAccountOf layout (opening_account layout number)
opening_of layout number plans = record {
  sources = length-map layout.plans opening_knowledge;
  leaves = length-map layout.leaves _;
  tasks = length-map layout.pollers _;
  sound = λ source. subst (λ (k : Knowledge). IsSeenAll (seen_all k)) (sym (known_new layout.plans source)) (seen_new (plan_at layout.plans source) (plan_is layout.plans source plans));
}

module _ (hub : HubState) (number : ℕ) (seat : PassSeat) (is : IsNewSeat hub.machine number seat) where
  pub pass_is : pass_of hub.machine seat ≡ new_pass hub number
  pass_is = let account_is = (reads seat _ [] is.has).is in λ i. record { hub = hub.machine; account = account_is i }

  pub station_new : All IsPlan hub.machine.layout.plans → IsStation hub.machine seat number
  station_new plans =
      let now = reads seat _ [] is.has in
      record {
        at_table = is.at_table;
        rests = record {
          one_account = now.one;
          no_turn = record { no_turn = ap (λ (a : Account). a.turn) now.is; no_state = now.slots_are };
          nothing = record { no_ring = ap (λ (a : Account). a.rings) now.is; no_tell = ap (λ (a : Account). a.tells) now.is };
          of_number = sym (ap (λ (a : Account). a.number) now.is);
        };
        of_layout = subst (IsAccountOf hub.machine.layout) (sym now.is) (opening_of hub.machine.layout number plans);
      }

-- what a new poller knows is sound
pub sound_new : (hub : HubState) (first count : ℕ) (passes : List Pass) → All IsPlan hub.machine.layout.plans → AreNew hub first count passes → All (λ pass. IsSoundPort (port_of pass)) passes
sound_new hub first count passes plans are = λ k d within.
    let new : get_or passes k d ≡ new_pass hub (first + k) = are.each k (get_or passes k d) (slice_get-get_or passes k d within) in
    subst (λ (pass : Pass). IsSoundPort (port_of pass)) (sym new) (opening_of hub.machine.layout (first + k) plans).sound

-- a new writer is in what it writes
pub leaves_new : (hub : HubState) (number : ℕ) (sources : List ℕ) → AreWritten hub.machine.layout.plans number 0 sources → AreThoseToLeave (new_pass hub number) sources
leaves_new hub number sources are = record {
  within = are.within;
  each = λ source. ap (λ (k : Knowledge). is_among number (writers_of k.plan.allow) && not (ends_with_leave k.own)) (known_new hub.machine.layout.plans source) ∙ and-true _ ∙ sym (are.each source (omega arith));
  falling = are.falling;
}

-- ---- passes with seats, one after another

-- so far so many drafts and seats were used
pub record AreStarting (hub : HubState) (first : ℕ) (seats_before seats : List PassSeat) (passes : List Pass) : Type 0 where
  pub seats_are : AreNewSeats hub.machine (first + length passes) seats
  pub passes_are : AreNewPasses hub first passes
  pub counted : length passes + length seats ≡ length seats_before

pub none_started : (hub : HubState) (first : ℕ) (seats before : List PassSeat) (passes : List Pass) → passes ≡ [] → seats ≡ before → AreNewSeats hub.machine first before → AreStarting hub first before seats passes
none_started hub first seats before passes none same are =
    subst (λ (p : List Pass). AreStarting hub first before seats p) (sym none) (record {
      seats_are = subst (λ (n : ℕ). AreNewSeats hub.machine n seats) (omega arith) (subst (AreNewSeats hub.machine first) (sym same) are);
      passes_are = tt;
      counted = omega (arith, ap length same);
    })

-- the next seat is new
pub next_seat : (hub : HubState) (first : ℕ) (before seats others : List PassSeat) (passes : List Pass) (seat : PassSeat) → AreStarting hub first before seats passes → seats ≡ seat ∷ others → IsNewSeat hub.machine (first + length passes) seat
next_seat hub first before seats others passes seat are is = (subst (AreNewSeats hub.machine (first + length passes)) is are.seats_are).0

pub started_more : (hub : HubState) (first : ℕ) (before seats others : List PassSeat) (passes after : List Pass) (seat : PassSeat) (pass : Pass) → AreStarting hub first before seats passes → seats ≡ seat ∷ others → pass ≡ new_pass hub (first + length passes) → after ≡ passes ++ pass ∷ [] →
    AreStarting hub first before others after
started_more hub first before seats others passes after seat pass are is pass_new pushed =
    let new = subst (AreNewSeats hub.machine (first + length passes)) is are.seats_are in
    let longer : length after ≡ length passes + 1 = omega (arith, ap length pushed, length_push passes pass) in
    record {
      seats_are = subst (λ (n : ℕ). AreNewSeats hub.machine n others) (omega arith) new.1;
      passes_are = subst (AreNewPasses hub first) (sym pushed) (passes_push hub first passes pass are.passes_are pass_new);
      counted = omega (arith, are.counted, ap length is);
    }

-- a writer's pass, with the next draft and the next seat
module _ (hub : HubState) (before seats others : List PassSeat) (passes : List Pass) (drafts rest : List Draft) (draft : Draft) (seat : PassSeat) (starting : AreStarting hub 0 before seats passes)
    (are : AreDrafts hub.machine.layout.plans (length passes) drafts) (next_is : seats ≡ seat ∷ others) (draft_is : drafts ≡ draft ∷ rest) where
  split : IsDraft hub.machine.layout.plans (length passes) draft × AreDrafts hub.machine.layout.plans (suc (length passes)) rest
  split = subst (AreDrafts hub.machine.layout.plans (length passes)) draft_is are

  pub its_number : draft.number ≡ length passes
  its_number = split.0.of_number

  pub its_seat : IsNewSeat hub.machine draft.number seat
  its_seat = subst (λ (n : ℕ). IsNewSeat hub.machine n seat) (zero-add (length passes) ∙ sym its_number) (next_seat hub 0 before seats others passes seat starting next_is)

  pub its_sources : AreThoseToLeave (new_pass hub draft.number) draft.sources.items
  its_sources = subst (λ (n : ℕ). AreThoseToLeave (new_pass hub n) draft.sources.items) (sym its_number) (leaves_new hub (length passes) draft.sources.items split.0.of_sources)

  pub other_drafts : (after : List Pass) (pass : Pass) → after ≡ passes ++ pass ∷ [] → AreDrafts hub.machine.layout.plans (length after) rest
  other_drafts after pass pushed = subst (λ (n : ℕ). AreDrafts hub.machine.layout.plans n rest) (omega (arith, ap length pushed, length_push passes pass)) split.1
