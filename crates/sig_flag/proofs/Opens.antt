-- The told rule holds at the start.
use Rattle.std.proofs.Common.{◌≡◌, ◌∙◌, ℕ, zero, suc, ◌+◌, ◌-◌, ◌<◌, ◌≤◌, List, [], ◌∷◌, ◌++◌, length, map, replicate, get_or, sum_by, Bool, Option, None, Some, All, refl, sym, ap, subst, append_assoc, arith}
use Rattle.std.proofs.lemmas.List.{length-map, length-append, length-replicate, get_or_append_left, get_or-append_right, get_or-append-add, get_or-replicate}
use Rattle.std.proofs.lemmas.List.Sums.{sum_by-cons}
use Rattle.std.proofs.lemmas.List.Elements.{All-head, All-tail}
use Rattle.std.proofs.Math.ListN.{get_or-map}
use mathlib.Core.Option as slot
use mathlib.Core.Option.{some-injective, some-ne-none}
use lib.ListN.{get_elem?}
use Rattle.atomic_table.specs.Table.{opening}
use Rattle.sig_flag.proofs.Keeping.{Whole, task_of, found_of, raised_of}
use Rattle.sig_flag.proofs.Stepping.{Rule}
use Rattle.sig_flag.specs.Accounts.{plan_at, no_plan, no_watch, no_hold, known, hold, opening_knowledge, opening_account, accounts_from, opening_accounts}
use Rattle.sig_flag.specs.Layouts.{Layout, no_leaf}
use Rattle.sig_flag.specs.Machines.{IsNew, IsShape, layout_by}
use Rattle.sig_flag.specs.Told.{IsWatched, IsWatching, total}
use Rattle.sig_flag.specs.Turns.{IsHistory, IsKnown, IsTurn, IsAccount}
use Rattle.sig_flag.specs.Words.{word_of}
use Rattle.sig_flag.specs.declared.accounts.Account.{Account}
use Rattle.sig_flag.specs.declared.accounts.Hold.{Hold}
use Rattle.sig_flag.specs.declared.accounts.Watch.{Watch}
use Rattle.sig_flag.specs.declared.shape.FlagShape.{FlagShape}
use Rattle.sig_flag.specs.declared.shape.LeafPlan.{LeafPlan}
use Rattle.sig_hist.proofs.Staying.{no_leaves}
use Rattle.sig_hist.specs.Histories.{is_closed}
use Rattle.sig_hist.specs.Sources.{writers_of}
use Rattle.sig_hist.specs.declared.edits.Entry.{Entry}
use Rattle.sig_hist.specs.declared.plans.SourcePlan.{SourcePlan}

-- ---- accounts

-- the account at a place of those that are numbered from a first number on
record IsNumbered (layout : Layout) (number count place : ℕ) (account : Account) : Type 0 where
  few : place < count
  same : opening_account layout number ≡ account

numbered : (layout : Layout) (first count at : ℕ) (account : Account) → get_elem? (accounts_from layout first count) at ≡ slot.some account → IsNumbered layout (first + at) count at account
numbered layout first zero at account is = absurd (some-ne-none account (sym is))
numbered layout first (suc count) zero account is = record { few = omega arith; same = ap (opening_account layout) (let same : first + 0 ≡ first = omega arith in same) ∙ some-injective (opening_account layout first) account is }
numbered layout first (suc count) (suc at) account is =
    let later = numbered layout (suc first) count at account is in
    record { few = omega (arith, later.few); same = ap (opening_account layout) (let same : first + suc at ≡ suc first + at = omega arith in same) ∙ later.same }

opening_known : (layout : Layout) (number source : ℕ) → IsKnown number (plan_at layout.plans source) [] (known (opening_account layout number) source)
opening_known layout number source = rw (get_or-map opening_knowledge layout.plans source no_plan) (record { of_plan = refl; front = refl; seen = omega arith; count = omega arith; own = refl })

opening_is : (layout : Layout) (number : ℕ) → number < layout.seats → IsAccount layout.plans layout.seats (λ _. []) (λ _. None) (λ _. 0) 0 (opening_account layout number)
opening_is layout number few = record {
  at_place = refl;
  of_seat = few;
  of_plans = length-map layout.plans opening_knowledge;
  knows = λ source _. opening_known layout number source;
  has_turn = λ source none. absurd (cc);
  only = λ source _ none. absurd (cc);
}

-- all leaves are idle
opening_watching : (layout : Layout) (words : List ℕ) (views : List (List Account)) (history : ℕ → List Entry) (number : ℕ) → IsWatching layout words views history (opening_account layout number)
opening_watching layout words views history number =
    let idle = λ (leaf : ℕ). ap (λ (w : Watch). w.condition) (get_or-map (λ (leaf : LeafPlan). no_watch) layout.leaves leaf no_leaf) in
    record {
      watches = length-map layout.leaves (λ (leaf : LeafPlan). no_watch);
      holds = length-map layout.pollers (λ (poller : ℕ). no_hold);
      each = λ leaf _. subst (IsWatched layout words views history leaf (hold (opening_account layout number) (task_of layout leaf)).tokens) (sym (idle leaf)) tt;
      others = λ leaf _ _. idle leaf;
    }

first_view : (layout : Layout) (view at : ℕ) (all : List Account) (account : Account) → get_elem? (opening_accounts layout ∷ []) view ≡ slot.some all → get_elem? all at ≡ slot.some account → (view ≡ 0) × IsNumbered layout at layout.seats at account
first_view layout (suc view) at all account is_view is_account = absurd (some-ne-none all (sym is_view))
first_view layout zero at all account is_view is_account =
    let from_zero = numbered layout 0 layout.seats at account (subst (λ (l : List Account). get_elem? l at ≡ slot.some account) (sym (some-injective (opening_accounts layout) all is_view)) is_account) in
    (refl, subst (λ (n : ℕ). IsNumbered layout n layout.seats at account) (let same : 0 + at ≡ at = omega arith in same) from_zero)

-- ---- words

ready_bit : (tasks at : ℕ) → get_or (replicate tasks 1) at 0 ≤ 1
ready_bit zero at = omega arith
ready_bit (suc tasks) zero = omega arith
ready_bit (suc tasks) (suc at) = ready_bit tasks at

bell_bit : (leaves tasks at : ℕ) → get_or (replicate leaves 0 ++ replicate tasks 1) at 0 ≤ 1
bell_bit zero tasks at = ready_bit tasks at
bell_bit (suc leaves) tasks zero = omega arith
bell_bit (suc leaves) tasks (suc at) = bell_bit leaves tasks at

opening_bit : (sources : List ℕ) (leaves tasks place : ℕ) → length sources ≤ place → get_or (sources ++ (replicate leaves 0 ++ replicate tasks 1)) place 0 ≤ 1
opening_bit sources leaves tasks place beyond =
    subst (λ (n : ℕ). n ≤ 1) (sym (get_or-append_right sources (replicate leaves 0 ++ replicate tasks 1) (length sources) place 0 refl beyond))
    (bell_bit leaves tasks (place - length sources))

-- no bell is set
opening_bell : (sources : List ℕ) (leaves tasks leaf : ℕ) → leaf < leaves → get_or (sources ++ (replicate leaves 0 ++ replicate tasks 1)) (length sources + leaf) 0 ≡ 0
opening_bell sources leaves tasks leaf within =
    get_or-append-add sources (replicate leaves 0 ++ replicate tasks 1) leaf 0
    ∙ get_or_append_left (replicate leaves 0) (replicate tasks 1) 0 leaf (omega (arith, length-replicate {A = ℕ} leaves 0))
    ∙ get_or-replicate leaves leaf 0 0 within

-- each task's word says that it is told
opening_ready : (sources : List ℕ) (leaves tasks task : ℕ) → task < tasks →
    get_or (sources ++ (replicate leaves 0 ++ replicate tasks 1)) (length sources + leaves + task) 0 ≡ 1
opening_ready sources leaves tasks task within =
    let there : length sources + leaves + task ≡ length sources + (leaves + task) = omega arith in
    let long : length (replicate {A = ℕ} leaves 0) ≡ leaves = length-replicate leaves 0 in
    ap (λ (k : ℕ). get_or (sources ++ (replicate leaves 0 ++ replicate tasks 1)) k 0) there
    ∙ get_or-append-add sources (replicate leaves 0 ++ replicate tasks 1) (leaves + task) 0
    ∙ ap (λ (k : ℕ). get_or (replicate leaves 0 ++ replicate tasks 1) (k + task) 0) (sym long)
    ∙ get_or-append-add (replicate leaves 0) (replicate tasks 1) task 0
    ∙ get_or-replicate tasks task 1 0 within

-- ---- totals

-- what no account has at the start adds up to nothing
opening_sum : (f : Account → ℕ) (layout : Layout) (first count : ℕ) → ((number : ℕ) → f (opening_account layout number) ≡ 0) →
    sum_by f (accounts_from layout first count) ≡ 0
opening_sum f layout first zero none = refl
opening_sum f layout first (suc others) none =
    let later = opening_sum f layout (suc first) others none in
    let is = sum_by-cons f (opening_account layout first) (accounts_from layout (suc first) others) in
    let here = none first in
    omega (arith, later, is, here)

opening_total : (f : Account → ℕ) (layout : Layout) → ((number : ℕ) → f (opening_account layout number) ≡ 0) → total f (opening_accounts layout ∷ []) ≡ 0
opening_total f layout none =
    let all = opening_sum f layout 0 layout.seats none in
    let is = sum_by-cons (λ accounts. sum_by f accounts) (opening_accounts layout) [] in
    omega (arith, all, is)

-- ---- sources

module _ {V : Type 0} (plan_of : V → SourcePlan) (history_of : V → List Entry) where
  abbrev starts_closed : V → Bool
  starts_closed state = is_closed (writers_of (plan_of state).allow) []

  record Opens (plan : SourcePlan) (word : ℕ) (home : slot.Option (Option V)) : Type 0 where
    history : IsHistory plan []
    turn : IsTurn plan_of history_of plan [] None word home

  opens_new : (state : V) → IsNew plan_of history_of state → Opens (plan_of state) (word_of 0 (starts_closed state)) (slot.some (Some state))
  opens_new state new = record {
    history = record { of_source = record { plan = new.of_plan; within_cap = new.of_plan.within_cap; legal = tt; by_writers = refl; room = omega arith; allowances = λ caller. omega arith; leaves_last = no_leaves }; leaves = λ writer. tt };
    turn = (refl, (state, refl, record { of_plan = refl; of_history = new.no_entry }));
  }

  opens_at : (states : List V) (source : ℕ) → All (IsNew plan_of history_of) states → source < length (map plan_of states) →
      Opens (get_or (map plan_of states) source no_plan) (get_or (map (word_of 0) (map starts_closed states)) source 0) (get_or (map slot.some (map Some states)) source slot.none)
  opens_at [] source new within = absurd (omega arith)
  opens_at (state ∷ states) zero new within = opens_new state (All-head (IsNew plan_of history_of) state states new)
  opens_at (state ∷ states) (suc source) new within = opens_at states source (All-tail (IsNew plan_of history_of) state states new) (omega arith)

  opening_turns : (layout : Layout) (states : List V) (words more : List ℕ) (slots : List (Option V)) → layout.plans ≡ map plan_of states → All (IsNew plan_of history_of) states → words ≡ map (word_of 0) (map starts_closed states) → slots ≡ map Some states →
      Rule plan_of history_of layout.plans layout.seats (opening (words ++ more) slots (opening_accounts layout))
  opening_turns layout states words more slots plans_are new words_are slots_are =
      let at = λ (source : ℕ) (within : source < length layout.plans). opens_at states source new (subst (λ (plans : List SourcePlan). source < length plans) plans_are within) in
      let long : length words ≡ length layout.plans = ap length words_are ∙ length-map (map starts_closed states) (word_of 0) ∙ length-map states starts_closed ∙ sym (length-map states plan_of) ∙ sym (ap length plans_are) in
      record {
        history = λ _. [];
        holder = λ _. None;
        place = λ _. 0;
        wide = omega (arith, length-append words more);
        sources = λ source within. rw plans_are (at source within).history;
        turns = λ source within. rw (get_or_append_left words more 0 source (omega arith), words_are, slots_are, plans_are) (at source within).turn;
        holders = λ source number within none. absurd (cc);
        accounts = λ view index all account is_view is_account.
            let found = first_view layout view index all account is_view is_account in
            subst (λ (z : ℕ × Account). IsAccount layout.plans layout.seats (λ _. []) (λ _. None) (λ _. 0) z.0 z.1) (λ i. (sym found.0 i, found.1.same i)) (opening_is layout index found.1.few);
        apart = λ view one other all a b is_view is_one is_other same.
            let first = first_view layout view one all a is_view is_one in
            let second = first_view layout view other all b is_view is_other in
            ap (λ (x : Account). x.number) first.1.same ∙ same ∙ sym (ap (λ (x : Account). x.number) second.1.same);
      }

  pub opens : (shape : FlagShape) (states : List V) (words : List ℕ) (slots : List (Option V)) → IsShape plan_of history_of shape states →
      words ≡ map (λ (closed : Bool). word_of 0 closed) shape.closed ++ replicate (length shape.leaves) 0 ++ replicate (length shape.tasks) 1 → slots ≡ map Some states →
      Whole plan_of history_of (layout_by plan_of shape states) (opening words slots (opening_accounts (layout_by plan_of shape states)))
  opens shape states words slots is words_is slots_is =
      let layout = layout_by plan_of shape states in
      let sources = map (word_of 0) shape.closed in
      let more : List ℕ = replicate (length shape.leaves) 0 ++ replicate (length shape.tasks) 1 in
      let turns : Rule plan_of history_of layout.plans layout.seats (opening (sources ++ more) slots (opening_accounts layout)) =
      opening_turns layout states sources more slots refl is.new (ap (map (word_of 0)) is.closed) slots_is in
      let long : length sources ≡ length layout.plans = length-map shape.closed (word_of 0) ∙ ap length is.closed ∙ length-map states starts_closed ∙ sym (length-map states plan_of) in
      let whole : Whole plan_of history_of layout (opening (sources ++ more) slots (opening_accounts layout)) = record {
        turns = turns;
        wide = omega (arith, length-append sources more, length-append {A = ℕ} (replicate (length shape.leaves) 0) (replicate (length shape.tasks) 1), length-replicate {A = ℕ} (length shape.leaves) 0, length-replicate {A = ℕ} (length shape.tasks) 1);
        bits = λ place beyond near. opening_bit sources (length shape.leaves) (length shape.tasks) place (omega (arith, long));
        armed = λ leaf near.
            let word : get_or (sources ++ more) (length layout.plans + leaf) 0 ≡ 0 =
            ap (λ (k : ℕ). get_or (sources ++ more) (k + leaf) 0) (sym long) ∙ opening_bell sources (length shape.leaves) (length shape.tasks) leaf near in
            omega (arith, word);
        counts = λ task near.
            let holds = get_or-map (λ (poller : ℕ). no_hold) layout.pollers task 0 in
            let word : get_or (sources ++ more) (length layout.plans + length layout.leaves + task) 0 ≡ 1 =
            ap (λ (k : ℕ). get_or (sources ++ more) (k + length layout.leaves + task) 0) (sym long) ∙ opening_ready sources (length shape.leaves)
            (length shape.tasks) task near in
            let found = opening_total (found_of task) layout (λ number. ap (λ (h : Hold). h.found) holds) in
            let raised = opening_total (raised_of task) layout (λ number. ap (λ (h : Hold). h.raised) holds) in
            omega (arith, word, found, raised);
        watching = λ view index all account is_view is_account.
            let found = first_view layout view index all account is_view is_account in
            subst (IsWatching layout (sources ++ more) (opening_accounts layout ∷ []) turns.history) found.1.same (opening_watching layout (sources ++ more) (opening_accounts layout ∷ []) turns.history index);
      } in
      subst (λ (all : List ℕ). Whole plan_of history_of layout (opening all slots (opening_accounts layout))) (sym (words_is ∙ append_assoc sources (replicate (length shape.leaves) 0) (replicate (length shape.tasks) 1))) whole
