-- Once all seats are back and none has a turn, each source's state is in its slot.
use Rattle.std.proofs.Common.{◌≡◌, ◌∙◌, ℕ, zero, suc, ◌+◌, ◌<◌, ◌≤◌, ◌≢◌, ◌==◌, ◌⊎◌, ⊎_elim, inl, inr, List, [], ◌∷◌, length, map, get_or, slice_index, sum_by, Bool, Option, None, Some, All, refl, sym, ap, subst, eq-eqb, ne_eqb, arith}
use Rattle.std.proofs.lemmas.List.{length-map, get_or-map}
use Rattle.std.proofs.lemmas.Option.{slice_get_within}
use mathlib.Core.Logic.{dite}
use mathlib.Core.Option as slot
use mathlib.Core.Option.{some-injective}
use native.Mathlib.Decide.{ℕ_discrete}
use lib.ListN.{get_elem?}
use Rattle.atomic_table.specs.Seated.{TableId}
use Rattle.atomic_table.specs.Table.{State, Final, Seen}
use Rattle.atomic_table.specs.declared.shared.Seat.{Seat}
use Rattle.sig_flag.proofs.Reaches.{reaches}
use Rattle.sig_flag.proofs.Keeping.{Whole, found_of, raised_of}
use Rattle.sig_flag.proofs.Stepping.{Rule}
use Rattle.sig_flag.proofs.Takes.{there}
use Rattle.sig_flag.proofs.Totals.{read_there, sum_by-map, total_alone, total_none}
use Rattle.sig_flag.specs.Accounts.{plan_at, watch, hold, opening_account, no_layout}
use Rattle.sig_flag.specs.Closing.{IsShut, AreCounted, AreHeard, AreTaken, AreReady, AreHome}
use Rattle.sig_flag.specs.Layouts.{Layout, IsLeafOf, leaf_at, no_leaf, ready_of, words_of}
use Rattle.sig_flag.specs.Machines.{account, HasNoTurn, OwesNothing, IsLast, IsEnd, IsHeard, IsReadyList}
use Rattle.sig_flag.specs.Told.{IsOwed, IsStirred, IsWatched, IsWatching, version_at, total}
use Rattle.sig_flag.specs.Turns.{IsTurn, IsState, IsAccount}
use Rattle.sig_flag.specs.declared.accounts.Account.{Account}
use Rattle.sig_hist.specs.declared.edits.Entry.{Entry}
use Rattle.sig_hist.specs.Plain.{version_of}
use Rattle.sig_hist.specs.Sources.{is_among}
use Rattle.sig_hist.specs.declared.plans.SourcePlan.{SourcePlan}
use Rattle.sig_hist.specs.declared.ports.Condition.{Condition}
use Rattle.sig_hist.specs.declared.ports.Condition.TheVariants.{Waiting}
use Rattle.sig_hist.specs.declared.ports.Version.{Version}

there_or : {X : Type 0} (xs : List X) (at : ℕ) (d : X) → at < length xs → get_elem? xs at ≡ slot.some (get_or xs at d)
there_or [] at d within = absurd (omega arith)
there_or (first ∷ xs) zero d within = refl
there_or (first ∷ xs) (suc at) d within = there_or xs at d (omega arith)

abbrev lone : Account
lone = opening_account no_layout 0

element : {X : Type 0} (xs : List X) (at : ℕ) → at < length xs → X
element [] at within = absurd (omega arith)
element (first ∷ xs) zero within = first
element (first ∷ xs) (suc at) within = element xs at (omega arith)

module _ {V : Type 0} (plan_of : V → SourcePlan) (history_of : V → List Entry) (plans : List SourcePlan) (seats : ℕ) (s : State (Option V) (List Account)) (told : Rule plan_of history_of plans seats s) where
  -- each account is one of the rule's, and each seat's number is one of theirs
  record AreAll (all : List (Seat (Option V) (List Account))) : Type 0 where
    accounts : (k : ℕ) (d : Seat (Option V) (List Account)) → k < length all → (view : ℕ) × IsAccount plans seats told.history told.holder told.place view (account (get_or all k d))
    covers : (number : ℕ) → number < seats → (k : ℕ) × (d : Seat (Option V) (List Account)) × (k < length all) × ((account (get_or all k d)).number ≡ number)

  no_holder : (all : List (Seat (Option V) (List Account))) → AreAll all → All HasNoTurn all → (source : ℕ) → source < length plans → (held : Option ℕ) → told.holder source ≡ held → held ≡ None
  no_holder all are rest source within None is = refl
  no_holder all are rest source within (Some number) is =
      let it = told.holders source number within is in
      let there = told.accounts it.view it.at it.all it.account it.is_view it.is_account in
      let who = are.covers number (subst (λ (n : ℕ). n < seats) it.of_number there.of_seat) in
      let index = who.0 in
      let its = (are.accounts index who.1 who.2).1 in
      let turn = its.only source within (is ∙ ap Some (sym who.3)) in
      let none = (rest index who.1 who.2).no_turn in
      absurd (cc)

  -- the state in a source's slot has the source's history
  home_history : (all : List (Seat (Option V) (List Account))) → AreAll all → All HasNoTurn all → (slots : List (Option V)) → ((k : ℕ) (found : Option V) → get_elem? s.homes k ≡ slot.some (slot.some found) → get_elem? slots k ≡ slot.some found) →
      (source : ℕ) → source < length plans → (state : V) → get_elem? slots source ≡ slot.some (Some state) → history_of state ≡ told.history source
  home_history all are rest slots home source within state found =
      let turn = subst (λ (held : Option ℕ). IsTurn plan_of history_of (plan_at plans source) (told.history source) held (get_or s.words source 0) (get_or s.homes source slot.none))
      (no_holder all are rest source within (told.holder source) refl) (told.turns source within) in
      let same : Some turn.1.0 ≡ Some state = some-injective (Some turn.1.0) (Some state) (sym (home source (Some turn.1.0) (there s.homes source (Some turn.1.0) turn.1.1)) ∙ found) in
      ap history_of (let is : state ≡ turn.1.0 = cc in is) ∙ turn.1.2.of_history

  last_of : (all : List (Seat (Option V) (List Account))) → AreAll all → (source : ℕ) → source < length plans → (state : V) → IsState plan_of history_of (plan_at plans source) (told.history source) state →
      IsLast plan_of history_of all source (plan_at plans source) state
  last_of all are source within state is =
      let history_is = is.of_history in
      record {
        of_plan = is.of_plan;
        of_history = rw history_is (told.sources source within);
        known = λ k d near. rw history_is ((are.accounts k d near).1.knows source within);
      }

  shut : (all : List (Seat (Option V) (List Account))) (slots : List (Option V)) → AreAll all → All HasNoTurn all → length slots ≡ length plans →
      ((k : ℕ) (found : Option V) → get_elem? s.homes k ≡ slot.some (slot.some found) → get_elem? slots k ≡ slot.some found) → IsShut plan_of history_of plans all slots
  shut all slots are rest counted home = record {
    counted = counted;
    each = λ source within.
        let turn = subst (λ (held : Option ℕ). IsTurn plan_of history_of (plan_at plans source) (told.history source) held (get_or s.words source 0) (get_or s.homes source slot.none))
        (no_holder all are rest source within (told.holder source) refl) (told.turns source within) in
        (turn.1.0, home source (Some turn.1.0) (there s.homes source (Some turn.1.0) turn.1.1), last_of all are source within turn.1.0 turn.1.2);
  }

module _ {V : Type 0} (plan_of : V → SourcePlan) (history_of : V → List Entry) (layout : Layout) where
  -- without seats
  pub shut_without : (all : List (Seat (Option V) (List Account))) (words : List ℕ) (slots : List (Option V)) → all ≡ [] → layout.seats ≤ length all → length slots ≡ length layout.plans → Final (Whole plan_of history_of layout) words slots →
      IsShut plan_of history_of layout.plans all slots
  shut_without all words slots none counted slots_counted final =
      let empty : length all ≡ 0 = ap length none in
      shut plan_of history_of layout.plans layout.seats final.0 final.1.turns all slots (record { accounts = λ k d within. absurd (omega arith); covers = λ number few. absurd (omega arith) }) (λ k d within. absurd (omega arith)) slots_counted final.4

  pub heard_without : (all : List (Seat (Option V) (List Account))) (words : List ℕ) (slots : List (Option V)) → all ≡ [] → AreHeard plan_of history_of layout all words slots
  heard_without all words slots none = record { each = λ _ _ _ _ _ _ k d near. absurd (omega (arith, ap length none)) }

  -- where there is no seat no view has an account
  nobody : (s : State (Option V) (List Account)) (told : Rule plan_of history_of layout.plans layout.seats s) → layout.seats ≡ 0 →
      (view : ℕ) (own : List Account) → get_elem? s.views view ≡ slot.some own → own ≡ []
  nobody s told none view [] is = refl
  nobody s told none view (account ∷ own) is = absurd (let few = (told.accounts view 0 (account ∷ own) account is refl).of_seat in omega (arith, none))

  all_there : (s : State (Option V) (List Account)) (told : Rule plan_of history_of layout.plans layout.seats s) (id : ℕ) (all : List (Seat (Option V) (List Account))) → get_elem? s.views id ≡ slot.some (map account all) → layout.seats ≤ length all →
      AreAll plan_of history_of layout.plans layout.seats s told all
  all_there s told id all at counted =
      let view = map account all in
      let long : length view ≡ length all = length-map all account in
      let none = opening_account no_layout 0 in
      let lies = λ (k : ℕ) (within : k < length all). there_or view k none (omega arith) in
      let its = λ (k : ℕ) (within : k < length all). told.accounts id k view (get_or view k none) at (lies k within) in
      record {
        accounts = λ k d within. (id, subst (IsAccount layout.plans layout.seats told.history told.holder told.place id) (get_or-map account all k d none within) (its k within));
        covers = λ number few.
            let number_at = λ (k : ℕ). (get_or view k none).number in
            let found = reaches layout.seats number_at (λ k first. (its k (omega arith)).of_seat)
            (λ k j first second same. told.apart id k j view _ _ at (lies k (omega arith)) (lies j (omega arith)) same) number few in
            let index : ℕ = found.0 in
            let before : index < layout.seats = found.1 in
            let within : index < length all = omega arith in
            let d = element all index within in
            let same = get_or-map account all index d none within in
            (index, d, within, ap (λ (x : Account). x.number) (sym same) ∙ found.2);
      }

  -- where all accounts are in one view, and none of them has such a thing to do, nobody has
  module _ (s : State (Option V) (List Account)) (told : Whole plan_of history_of layout s) (id : ℕ) (all : List (Seat (Option V) (List Account))) (at : get_elem? s.views id ≡ slot.some (map account all)) (counted : layout.seats ≤ length all) where
    in_view : (k : ℕ) → k < length all → get_elem? (map account all) k ≡ slot.some (get_or (map account all) k lone)
    in_view k within = there_or (map account all) k lone (omega (arith, length-map all account))

    -- an account of any view is one of these
    record IsCovered (view : ℕ) (found : Account) : Type 0 where
      index : ℕ
      default : Seat (Option V) (List Account)
      near : index < length all
      numbered : (get_or (map account all) index lone).number ≡ found.number
      here : view ≡ id

    covered : (view place : ℕ) (own : List Account) (found : Account) → get_elem? s.views view ≡ slot.some own →
        get_elem? own place ≡ slot.some found → IsCovered view found
    covered view place own found is_view is_account =
        let is = told.turns.accounts view place own found is_view is_account in
        let who = (all_there s told.turns id all at counted).covers found.number is.of_seat in
        let index = who.0 in
        let near = who.2 in
        let mine = told.turns.accounts id index (map account all) (get_or (map account all) index lone) at (in_view index near) in
        let numbered : (get_or (map account all) index lone).number ≡ found.number = ap (λ (a : Account). a.number)
        (get_or-map account all index who.1 lone near) ∙ who.3 in
        record { index = index; default = who.1; near = near; numbered = numbered; here = sym is.at_place ∙ ap told.turns.place (sym numbered) ∙ mine.at_place }

    -- each other view is empty
    others_empty : (view : ℕ) (own : List Account) → view ≢ id → get_elem? s.views view ≡ slot.some own → own ≡ []
    others_empty view [] other is_view = refl
    others_empty view (found ∷ own) other is_view = absurd (other (covered view 0 (found ∷ own) found is_view refl).here)

    none_owed : (owed : Account → List ℕ) (what : ℕ) → All (λ (seat : Seat (Option V) (List Account)). owed (account seat) ≡ []) all → IsOwed owed s.views what → ⊥
    none_owed owed what none was =
        let is = covered was.view was.at was.all was.account was.is_view was.is_account in
        let own = get_or (map account all) is.index lone in
        let all_is : map account all ≡ was.all = some-injective (map account all) was.all (sym at ∙ ap (get_elem? s.views) (sym is.here) ∙ was.is_view) in
        let lies : get_elem? (map account all) was.at ≡ slot.some was.account = subst (λ (l : List Account). get_elem? l was.at ≡ slot.some was.account) (sym all_is) was.is_account in
        let place : was.at ≡ is.index = told.turns.apart id was.at is.index (map account all) was.account own at lies (in_view is.index is.near) (sym is.numbered) in
        let found : was.account ≡ own = some-injective was.account own (sym lies ∙ ap (get_elem? (map account all)) place ∙ in_view is.index is.near) in
        let empty : owed was.account ≡ [] = ap owed (found ∙ get_or-map account all is.index is.default lone is.near) ∙ none is.index is.default is.near in
        absurd (let not = sym (ap (is_among what) empty) ∙ was.owes in cc)

    total_all : (f : Account → ℕ) → total f s.views ≡ sum_by (λ seat. f (account seat)) all
    total_all f = total_alone f s.views id (map account all) at others_empty ∙ sum_by-map f account all

    heard_at : (words : List ℕ) → s.words ≡ words → All OwesNothing all → (leaf tokens : ℕ) (version : Version) (condition : Condition) → leaf < length layout.leaves → (leaf_at layout.leaves leaf).task < length layout.pollers → condition ≡ Waiting version →
        IsWatched layout s.words s.views told.turns.history leaf tokens condition →
        (version_at layout s.words s.views told.turns.history leaf ≡ version) ⊎ ((get_elem? words (ready_of layout (leaf_at layout.leaves leaf).task) ≡ slot.some 1) ⊎ (0 < tokens))
    heard_at words words_are nothing leaf tokens version condition within has_task waits was =
        let task = (leaf_at layout.leaves leaf).task in
        let is_ready : IsStirred layout s.words s.views told.turns.history task → get_elem? words (ready_of layout task) ≡ slot.some 1 =
        λ stirred. ⊎_elim
        (λ ready. subst (λ (all : List ℕ). get_elem? all (ready_of layout task) ≡ slot.some 1) words_are (there_or s.words (ready_of layout task) 0 (omega (arith, told.wide)) ∙ ap slot.some ready))
        (λ owed. absurd (none_owed (λ (a : Account). a.tells) task (λ k d near. (nothing k d near).no_tell) owed))
        stirred in
        ⊎_elim
        (λ certain. ⊎_elim (λ same. inl same) (λ told'. ⊎_elim (λ owed. absurd (none_owed (λ (a : Account). a.rings) leaf (λ k d near. (nothing k d near).no_ring) owed)) (λ stirred. inr (inl (is_ready stirred))) told') certain.1)
        (λ token. inr (inr token))
        (subst (IsWatched layout s.words s.views told.turns.history leaf tokens) waits was)

  pub heard_with : (id : ℕ) (all : List (Seat (Option V) (List Account))) (view : List Account) (words : List ℕ) (slots : List (Option V)) → view ≡ map account all → layout.seats ≤ length all → All HasNoTurn all → length slots ≡ length layout.plans →
      All (IsLeafOf (length layout.plans) (length layout.pollers)) layout.leaves → Final (Seen (Whole plan_of history_of layout) id view) words slots → AreHeard plan_of history_of layout all words slots
  heard_with id all view words slots view_is counted rest slots_counted leaves final =
      let s = final.0 in
      let told : Whole plan_of history_of layout s = final.1.0 in
      let at = final.1.1 ∙ ap slot.some view_is in
      let there_all = all_there s told.turns id all at counted in
      record {
        each = λ nothing leaf version state within found k d near waits.
            let on = leaves leaf no_leaf within in
            let source = (leaf_at layout.leaves leaf).source in
            let mine = told.watching id k (map account all) (get_or (map account all) k lone) at (in_view s told id all at counted k near) in
            let same = get_or-map account all k d lone near in
            let watched = subst (IsWatching layout s.words s.views told.turns.history) same mine in
            let state_is = home_history plan_of history_of layout.plans layout.seats s told.turns all there_all rest slots final.4 source on.of_source state found in
            subst (λ (h : List Entry). (version_of (record { plan = plan_at layout.plans source; history = h }) ≡ version) ⊎ ((get_elem? words (ready_of layout (leaf_at layout.leaves leaf).task) ≡ slot.some 1) ⊎ (0 < (hold (account (get_or all k d)) (leaf_at layout.leaves leaf).task).tokens))) (sym state_is)
            (heard_at s told id all at counted words final.2 nothing leaf (hold (account (get_or all k d)) (leaf_at layout.leaves leaf).task).tokens version (watch (account (get_or all k d)) leaf).condition within on.of_task waits (watched.each leaf within));
      }

  -- what a task's word is, by the totals
  word_counted : (s : State (Option V) (List Account)) (told : Whole plan_of history_of layout s) (words : List ℕ) (task word found raised : ℕ) →
      s.words ≡ words → task < length layout.pollers →
      get_elem? words (ready_of layout task) ≡ slot.some word → total (found_of task) s.views ≡ found → total (raised_of task) s.views ≡ raised →
      word + found ≡ 1 + raised
  word_counted s told words task word found raised words_are within is found_is raised_is =
      let read : slice_index s.words (ready_of layout task) ≡ word = read_there s.words (ready_of layout task) 0 word (subst (λ (all : List ℕ). get_elem? all (ready_of layout task) ≡ slot.some word) (sym words_are) is) in
      omega (arith, told.counts task within, read, found_is, raised_is)

  pub counted_without : (all : List (Seat (Option V) (List Account))) (words : List ℕ) (slots : List (Option V)) → all ≡ [] →
      layout.seats ≤ length all → Final (Whole plan_of history_of layout) words slots → AreCounted layout all words
  counted_without all words slots none few final =
      let s = final.0 in
      let told : Whole plan_of history_of layout s = final.1 in
      let empty : (view : ℕ) (own : List Account) → get_elem? s.views view ≡ slot.some own → own ≡ [] = nobody s told.turns (omega (arith, ap length none)) in
      let sum_is : (f : Account → ℕ) → total f s.views ≡ sum_by (λ seat. f (account seat)) all =
      λ f. total_none f s.views empty ∙ ap (λ (seats : List (Seat (Option V) (List Account))). sum_by (λ seat. f (account seat)) seats) (sym none) in
      record { each = λ task word within is. word_counted s told words task word _ _ final.2 within is (sum_is (found_of task)) (sum_is (raised_of task)) }

  pub counted_with : (id : ℕ) (all : List (Seat (Option V) (List Account))) (view : List Account) (words : List ℕ) (slots : List (Option V)) →
      view ≡ map account all → layout.seats ≤ length all →
      Final (Seen (Whole plan_of history_of layout) id view) words slots → AreCounted layout all words
  counted_with id all view words slots view_is counted final =
      let s = final.0 in
      let told : Whole plan_of history_of layout s = final.1.0 in
      let at = final.1.1 ∙ ap slot.some view_is in
      record { each = λ task word within is. word_counted s told words task word _ _ final.2 within is (total_all s told id all at counted (found_of task)) (total_all s told id all at counted (raised_of task)) }

  -- all accounts came to one seat
  pub shut_with : (id : ℕ) (all : List (Seat (Option V) (List Account))) (view : List Account) (words : List ℕ) (slots : List (Option V)) → view ≡ map account all → layout.seats ≤ length all → All HasNoTurn all → length slots ≡ length layout.plans →
      Final (Seen (Whole plan_of history_of layout) id view) words slots → IsShut plan_of history_of layout.plans all slots
  shut_with id all view words slots view_is counted rest slots_counted final =
      shut plan_of history_of layout.plans layout.seats final.0 final.1.0.turns all slots (all_there final.0 final.1.0.turns id all (final.1.1 ∙ ap slot.some view_is) counted) rest slots_counted final.4

  pub home_of : (all : List (Seat (Option V) (List Account))) (slots : List (Option V)) → IsShut plan_of history_of layout.plans all slots → AreHome slots
  home_of all slots is = record { each = λ k within. let at = is.each k (omega (arith, is.counted)) in (at.0, at.1) }

  pub ends : (id : TableId) (all : List (Seat (Option V) (List Account))) (slots : List (Option V)) (count : ℕ) (states : List V) → IsShut plan_of history_of layout.plans all slots → count ≡ length slots → AreTaken slots count states →
      IsEnd plan_of history_of (record { id = id; layout = layout }) all states
  ends id all slots count states is counted taken = record {
    counted = taken.all ∙ counted ∙ is.counted;
    each = λ source state found.
        let near = slice_get_within states source state found in
        let at = is.each source (omega (arith, taken.all, is.counted)) in
        let same : Some at.0 ≡ Some state = some-injective (Some at.0) (Some state) (sym at.1 ∙ taken.each source state found) in
        subst (IsLast plan_of history_of all source (plan_at layout.plans source)) (let is_state : at.0 ≡ state = cc in is_state) at.2;
  }

  -- what is heard by the words is heard by the answers
  pub ends_heard : (all : List (Seat (Option V) (List Account))) (words : List ℕ) (slots : List (Option V)) (count : ℕ) (states : List V) (ready : List Bool) → All (IsLeafOf (length layout.plans) (length layout.pollers)) layout.leaves →
      AreHeard plan_of history_of layout all words slots → AreTaken slots count states → AreReady words (length layout.plans + length layout.leaves) (length layout.pollers) ready → IsHeard plan_of history_of layout all states ready
  ends_heard all words slots count states ready leaves heard taken are = record {
    each = λ nothing leaf version state within found k d near waits.
        let task = (leaf_at layout.leaves leaf).task in
        ⊎_elim
        (λ same. inl same)
        (λ told. inr (⊎_elim (λ one. inl (are.each task 1 (leaves leaf no_leaf within).of_task one)) (λ token. inr token) told))
        (heard.each nothing leaf version state within (taken.each (leaf_at layout.leaves leaf).source state found) k d near waits);
  }

-- the word is 1 where it was told as often as it was found told
told_once_more : (word found raised : ℕ) → word + found ≡ 1 + raised → (word == 1) ≡ (found == raised)
told_once_more word found raised is = dite (ℕ_discrete found raised)
    (λ same. eq-eqb word 1 (omega arith) ∙ sym (eq-eqb found raised same))
    (λ other. ne_eqb word 1 (λ one. other (omega arith)) ∙ sym (ne_eqb found raised other))

pub ends_ready : {V : Type 0} (layout : Layout) (all : List (Seat (Option V) (List Account))) (words : List ℕ) (ready : List Bool) →
    words_of layout ≤ length words → AreCounted layout all words →
    AreReady words (length layout.plans + length layout.leaves) (length layout.pollers) ready → IsReadyList layout all ready
ends_ready layout all words ready wide counted are = record {
  all = are.all;
  each = λ task within.
      let word : ℕ = get_or words (ready_of layout task) 0 in
      let is : get_elem? words (ready_of layout task) ≡ slot.some word = there_or words (ready_of layout task) 0 (omega arith) in
      are.each task word within is ∙ told_once_more word _ _ (counted.each task word within is);
}

-- the ready words stand behind those of the sources and the leaves
pub reads_ready : (layout : Layout) (words : List ℕ) (ready : List Bool) (sources leaves tasks : ℕ) → sources ≡ length layout.plans → leaves ≡ length layout.leaves → tasks ≡ length layout.pollers →
    AreReady words (sources + leaves) tasks ready → AreReady words (length layout.plans + length layout.leaves) (length layout.pollers) ready
reads_ready layout words ready sources leaves tasks plans_are leaves_are tasks_are are = rw (plans_are, leaves_are, tasks_are) at are
