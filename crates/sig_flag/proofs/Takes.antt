-- A take keeps the told rule.
use Rattle.std.proofs.Common.{◌≡◌, ◌∙◌, ℕ, zero, suc, ◌+◌, ◌<◌, inl, inr, List, [], ◌∷◌, length, get_or, slice_index_or, set, true, false, Option, None, Some, refl, sym, ap, subst, arith}
use Rattle.std.proofs.lemmas.List.{get_or-set_other, length-set}
use mathlib.Core.Option as slot
use mathlib.Core.Option.{some-injective, some-ne-none}
use lib.ListN.{get_elem?}
use Rattle.std.specs.Int.Bits.{bit_or}
use Rattle.atomic_table.specs.Table.{State, Allows, Act, Valid, step, stepped, carried_after, keeps, takes}
use Rattle.sig_flag.proofs.Fronts.{front_of_itself}
use Rattle.sig_flag.proofs.Shown.{IsSet, free_set, held_set}
use Rattle.sig_flag.proofs.Keeping.{Whole, Keeps, balances_apart, arms_apart, keeps_apart, still_watching, told_after}
use Rattle.sig_flag.proofs.Stepping.{Rule, Turned, Passes, stepped_rule, stays, known_here, known_else, put_same}
use Rattle.sig_flag.specs.Accounts.{account_of, known, plan_at, no_hold, no_watch, after_turn, after_held}
use Rattle.sig_flag.specs.Layouts.{Layout, leaf_at}
use Rattle.sig_flag.specs.Machines.{IsMet}
use Rattle.sig_flag.specs.Plays.{Seated, IsTaking}
use Rattle.sig_flag.specs.Turns.{IsHistory, IsKnown, IsTurn, IsState}
use Rattle.sig_flag.specs.Words.{free_word}
use Rattle.sig_flag.specs.declared.accounts.Account.{Account}
use Rattle.sig_flag.specs.declared.accounts.Hold.{Hold}
use Rattle.sig_flag.specs.declared.accounts.Knowledge.{Knowledge}
use Rattle.sig_flag.specs.declared.accounts.Watch.{Watch}
use Rattle.sig_hist.specs.Histories.{IsFront, own_entries, is_closed}
use Rattle.sig_hist.specs.Plain.{version_of}
use Rattle.sig_hist.specs.Ports.{put}
use Rattle.sig_hist.specs.Sources.{writers_of}
use Rattle.sig_hist.specs.declared.edits.Entry.{Entry}
use Rattle.sig_hist.specs.declared.plans.SourcePlan.{SourcePlan}

-- ---- slots

pub there : {X : Type 0} (xs : List (slot.Option X)) (at : ℕ) (x : X) → get_or xs at slot.none ≡ slot.some x → get_elem? xs at ≡ slot.some (slot.some x)
there [] at x is = absurd (some-ne-none x (sym is))
there (first ∷ xs) zero x is = ap slot.some is
there (first ∷ xs) (suc at) x is = there xs at x is

taken_out : {X : Type 0} (xs : List (slot.Option X)) (at : ℕ) → get_or (set xs at slot.none) at slot.none ≡ slot.none
taken_out [] at = refl
taken_out (first ∷ xs) zero = refl
taken_out (first ∷ xs) (suc at) = taken_out xs at

-- ---- turns

takes_turn : (number : ℕ) (history after : List Entry) (held : Option ℕ) → held ≡ None → after ≡ history → Passes number history held after (Some number)
takes_turn number history after held free is = record {
  goes_on = subst (IsFront history) (sym is) (front_of_itself history);
  others_own = λ other _. ap (own_entries other) is;
  others_keep = λ other _ holds. absurd (cc);
  others_only = λ other different holds. let same : other ≡ number = cc in absurd (different same);
}

met : {V : Type 0} (plan_of : V → SourcePlan) (history_of : V → List Entry) (number : ℕ) (plan : SourcePlan) (history : List Entry) (knowledge : Knowledge) (state : V) →
    IsKnown number plan history knowledge → IsState plan_of history_of plan history state → IsHistory plan history → IsMet plan_of history_of number knowledge state
met plan_of history_of number plan history knowledge state known is legal =
    let plan_is = known.of_plan in
    let history_is = is.of_history in
    record {
      of_plan = is.of_plan ∙ sym plan_is;
      of_history = rw (plan_is, history_is) legal;
      front = rw history_is known.front;
      count = rw history_is known.count;
      own = rw history_is known.own;
    }

module _ {V : Type 0} (plan_of : V → SourcePlan) (history_of : V → List Entry) (plans : List SourcePlan) (seats : ℕ) where
  turn_rule : (s : State (Option V) (List Account)) (told : Rule plan_of history_of plans seats s) (id source word : ℕ) (old : Account) (after : List Entry) → source < length plans → get_elem? s.views id ≡ slot.some (old ∷ []) →
      old.turn ≡ None → told.holder source ≡ None → after ≡ told.history source → word ≡ free_word (plan_at plans source) after + 1 →
      Turned plan_of history_of plans seats (record { words = set s.words source word; homes = set s.homes source slot.none; views = set s.views id (after_turn old source after ∷ []) }) (put told.history source after)
  turn_rule s told id source word old after within at no_turn free is word_is =
      let mine = told.accounts id 0 (old ∷ []) old at refl in
      let knows = mine.knows source within in
      let here = known_here old source (record (known old source) { seen = after; count = length after }) (omega (arith, mine.of_plans)) in
      stepped_rule plan_of history_of plans seats s told id source old (after_turn old source after) after (Some old.number) word (set s.homes source slot.none) within at
      (takes_turn old.number (told.history source) after (told.holder source) free is)
      (record {
        number = refl;
        of_plans = length-set old.knows source _;
        others = λ k. known_else old source k _;
        knows = rw here (record { of_plan = knows.of_plan; front = front_of_itself after; seen = omega arith; count = omega arith; own = rw is knows.own });
        turn_before = λ k other turn. let same : k ≡ source = cc in absurd (other same);
        turn_after = λ k _ turn. absurd (cc);
        has_turn = λ _. (refl, ap (λ (x : Knowledge). x.seen) here);
        only = λ _. refl;
      })
      (rw is (told.sources source within))
      (word_is, taken_out s.homes source)
      (λ k other. get_or-set_other s.homes source k slot.none slot.none other)
      (λ number holds. record {
        view = id;
        at = 0;
        all = old ∷ [];
        account = old;
        is_view = at;
        is_account = refl;
        of_number = (let same : old.number ≡ number = cc in same);
      })

  held_rule : (s : State (Option V) (List Account)) (told : Rule plan_of history_of plans seats s) (id source word found : ℕ) (old : Account) → source < length plans → get_elem? s.views id ≡ slot.some (old ∷ []) →
      word ≡ get_or s.words source 0 →
      Turned plan_of history_of plans seats (record { words = set s.words source word; homes = s.homes; views = set s.views id (after_held old source found ∷ []) }) (put told.history source (told.history source))
  held_rule s told id source word found old within at is =
      let mine = told.accounts id 0 (old ∷ []) old at refl in
      let held = told.holder source in
      let history = told.history source in
      stepped_rule plan_of history_of plans seats s told id source old (after_held old source found) history held word s.homes within at (stays old.number history held)
      (record {
        number = refl;
        of_plans = refl;
        others = λ k _. refl;
        knows = mine.knows source within;
        turn_before = λ k _ turn. turn;
        turn_after = λ k _ turn. turn;
        has_turn = λ turn. let has = mine.has_turn source turn in (has.1, has.2);
        only = mine.only source within;
      })
      (told.sources source within) (rw is (told.turns source within)) (λ k _. refl) (λ number. told.holders source number within)

module _ {V : Type 0} (plan_of : V → SourcePlan) (history_of : V → List Entry) (layout : Layout) where
  -- a step at a source's word that leaves its history, the leaves and what is owed as they were
  stays_whole : (s : State (Option V) (List Account)) (told : Whole plan_of history_of layout s) (id source word : ℕ) (old new : Account) (homes : List (slot.Option (Option V))) (history : List Entry) → source < length layout.plans → get_elem? s.views id ≡ slot.some (old ∷ []) →
      history ≡ told.turns.history source → new.number ≡ old.number → new.watches ≡ old.watches → new.holds ≡ old.holds → new.rings ≡ old.rings → new.tells ≡ old.tells →
      Turned plan_of history_of layout.plans layout.seats (record { words = set s.words source word; homes = homes; views = set s.views id (new ∷ []) }) (put told.turns.history source history) →
      Whole plan_of history_of layout (record { words = set s.words source word; homes = homes; views = set s.views id (new ∷ []) })
  stays_whole s told id source word old new homes history within at is number watches holds rings tells turned =
      let mine = told.watching id 0 (old ∷ []) old at refl in
      let later = put told.turns.history source history in
      let same = λ (k : ℕ). ap (λ (h : List Entry). put told.turns.history source h k) is ∙ put_same told.turns.history source k in
      let keep : (leaf : ℕ) → leaf < length layout.leaves → Keeps layout s.words (set s.words source word) s.views (set s.views id (new ∷ [])) told.turns.history later leaf =
      λ leaf here. keeps_apart plan_of history_of layout s told id old new at source word later leaf (λ same. absurd (omega arith)) (λ same. absurd (omega arith)) (λ owes. rw tells owes) (λ owes. rw rings owes)
      (inl (ap (λ (h : List Entry). version_of (record { plan = plan_at layout.plans (leaf_at layout.leaves leaf).source; history = h })) (same (leaf_at layout.leaves leaf).source))) in
      told_after plan_of history_of layout s told id old new at source word homes later (λ beyond. absurd (omega arith))
      (λ task near. balances_apart layout s.words source word old new task (λ same. absurd (omega arith))
      (ap (λ (all : List Hold). (slice_index_or all task no_hold).found) holds)
      (ap (λ (all : List Hold). (slice_index_or all task no_hold).raised) holds))
      (λ leaf near. arms_apart layout s.words source word old new leaf (λ same. absurd (omega arith)) (ap (λ (all : List Watch). (slice_index_or all leaf no_watch).arms) watches))
      turned (λ leaf here. inr (keep leaf here))
      (still_watching layout s.words (set s.words source word) s.views (set s.views id (new ∷ [])) told.turns.history later old new number watches holds keep mine)

  module _ (slots id : ℕ) (me : Seated V) (source : ℕ) where
    abbrev Taken : State (Option V) (List Account) → Type 0
    Taken s = (w : List Account) × (a : Act (Option V)) × Valid s.homes me.1 a × Whole plan_of history_of layout (stepped s source (bit_or (get_or s.words source 0) 1) id me.1 w a)
        × IsTaking plan_of history_of (step slots source 1 0 slot.none) me (get_or s.words source 0) (w, carried_after me.1 a)

    taken : (s : State (Option V) (List Account)) (told : Whole plan_of history_of layout s) (held : Option ℕ) → source < length layout.plans → get_elem? s.views id ≡ slot.some (account_of me.0 ∷ []) →
        (account_of me.0).turn ≡ None → told.turns.holder source ≡ held →
        IsTurn plan_of history_of (plan_at layout.plans source) (told.turns.history source) held (get_or s.words source 0) (get_or s.homes source slot.none) → Taken s
    taken s told None within at no_turn is turn =
        let old = account_of me.0 in
        let mine = told.turns.accounts id 0 (old ∷ []) old at refl in
        let state = turn.1.0 in
        let is_state = turn.1.2 in
        let plan = plan_at layout.plans source in
        let set_bit = subst (λ (w : ℕ). IsSet w (free_word plan (told.turns.history source) + 1) false) (sym turn.0) (free_set (length (told.turns.history source)) (is_closed (writers_of plan.allow) (told.turns.history source))) in (
          after_turn old source (history_of state) ∷ [],
          takes source (Some state),
          there s.homes source (Some state) turn.1.1,
          stays_whole s told id source _ old (after_turn old source (history_of state)) (set s.homes source slot.none) (history_of state) within at is_state.of_history refl refl refl refl refl
              (turn_rule plan_of history_of layout.plans layout.seats s told.turns id source _ old (history_of state) within at no_turn is is_state.of_history (set_bit.after ∙ ap (λ (h : List Entry). free_word plan h + 1) (sym is_state.of_history))),
          record {
            held = λ held. absurd (cc);
            turn = λ _. (state, met plan_of history_of old.number plan (told.turns.history source) (known old source) state (mine.knows source within) is_state (told.turns.sources source within), refl);
          },
        )
    taken s told (Some number) within at no_turn is turn =
        let old = account_of me.0 in
        let plan = plan_at layout.plans source in
        let word = get_or s.words source 0 in
        let set_bit = subst (λ (w : ℕ). IsSet w (free_word plan (told.turns.history source) + 1) true) (sym turn.0) (held_set (length (told.turns.history source)) (is_closed (writers_of plan.allow) (told.turns.history source))) in (
          after_held old source word ∷ [],
          keeps,
          tt,
          stays_whole s told id source _ old (after_held old source word) s.homes (told.turns.history source) within at refl refl refl refl refl refl
              (held_rule plan_of history_of layout.plans layout.seats s told.turns id source _ word old within at (set_bit.after ∙ sym turn.0)),
          record { held = λ _. refl; turn = λ free. absurd (cc) },
        )

    pub takings : source < length layout.plans → me.0 ≡ account_of me.0 ∷ [] → (account_of me.0).turn ≡ None →
        Allows (Whole plan_of history_of layout) slots id me source (λ word. bit_or word 1) (IsTaking plan_of history_of (step slots source 1 0 slot.none) me)
    takings within one no_turn s told long at short = taken s told (told.turns.holder source) within (at ∙ ap slot.some one) no_turn refl (told.turns.turns source within)
