-- Giving the turn back keeps the told rule.
use Rattle.std.proofs.Common.{◌≡◌, ◌∙◌, ℕ, ◌<◌, ◌≢◌, ◌==◌, ◌+◌, ◌⊎◌, ⊎_elim, inl, inr, cond, List, [], ◌∷◌, ◌++◌, length, set, Bool, true, false, Option, None, Some, refl, sym, ap, subst, ne_eqb, arith}
use Rattle.std.proofs.lemmas.Bool.{eqb-true}
use Rattle.std.proofs.lemmas.List.{get_or-set_same, get_or-set_other, length-set, length_push, take_at}
use mathlib.Core.Logic.{dite}
use mathlib.Core.Option as slot
use native.Mathlib.Decide.{ℕ_discrete}
use lib.ListN.{get_elem?}
use Rattle.atomic_table.specs.Table.{State, Allows, step, stepped, gives, rest}
use Rattle.sig_flag.proofs.Fronts.{front_of_itself}
use Rattle.sig_flag.proofs.Keeping.{Whole, Keeps, balances_apart, arms_apart, keeps_apart, still_watching, told_after}
use Rattle.sig_flag.proofs.Owing.{among_front, among_back, on_source}
use Rattle.sig_flag.proofs.Stepping.{Rule, Turned, Passes, stepped_rule, known_here, known_else, put_here, put_else}
use Rattle.sig_flag.specs.Accounts.{account_of, known, plan_at, after_give, leaves_on, rings_for}
use Rattle.sig_flag.specs.Layouts.{Layout, leaf_at}
use Rattle.sig_flag.specs.Machines.{MayGive, IsNext}
use Rattle.sig_flag.specs.Plays.{Seated, IsGiving}
use Rattle.sig_flag.specs.Told.{version_at}
use Rattle.sig_flag.specs.Turns.{IsHistory, LeavesLast}
use Rattle.sig_flag.specs.Words.{free_word, word_of}
use Rattle.sig_flag.specs.declared.accounts.Account.{Account}
use Rattle.sig_flag.specs.declared.shape.LeafPlan.{LeafPlan}
use Rattle.sig_hist.proofs.Entries.{own_entries_own, own_entries_other}
use Rattle.sig_hist.specs.Histories.{IsFront, own_entries, ends_with_leave, has_left, is_leave}
use Rattle.sig_hist.specs.Plain.{version_of}
use Rattle.sig_hist.specs.Ports.{put}
use Rattle.sig_hist.specs.Sources.{is_among}
use Rattle.sig_hist.specs.declared.edits.Entry.{Entry}
use Rattle.sig_hist.specs.declared.plans.SourcePlan.{SourcePlan}

-- ---- one entry more

ends_later : (first : Entry) (entries : List Entry) → LeavesLast (first ∷ entries) → ends_with_leave (first ∷ entries) ≡ false → (is_leave first.edit ≡ true → ⊥) × (ends_with_leave entries ≡ false)
ends_later first [] last stays = ((λ leaves. absurd (cc)), refl)
ends_later first (second ∷ entries) last stays = ((λ leaves. let none = last.0 leaves in absurd (cc)), stays)

leaves_more : (entries : List Entry) (entry : Entry) → LeavesLast entries → ends_with_leave entries ≡ false → LeavesLast (entries ++ entry ∷ [])
leaves_more [] entry last stays = ((λ _. refl), tt)
leaves_more (first ∷ entries) entry last stays = let later = ends_later first entries last stays in ((λ leaves. absurd (later.0 leaves)), leaves_more entries entry last.1 later.1)

-- a writer's entries after one more, which is its own or not
pub own_leaves : (writer : ℕ) (history : List Entry) (entry : Entry) (own : Bool) → (entry.caller == writer) ≡ own → LeavesLast (own_entries writer history) → (own ≡ true → has_left writer history ≡ false) →
    LeavesLast (own_entries writer (history ++ entry ∷ []))
own_leaves writer history entry true is last stays = rw (own_entries_own writer history entry is) (leaves_more (own_entries writer history) entry last (stays refl))
own_leaves writer history entry false is last stays = rw (own_entries_other writer history entry is) last

-- a history that the seat with a number may leave
record GoesOn (number : ℕ) (plan : SourcePlan) (history after : List Entry) : Type 0 where
  front : IsFront history after
  others_own : (other : ℕ) → other ≢ number → own_entries other after ≡ own_entries other history
  legal : IsHistory plan after

as_it_was : (number : ℕ) (plan : SourcePlan) (history after : List Entry) → IsHistory plan history → after ≡ history → GoesOn number plan history after
as_it_was number plan history after legal is = record {
  front = subst (IsFront history) (sym is) (front_of_itself history);
  others_own = λ other _. ap (own_entries other) is;
  legal = rw is legal;
}

one_more : {V : Type 0} (plan_of : V → SourcePlan) (history_of : V → List Entry) (number : ℕ) (plan : SourcePlan) (history after : List Entry) (entry : Entry) → IsHistory plan history → IsNext plan_of history_of number plan history entry after →
    GoesOn number plan history after
one_more plan_of history_of number plan history after entry legal next = record {
  front = rw next.last (take_at history (entry ∷ []) (length history) refl);
  others_own = λ other different. rw next.last (own_entries_other other history entry (ne_eqb entry.caller other (λ same. different (sym same ∙ next.of_caller))));
  legal = record {
    of_source = next.sound;
    leaves = λ writer. rw next.last (own_leaves writer history entry (entry.caller == writer) refl (legal.leaves writer)
        (λ own. subst (λ (n : ℕ). has_left n history ≡ false) (sym next.of_caller ∙ eqb-true entry.caller writer own) next.is_in.stays));
  };
}

gives_turn : (number : ℕ) (plan : SourcePlan) (history after : List Entry) (held : Option ℕ) → held ≡ Some number → GoesOn number plan history after → Passes number history held after None
gives_turn number plan history after held has goes_on = record {
  goes_on = goes_on.front;
  others_own = goes_on.others_own;
  others_keep = λ other different holds. let same : other ≡ number = cc in absurd (different same);
  others_only = λ other _ holds. absurd (cc);
}

module _ {V : Type 0} where
  last_state : List (ℕ × Option V) → Option V
  last_state [] = None
  last_state (x ∷ xs) = x.1

  same_state : (slots : List (ℕ × Option V)) (source : ℕ) (state other : V) → slots ≡ (source, Some state) ∷ [] → slots ≡ (source, Some other) ∷ [] → state ≡ other
  unfolding last_state
  same_state slots source state other is is' = let same : Some state ≡ Some other = ap last_state (sym is ∙ is') in cc

module _ {V : Type 0} (plan_of : V → SourcePlan) (history_of : V → List Entry) (plans : List SourcePlan) (seats : ℕ) where
  may_go : (number : ℕ) (plan : SourcePlan) (history seen after : List Entry) → IsHistory plan history → seen ≡ history →
      (after ≡ seen) ⊎ ((entry : Entry) × IsNext plan_of history_of number plan seen entry after) → GoesOn number plan history after
  may_go number plan history seen after legal is may = ⊎_elim
      (λ same. as_it_was number plan history after legal (same ∙ is))
      (λ more. one_more plan_of history_of number plan history after more.0 legal (subst (λ (h : List Entry). IsNext plan_of history_of number plan h more.0 after) is more.1))
      may

  give_rule : (leaves : List LeafPlan) (s : State (Option V) (List Account)) (told : Rule plan_of history_of plans seats s) (id source count : ℕ) (closed : Bool) (word : ℕ) (old : Account) (state : V) → source < length plans → source < length s.homes →
      get_elem? s.views id ≡ slot.some (old ∷ []) → old.turn ≡ Some source → MayGive plan_of history_of old source count closed state → word ≡ word_of count closed →
      Turned plan_of history_of plans seats (record { words = set s.words source word; homes = set s.homes source (slot.some (Some state)); views = set s.views id (after_give leaves old source (history_of state) ∷ []) }) (put told.history source (history_of state))
  give_rule leaves s told id source count closed word old state within has_slot at turn may is =
      let mine = told.accounts id 0 (old ∷ []) old at refl in
      let after = history_of state in
      let plan = plan_at plans source in
      let knows = mine.knows source within in
      let has = mine.has_turn source turn in
      let plan_is = knows.of_plan in
      let goes_on = may_go old.number plan (told.history source) (known old source).seen after (told.sources source within) has.2
      (subst (λ (p : SourcePlan). (after ≡ (known old source).seen) ⊎ ((entry : Entry) × IsNext plan_of history_of old.number p (known old source).seen entry after)) plan_is may.of_history) in
      let here = known_here old source (record (known old source) { seen = after; count = length after; own = own_entries old.number after }) (omega (arith, mine.of_plans)) in
      let shown : word_of count closed ≡ free_word plan after =
      (λ i. word_of (may.of_count i) (may.of_closed i)) ∙ ap (λ (p : SourcePlan). free_word p after) plan_is in
      stepped_rule plan_of history_of plans seats s told id source old (after_give leaves old source after) after None word (set s.homes source (slot.some (Some state))) within at
      (gives_turn old.number plan (told.history source) after (told.holder source) has.1 goes_on)
      (record {
        number = refl;
        of_plans = length-set old.knows source _;
        others = λ k. known_else old source k _;
        knows = rw here (record { of_plan = plan_is; front = front_of_itself after; seen = omega arith; count = omega arith; own = refl });
        turn_before = λ k _ none. absurd (cc);
        turn_after = λ k other had. let same : k ≡ source = cc in absurd (other same);
        has_turn = λ none. absurd (cc);
        only = λ none. absurd (cc);
      })
      goes_on.legal
      (is ∙ shown, (state, get_or-set_same s.homes source (slot.some (Some state)) slot.none has_slot, record { of_plan = may.of_plan ∙ plan_is; of_history = refl }))
      (λ k other. get_or-set_other s.homes source k (slot.some (Some state)) slot.none other)
      (λ number none. absurd (cc))

  -- the history is as it was where it is no longer
  same_history : (number : ℕ) (plan : SourcePlan) (seen after : List Entry) → (after ≡ seen) ⊎ ((entry : Entry) × IsNext plan_of history_of number plan seen entry after) → length after ≡ length seen → after ≡ seen
  same_history number plan seen after may long = ⊎_elim (λ same. same) (λ more. absurd (omega (arith, ap length more.1.last, length_push seen more.0))) may

module _ {V : Type 0} (plan_of : V → SourcePlan) (history_of : V → List Entry) (layout : Layout) where
  -- a leaf on the source sees what it saw, or its bell is to be rung
  same_or_owed : (history seen : List Entry) (rings : List ℕ) (leaves : List LeafPlan) (source leaf : ℕ) (same : Bool) → (same ≡ true → history ≡ seen) → leaf < length leaves → (leaf_at leaves leaf).source ≡ source →
      (history ≡ seen) ⊎ (is_among leaf (rings ++ cond same [] (leaves_on source leaves 0)) ≡ true)
  same_or_owed history seen rings leaves source leaf true is within on = inl (is refl)
  same_or_owed history seen rings leaves source leaf false is within on =
      let there : 0 + leaf ≡ leaf = omega arith in
      inr (among_back leaf rings (leaves_on source leaves 0) (subst (λ (k : ℕ). is_among k (leaves_on source leaves 0) ≡ true) there (on_source source 0 leaf leaves within on)))

  give_whole : (s : State (Option V) (List Account)) (told : Whole plan_of history_of layout s) (id source count : ℕ) (closed : Bool) (word : ℕ) (old : Account) (state : V) → source < length layout.plans → source < length s.homes →
      get_elem? s.views id ≡ slot.some (old ∷ []) → old.turn ≡ Some source → MayGive plan_of history_of old source count closed state → word ≡ word_of count closed →
      Whole plan_of history_of layout (record { words = set s.words source word; homes = set s.homes source (slot.some (Some state)); views = set s.views id (after_give layout.leaves old source (history_of state) ∷ []) })
  give_whole s told id source count closed word old state within has_slot at turn may is =
      let mine = told.watching id 0 (old ∷ []) old at refl in
      let had = (told.turns.accounts id 0 (old ∷ []) old at refl).has_turn source turn in
      let history = history_of state in
      let new = after_give layout.leaves old source history in
      let later = put told.turns.history source history in
      let after = set s.words source word in
      let views = set s.views id (new ∷ []) in
      let version_by = λ (leaf : ℕ) (h : List Entry). version_of (record { plan = plan_at layout.plans (leaf_at layout.leaves leaf).source; history = h }) in
      let unchanged : (length history == length (known old source).seen) ≡ true → history ≡ told.turns.history source =
      λ same. same_history plan_of history_of layout.plans layout.seats old.number (known old source).plan (known old source).seen history may.of_history (eqb-true (length history) (length (known old source).seen) same) ∙ had.2 in
      let version : (leaf : ℕ) → leaf < length layout.leaves → (version_at layout after views later leaf ≡ version_at layout s.words s.views told.turns.history leaf) ⊎ (is_among leaf new.rings ≡ true) =
      λ leaf here. dite (ℕ_discrete (leaf_at layout.leaves leaf).source source)
      (λ on. ⊎_elim
      (λ same. inl (ap (version_by leaf) (ap later on ∙ put_here told.turns.history source history ∙ same ∙ ap told.turns.history (sym on))))
      (λ owed. inr owed)
      (same_or_owed history (told.turns.history source) old.rings layout.leaves source leaf (length history == length (known old source).seen) unchanged here on))
      (λ other. inl (ap (version_by leaf) (put_else told.turns.history source (leaf_at layout.leaves leaf).source history other))) in
      let keep : (leaf : ℕ) → leaf < length layout.leaves → Keeps layout s.words after s.views views told.turns.history later leaf =
      λ leaf here. keeps_apart plan_of history_of layout s told id old new at source word later leaf (λ same. absurd (omega arith)) (λ same. absurd (omega arith)) (λ owes. owes)
      (λ owes. among_front leaf old.rings (rings_for layout.leaves old source history) owes) (version leaf here) in
      told_after plan_of history_of layout s told id old new at source word (set s.homes source (slot.some (Some state))) later (λ beyond. absurd (omega arith))
      (λ task near. balances_apart layout s.words source word old new task (λ same. absurd (omega arith)) refl refl)
      (λ leaf near. arms_apart layout s.words source word old new leaf (λ same. absurd (omega arith)) refl)
      (give_rule plan_of history_of layout.plans layout.seats layout.leaves s told.turns id source count closed word old state within has_slot at turn may is)
      (λ leaf here. inr (keep leaf here))
      (still_watching layout s.words after s.views views told.turns.history later old new refl refl refl keep mine)

  givings_here : (slots id : ℕ) (me : Seated V) (source count : ℕ) (closed : Bool) (word : ℕ) (state : V) → source < length layout.plans → source < slots → me.0 ≡ account_of me.0 ∷ [] →
      (turn : (account_of me.0).turn ≡ Some source) → me.1 ≡ (source, Some state) ∷ [] → MayGive plan_of history_of (account_of me.0) source count closed state → word ≡ word_of count closed →
      Allows (Whole plan_of history_of layout) slots id me source (λ _. word) (λ _. IsGiving plan_of history_of layout.leaves (step slots source word 0 slot.none) me word)
  givings_here slots id me source count closed word state within has_slot one turn slot_is may is s told long at short =
      let old = account_of me.0 in (
        after_give layout.leaves old source (history_of state) ∷ [],
        gives,
        tt,
        subst (λ (held : List (ℕ × Option V)). Whole plan_of history_of layout (stepped s source word id held (after_give layout.leaves old source (history_of state) ∷ []) gives)) (sym slot_is)
            (give_whole s told id source count closed word old state within (subst (λ (n : ℕ). source < n) (sym long) has_slot) (at ∙ ap slot.some one) turn may is),
        record { has = λ other is'. λ i. (after_give layout.leaves old source (history_of (same_state me.1 source state other slot_is is' i)) ∷ [], rest (slot_is i)) },
      )

  pub givings : (leaves : List LeafPlan) → layout.leaves ≡ leaves → (slots id : ℕ) (me : Seated V) (source count : ℕ) (closed : Bool) (word : ℕ) (state : V) → source < length layout.plans → source < slots → me.0 ≡ account_of me.0 ∷ [] →
      (turn : (account_of me.0).turn ≡ Some source) → me.1 ≡ (source, Some state) ∷ [] → MayGive plan_of history_of (account_of me.0) source count closed state → word ≡ word_of count closed →
      Allows (Whole plan_of history_of layout) slots id me source (λ _. word) (λ _. IsGiving plan_of history_of leaves (step slots source word 0 slot.none) me word)
  givings leaves same slots id me source count closed word state within has_slot one turn slot_is may is =
      subst (λ (all : List LeafPlan). Allows (Whole plan_of history_of layout) slots id me source (λ _. word) (λ _. IsGiving plan_of history_of all (step slots source word 0 slot.none) me word)) same
      (givings_here slots id me source count closed word state within has_slot one turn slot_is may is)
