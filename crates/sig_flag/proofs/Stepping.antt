-- One step of a seat at one source keeps the told rule, where the seat's own account fits after it and the others may stay.
use Rattle.std.proofs.Common.{◌≡◌, ◌∙◌, ℕ, ◌<◌, ◌≤◌, ◌≢◌, List, [], ◌∷◌, length, get_or, set, cond, Bool, Option, Some, refl, sym, ap, subst, ⊎_elim, eq-eqb, ne_eqb, arith}
use Rattle.std.proofs.lemmas.List.{get_or-set_same, get_or-set_other, length-set}
use mathlib.Core.Logic.{dite}
use mathlib.Core.Option as slot
use native.Mathlib.Decide.{ℕ_discrete}
use lib.ListN.{get_elem?}
use Rattle.atomic_table.specs.Table.{State}
use Rattle.sig_flag.proofs.Fronts.{still_known, front_of_itself}
use Rattle.sig_flag.proofs.Owing.{still_there}
use Rattle.sig_flag.proofs.Views.{found}
use Rattle.sig_flag.specs.Accounts.{plan_at, known, knowing}
use Rattle.sig_flag.specs.Turns.{IsHistory, IsKnown, IsTurn, IsAccount, IsThere, HasTurns}
use Rattle.sig_flag.specs.declared.accounts.Account.{Account}
use Rattle.sig_flag.specs.declared.accounts.Knowledge.{Knowledge}
use Rattle.sig_hist.specs.Histories.{IsFront, own_entries}
use Rattle.sig_hist.specs.Ports.{put}
use Rattle.sig_hist.specs.declared.edits.Entry.{Entry}
use Rattle.sig_hist.specs.declared.plans.SourcePlan.{SourcePlan}

-- ---- functions that change at one number

pub put_here : {X : Type 0} (f : ℕ → X) (at : ℕ) (x : X) → put f at x at ≡ x
put_here f at x = ap (λ (same : Bool). cond same x (f at)) (eq-eqb at at refl)

pub put_else : {X : Type 0} (f : ℕ → X) (at k : ℕ) (x : X) → k ≢ at → put f at x k ≡ f k
put_else f at k x other = ap (λ (same : Bool). cond same x (f k)) (ne_eqb k at other)

-- what holds at the changed number, and at the others as before, holds at each
pub by_place : {X Y : Type 0} (P : ℕ → X → Y → Type 0) (f : ℕ → X) (g : ℕ → Y) (at : ℕ) (x : X) (y : Y) → P at x y → ((k : ℕ) → k ≢ at → P k (f k) (g k)) → (k : ℕ) → P k (put f at x k) (put g at y k)
by_place {X} {Y} P f g at x y here others k =
    dite (ℕ_discrete k at)
    (λ same. subst (λ (j : ℕ). P j (put f at x j) (put g at y j)) (sym same) (subst (λ (v : X). P at v (put g at y at)) (sym (put_here f at x)) (subst (P at x) (sym (put_here g at y)) here)))
    (λ other. subst (λ (v : X). P k v (put g at y k)) (sym (put_else f at k x other)) (subst (P k (f k)) (sym (put_else g at k y other)) (others k other)))

-- with the value that it has there, a function stays the same
pub put_same : {X : Type 0} (f : ℕ → X) (at k : ℕ) → put f at (f at) k ≡ f k
put_same f at k = by_place (λ k x _. x ≡ f k) f f at (f at) (f at) refl (λ k _. refl) k

-- ---- accounts

-- what the step of the seat with a number does to a source's history and its turn, as the other seats may see it
pub record Passes (number : ℕ) (history : List Entry) (held : Option ℕ) (after : List Entry) (held_after : Option ℕ) : Type 0 where
  pub goes_on : IsFront history after
  pub others_own : (other : ℕ) → other ≢ number → own_entries other after ≡ own_entries other history
  pub others_keep : (other : ℕ) → other ≢ number → held ≡ Some other → (held_after ≡ Some other) × (after ≡ history)
  pub others_only : (other : ℕ) → other ≢ number → held_after ≡ Some other → held ≡ Some other

-- nothing changes for the others
pub stays : (number : ℕ) (history : List Entry) (held : Option ℕ) → Passes number history held history held
stays number history held = record {
  goes_on = front_of_itself history;
  others_own = λ other _. refl;
  others_keep = λ other _ holds. (holds, refl);
  others_only = λ other _ holds. holds;
}

pub known_here : (account : Account) (source : ℕ) (knowledge : Knowledge) → source < length account.knows → known (knowing account source knowledge) source ≡ knowledge
known_here account source knowledge within = get_or-set_same account.knows source knowledge _ within

pub known_else : (account : Account) (source k : ℕ) (knowledge : Knowledge) → k ≢ source → known (knowing account source knowledge) k ≡ known account k
known_else account source k knowledge other = get_or-set_other account.knows source k knowledge _ other

module _ (plans : List SourcePlan) (seats : ℕ) (history : ℕ → List Entry) (holder : ℕ → Option ℕ) (place : ℕ → ℕ) (source : ℕ) (after : List Entry) (held : Option ℕ) where
  other_account : (number view : ℕ) (account : Account) → IsAccount plans seats history holder place view account → account.number ≢ number → Passes number (history source) (holder source) after held →
      IsAccount plans seats (put history source after) (put holder source held) place view account
  other_account number view account is other passes = record {
    at_place = is.at_place;
    of_seat = is.of_seat;
    of_plans = is.of_plans;
    knows = by_place (λ k entries _. k < length plans → IsKnown account.number (plan_at plans k) entries (known account k)) history holder source after held
        (λ near. still_known account.number (plan_at plans source) (history source) after (known account source) (is.knows source near) passes.goes_on (passes.others_own account.number other))
        (λ k _ near. is.knows k near);
    has_turn = by_place (λ k entries who. account.turn ≡ Some k → (k < length plans) × (who ≡ Some account.number) × ((known account k).seen ≡ entries)) history holder source after held
        (λ turn. let has = is.has_turn source turn in let kept = passes.others_keep account.number other has.1 in (has.0, kept.0, has.2 ∙ sym kept.1))
        (λ k _ turn. is.has_turn k turn);
    only = by_place (λ k _ who. k < length plans → who ≡ Some account.number → account.turn ≡ Some k) history holder source after held
        (λ near holds. is.only source near (passes.others_only account.number other holds))
        (λ k _ near holds. is.only k near holds);
  }

  -- the seat's own account: elsewhere it is as it was
  pub record Changes (old new : Account) : Type 0 where
    pub number : new.number ≡ old.number
    pub of_plans : length new.knows ≡ length old.knows
    pub others : (k : ℕ) → k ≢ source → known new k ≡ known old k
    pub knows : IsKnown old.number (plan_at plans source) after (known new source)
    pub turn_before : (k : ℕ) → k ≢ source → new.turn ≡ Some k → old.turn ≡ Some k
    pub turn_after : (k : ℕ) → k ≢ source → old.turn ≡ Some k → new.turn ≡ Some k
    pub has_turn : new.turn ≡ Some source → (held ≡ Some old.number) × ((known new source).seen ≡ after)
    pub only : held ≡ Some old.number → new.turn ≡ Some source

  own_account : (view : ℕ) (old new : Account) → source < length plans → IsAccount plans seats history holder place view old → Changes old new →
      IsAccount plans seats (put history source after) (put holder source held) place view new
  own_account view old new within is changes = record {
    at_place = ap place changes.number ∙ is.at_place;
    of_seat = subst (λ (n : ℕ). n < seats) (sym changes.number) is.of_seat;
    of_plans = changes.of_plans ∙ is.of_plans;
    knows = by_place (λ k entries _. k < length plans → IsKnown new.number (plan_at plans k) entries (known new k)) history holder source after held
        (λ _. rw changes.number changes.knows)
        (λ k other near. rw (changes.number, changes.others k other) (is.knows k near));
    has_turn = by_place (λ k entries who. new.turn ≡ Some k → (k < length plans) × (who ≡ Some new.number) × ((known new k).seen ≡ entries)) history holder source after held
        (λ turn. let has = changes.has_turn turn in (within, has.0 ∙ ap Some (sym changes.number), has.1))
        (λ k other turn. let has = is.has_turn k (changes.turn_before k other turn) in (has.0, has.1 ∙ ap Some (sym changes.number), ap (λ (x : _). x.seen) (changes.others k other) ∙ has.2));
    only = by_place (λ k _ who. k < length plans → who ≡ Some new.number → new.turn ≡ Some k) history holder source after held
        (λ _ holds. changes.only (holds ∙ ap Some changes.number))
        (λ k other near holds. changes.turn_after k other (is.only k near (holds ∙ ap Some changes.number)));
  }

-- ---- the rule

module _ {V : Type 0} (plan_of : V → SourcePlan) (history_of : V → List Entry) (plans : List SourcePlan) (seats : ℕ) where
  abbrev pub Rule : State (Option V) (List Account) → Type 0
  Rule = HasTurns plan_of history_of plans seats

  -- the rule, and the histories with which it holds
  abbrev pub Turned : State (Option V) (List Account) → (ℕ → List Entry) → Type 0
  Turned s history = (turns : Rule s) × (turns.history ≡ history)

  pub stepped_rule : (s : State (Option V) (List Account)) (told : Rule s) (id source : ℕ) (old new : Account) (after : List Entry) (held : Option ℕ) (word : ℕ) (homes : List (slot.Option (Option V))) →
      source < length plans → get_elem? s.views id ≡ slot.some (old ∷ []) →
      Passes old.number (told.history source) (told.holder source) after held → Changes plans seats told.history told.holder told.place source after held old new →
      IsHistory (plan_at plans source) after → IsTurn plan_of history_of (plan_at plans source) after held word (get_or homes source slot.none) →
      ((k : ℕ) → k ≢ source → get_or homes k slot.none ≡ get_or s.homes k slot.none) →
      ((number : ℕ) → held ≡ Some number → IsThere s.views number) →
      Turned (record { words = set s.words source word; homes = homes; views = set s.views id (new ∷ []) }) (put told.history source after)
  stepped_rule s told id source old new after held word homes within at passes changes legal turn other_homes holder_there =
      let mine = told.accounts id 0 (old ∷ []) old at refl in
      let histories = put told.history source after in
      let holders = put told.holder source held in
      let wide : source < length s.words = omega (arith, told.wide) in (
        record {
          history = histories;
          holder = holders;
          place = told.place;
          wide = omega (arith, told.wide, length-set {A = ℕ});
          sources = by_place (λ k entries _. k < length plans → IsHistory (plan_at plans k) entries) told.history told.holder source after held (λ _. legal) (λ k _ near. told.sources k near);
          turns = by_place (λ k entries who. k < length plans → IsTurn plan_of history_of (plan_at plans k) entries who (get_or (set s.words source word) k 0) (get_or homes k slot.none)) told.history told.holder source after held
              (λ _. subst (λ (w : ℕ). IsTurn plan_of history_of (plan_at plans source) after held w (get_or homes source slot.none)) (sym (get_or-set_same s.words source word 0 wide)) turn)
              (λ k other near. rw (get_or-set_other s.words source k word 0 other, other_homes k other) (told.turns k near));
          holders = λ k number near holds. still_there s.views id old new number at changes.number
              (by_place (λ k _ who. k < length plans → who ≡ Some number → IsThere s.views number) told.history told.holder source after held
              (λ _. holder_there number) (λ k _ near. told.holders k number near) k near holds);
          accounts = λ view at all account is_view is_account. ⊎_elim
              (λ own. subst (λ (z : ℕ × Account). IsAccount plans seats histories holders told.place z.0 z.1) (λ i. (sym own.0 i, own.2 i))
              (own_account plans seats told.history told.holder told.place source after held id old new within mine changes))
              (λ kept. let is = told.accounts view at all account kept.1 is_account in
              other_account plans seats told.history told.holder told.place source after held old.number view account is
              (λ same. kept.0 (sym is.at_place ∙ ap told.place same ∙ mine.at_place)) passes)
              (found s.views id new view at all account is_view is_account);
          apart = λ view one other all a b is_view is_one is_other same. ⊎_elim
              (λ first. ⊎_elim (λ second. first.1 ∙ sym second.1) (λ kept. absurd (kept.0 first.0)) (found s.views id new view other all b is_view is_other))
              (λ kept. told.apart view one other all a b kept.1 is_one is_other same)
              (found s.views id new view one all a is_view is_one);
        },
        refl,
      )

  -- the seat's own account, with all that the rule speaks of as it was
  same_account : (history : ℕ → List Entry) (holder : ℕ → Option ℕ) (place : ℕ → ℕ) (view : ℕ) (old new : Account) → new.number ≡ old.number → new.knows ≡ old.knows → new.turn ≡ old.turn →
      IsAccount plans seats history holder place view old → IsAccount plans seats history holder place view new
  same_account history holder place view old new number knows turn is = record {
    at_place = ap place number ∙ is.at_place;
    of_seat = rw number is.of_seat;
    of_plans = ap length knows ∙ is.of_plans;
    knows = λ source within. rw (number, knows) (is.knows source within);
    has_turn = λ source has. rw (number, knows) (is.has_turn source (sym turn ∙ has));
    only = λ source within holds. turn ∙ is.only source within (holds ∙ ap Some number);
  }

  -- a step at a word that is no source's
  pub aside_rule : (s : State (Option V) (List Account)) (told : Rule s) (id at_word word : ℕ) (old new : Account) → length plans ≤ at_word → get_elem? s.views id ≡ slot.some (old ∷ []) →
      new.number ≡ old.number → new.knows ≡ old.knows → new.turn ≡ old.turn → Turned (record { words = set s.words at_word word; homes = s.homes; views = set s.views id (new ∷ []) }) told.history
  aside_rule s told id at_word word old new beyond at number_is knows turn =
      let mine = told.accounts id 0 (old ∷ []) old at refl in (
        record {
          history = told.history;
          holder = told.holder;
          place = told.place;
          wide = omega (arith, told.wide, length-set {A = ℕ});
          sources = told.sources;
          turns = λ source within. rw (get_or-set_other s.words at_word source word 0 (λ same. absurd (omega arith))) (told.turns source within);
          holders = λ source number within holds. still_there s.views id old new number at number_is (told.holders source number within holds);
          accounts = λ view index all account is_view is_account. ⊎_elim
              (λ own. subst (λ (z : ℕ × Account). IsAccount plans seats told.history told.holder told.place z.0 z.1) (λ i. (sym own.0 i, own.2 i))
              (same_account told.history told.holder told.place id old new number_is knows turn mine))
              (λ kept. told.accounts view index all account kept.1 is_account)
              (found s.views id new view index all account is_view is_account);
          apart = λ view one other all a b is_view is_one is_other same. ⊎_elim
              (λ first. ⊎_elim (λ second. first.1 ∙ sym second.1) (λ kept. absurd (kept.0 first.0)) (found s.views id new view other all b is_view is_other))
              (λ kept. told.apart view one other all a b kept.1 is_one is_other same)
              (found s.views id new view one all a is_view is_one);
        },
        refl,
      )
