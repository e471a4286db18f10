-- A seat for each account: the first account of a seat goes to a seat of its own.
use Rattle.std.proofs.Common.{◌≡◌, ◌∙◌, ℕ, zero, suc, ◌+◌, ◌-◌, ◌<◌, ◌≢◌, ◌⊎◌, ⊎_elim, inl, inr, List, [], ◌∷◌, ◌++◌, length, set, slice_get, true, Option, Some, refl, sym, ap, subst, arith}
use Rattle.std.proofs.lemmas.List.{length-set, length_push}
use mathlib.Core.Logic.{dite}
use mathlib.Core.Option as slot
use native.Mathlib.Decide.{ℕ_discrete}
use mathlib.Core.Option.{some-injective, some-ne-none}
use lib.ListN.{get_elem?}
use Rattle.atomic_table.specs.Seated.{TableId}
use Rattle.atomic_table.specs.Table.{State, Splits}
use Rattle.atomic_table.specs.declared.shared.Seat.{Seat}
use Rattle.atomic_table.proofs.Lists.{at_set, set_here, set_else, at_longer, at_last}
use Rattle.sig_flag.proofs.Keeping.{Whole, rings_of, tells_of, moved}
use Rattle.sig_flag.proofs.Owing.{numbers_of, there_owed, is_there}
use Rattle.sig_flag.proofs.Stepping.{Rule, Turned, put_here, put_else}
use Rattle.sig_flag.proofs.Totals.{total_split}
use Rattle.sig_flag.proofs.Views.{alone, within}
use Rattle.sig_flag.specs.Accounts.{accounts_from, opening_account}
use Rattle.sig_flag.specs.Layouts.{Layout}
use Rattle.sig_flag.specs.Machines.{Has}
use Rattle.sig_flag.specs.Plays.{IsLeft, AreDealt, first_alone, all_others}
use Rattle.sig_flag.specs.Told.{IsOwed, IsWatching}
use Rattle.sig_flag.specs.Turns.{IsAccount}
use Rattle.sig_flag.specs.declared.accounts.Account.{Account}
use Rattle.sig_hist.specs.Ports.{put}
use Rattle.sig_hist.specs.Sources.{is_among}
use Rattle.sig_hist.specs.declared.edits.Entry.{Entry}
use Rattle.sig_hist.specs.declared.plans.SourcePlan.{SourcePlan}

-- ---- the split

at_end : {X : Type 0} (xs : List X) (x y : X) (at : ℕ) → get_elem? (xs ++ x ∷ []) at ≡ slot.some y → (get_elem? xs at ≡ slot.some y) ⊎ ((at ≡ length xs) × (x ≡ y))
at_end [] x y zero is = inr (refl, some-injective x y is)
at_end [] x y (suc at) is = absurd (some-ne-none y (sym is))
at_end (first ∷ xs) x y zero is = inl is
at_end (first ∷ xs) x y (suc at) is = ⊎_elim (λ before. inl before) (λ last. inr (ap suc last.0, last.1)) (at_end xs x y at is)

pub moved_account : (plans : List SourcePlan) (seats : ℕ) (history : ℕ → List Entry) (holder : ℕ → Option ℕ) (place after : ℕ → ℕ) (view view_after : ℕ) (account : Account) →
    IsAccount plans seats history holder place view account → after account.number ≡ view_after → IsAccount plans seats history holder after view_after account
moved_account plans seats history holder place after view view_after account is at =
    record { at_place = at; of_seat = is.of_seat; of_plans = is.of_plans; knows = is.knows; has_turn = is.has_turn; only = is.only }

-- a view after a split is what is left, another seat's or the new one
data Lies (views : List (List Account)) (id : ℕ) (first : Account) (others : List Account) (view : ℕ) (all : List Account) : Type 0 where
  at_left : view ≡ id → others ≡ all → Lies views id first others view all
  elsewhere : view ≢ id → get_elem? views view ≡ slot.some all → Lies views id first others view all
  fresh : view ≡ length views → (first ∷ []) ≡ all → Lies views id first others view all

lies : (views : List (List Account)) (id : ℕ) (first : Account) (others : List Account) (view : ℕ) (all : List Account) → get_elem? (set views id others ++ (first ∷ []) ∷ []) view ≡ slot.some all → Lies views id first others view all
lies views id first others view all is = ⊎_elim
    (λ before. ⊎_elim (λ own. at_left own.0 own.1) (λ other. elsewhere other.0 other.1) (at_set views id view others all before))
    (λ last. fresh (last.0 ∙ length-set views id others) last.1)
    (at_end (set views id others) (first ∷ []) all view is)

-- what somebody has to do somebody has to do after the split
module _ (owed : Account → List ℕ) (views : List (List Account)) (id : ℕ) (first : Account) (others : List Account)
    (at : get_elem? views id ≡ slot.some (first ∷ others)) where
  owed_here : (index what : ℕ) (account : Account) → get_elem? (first ∷ others) index ≡ slot.some account → is_among what (owed account) ≡ true →
      IsOwed owed (set views id others ++ (first ∷ []) ∷ []) what
  owed_here zero what account is owes = record {
    view = length views;
    at = 0;
    all = first ∷ [];
    account = first;
    is_view = at_last (set views id others) (first ∷ []) (length views) (length-set views id others);
    is_account = refl;
    owes = subst (λ (a : Account). is_among what (owed a) ≡ true) (sym (some-injective first account is)) owes;
  }
  owed_here (suc index) what account is owes = record {
    view = id;
    at = index;
    all = others;
    account = account;
    is_view = at_longer (set views id others) ((first ∷ []) ∷ []) id others (set_here views id others (within views id (first ∷ others) at));
    is_account = is;
    owes = owes;
  }

  peeled_owed : (what : ℕ) → IsOwed owed views what → IsOwed owed (set views id others ++ (first ∷ []) ∷ []) what
  peeled_owed what was = dite (ℕ_discrete was.view id)
      (λ same.
      let all_is : (first ∷ others) ≡ was.all = some-injective (first ∷ others) was.all (sym at ∙ ap (get_elem? views) (sym same) ∙ was.is_view) in
      owed_here was.at what was.account (subst (λ (l : List Account). get_elem? l was.at ≡ slot.some was.account) (sym all_is) was.is_account) was.owes)
      (λ other. record {
        view = was.view;
        at = was.at;
        all = was.all;
        account = was.account;
        is_view = at_longer (set views id others) ((first ∷ []) ∷ []) was.view was.all (set_else views id was.view others other ∙ was.is_view);
        is_account = was.is_account;
        owes = was.owes;
      })

module _ {V : Type 0} (plan_of : V → SourcePlan) (history_of : V → List Entry) (plans : List SourcePlan) (seats : ℕ) (s : State (Option V) (List Account)) (told : Rule plan_of history_of plans seats s) (id : ℕ) (first : Account) (others : List Account)
    (at : get_elem? s.views id ≡ slot.some (first ∷ others)) where
  abbrev places : ℕ → ℕ
  places = put told.place first.number (length s.views)

  own : IsAccount plans seats told.history told.holder told.place id first
  own = told.accounts id 0 (first ∷ others) first at refl

  peeled_account : (view index : ℕ) (all : List Account) (account : Account) → Lies s.views id first others view all → get_elem? all index ≡ slot.some account → IsAccount plans seats told.history told.holder places view account
  peeled_account view index all account (at_left here is_all) is =
      let lay : get_elem? others index ≡ slot.some account = subst (λ (l : List Account). get_elem? l index ≡ slot.some account) (sym is_all) is in
      let was = told.accounts id (suc index) (first ∷ others) account at lay in
      moved_account plans seats told.history told.holder told.place places id view account was
      (put_else told.place first.number account.number (length s.views) (λ same. let equal : suc index ≡ 0 = told.apart id (suc index) 0 (first ∷ others) account first at lay refl same in omega arith) ∙ was.at_place ∙ sym here)
  peeled_account view index all account (elsewhere other is_all) is =
      let was = told.accounts view index all account is_all is in
      moved_account plans seats told.history told.holder told.place places view view account was
      (put_else told.place first.number account.number (length s.views) (λ same. other (sym was.at_place ∙ ap told.place same ∙ own.at_place)) ∙ was.at_place)
  peeled_account view index all account (fresh here is_all) is =
      let one = alone first account index (subst (λ (l : List Account). get_elem? l index ≡ slot.some account) (sym is_all) is) in
      subst (IsAccount plans seats told.history told.holder places view) one.1
      (moved_account plans seats told.history told.holder told.place places id view first own (put_here told.place first.number (length s.views) ∙ sym here))

  peeled_apart : (view one other : ℕ) (all : List Account) (a b : Account) → Lies s.views id first others view all → get_elem? all one ≡ slot.some a → get_elem? all other ≡ slot.some b → a.number ≡ b.number → one ≡ other
  peeled_apart view one other all a b (at_left here is_all) is_one is_other same =
      let lay : (index : ℕ) (account : Account) → get_elem? all index ≡ slot.some account → get_elem? (first ∷ others) (suc index) ≡ slot.some account =
      λ index account is. subst (λ (l : List Account). get_elem? l index ≡ slot.some account) (sym is_all) is in
      let equal : suc one ≡ suc other = told.apart id (suc one) (suc other) (first ∷ others) a b at (lay one a is_one) (lay other b is_other) same in omega arith
  peeled_apart view one other all a b (elsewhere _ is_all) is_one is_other same = told.apart view one other all a b is_all is_one is_other same
  peeled_apart view one other all a b (fresh here is_all) is_one is_other same =
      let lone : (index : ℕ) (account : Account) → get_elem? all index ≡ slot.some account → index ≡ 0 =
      λ index account is. (alone first account index (subst (λ (l : List Account). get_elem? l index ≡ slot.some account) (sym is_all) is)).0 in
      lone one a is_one ∙ sym (lone other b is_other)

  peeled : Turned plan_of history_of plans seats (record { words = s.words; homes = s.homes; views = set s.views id others ++ (first ∷ []) ∷ [] }) told.history
  peeled = (
    record {
      history = told.history;
      holder = told.holder;
      place = places;
      wide = told.wide;
      sources = told.sources;
      turns = told.turns;
      holders = λ source number near holds. is_there (set s.views id others ++ (first ∷ []) ∷ []) number (peeled_owed numbers_of s.views id first others at number (there_owed s.views number (told.holders source number near holds)));
      accounts = λ view index all account is_view. peeled_account view index all account (lies s.views id first others view all is_view);
      apart = λ view one other all a b is_view. peeled_apart view one other all a b (lies s.views id first others view all is_view);
    },
    refl,
  )

module _ {V : Type 0} (plan_of : V → SourcePlan) (history_of : V → List Entry) (layout : Layout) where
  peeled_whole : (s : State (Option V) (List Account)) (told : Whole plan_of history_of layout s) (id : ℕ) (first : Account) (others : List Account) → get_elem? s.views id ≡ slot.some (first ∷ others) →
      Whole plan_of history_of layout (record { words = s.words; homes = s.homes; views = set s.views id others ++ (first ∷ []) ∷ [] })
  peeled_whole s told id first others at =
      let seen = set s.views id others ++ (first ∷ []) ∷ [] in
      moved plan_of history_of layout s told seen (peeled plan_of history_of layout.plans layout.seats s told.turns id first others at)
      (λ f. total_split f s.views id first others at)
      (λ what. peeled_owed rings_of s.views id first others at what) (λ what. peeled_owed tells_of s.views id first others at what)
      (λ view index all account is_view is_account. elim (lies s.views id first others view all is_view) [
        | at_left here is_all ↦ told.watching id (suc index) (first ∷ others) account at (subst (λ (l : List Account). get_elem? l index ≡ slot.some account) (sym is_all) is_account)
        | elsewhere other is_all ↦ told.watching view index all account is_all is_account
        | fresh here is_all ↦ let one = alone first account index (subst (λ (l : List Account). get_elem? l index ≡ slot.some account) (sym is_all) is_account) in
            subst (IsWatching layout s.words s.views told.turns.history) one.1 (told.watching id 0 (first ∷ others) first at refl)
      ])

pub peels : {V : Type 0} (plan_of : V → SourcePlan) (history_of : V → List Entry) (layout : Layout) (id : ℕ) (view : List Account) (first : Account) (others : List Account) → view ≡ first ∷ others →
    Splits (Whole plan_of history_of layout) id view (all_others view) (first_alone view)
peels plan_of history_of layout id view first others is =
    subst (λ (v : List Account). Splits (Whole plan_of history_of layout) id v (all_others v) (first_alone v)) (sym is) (λ s told at. peeled_whole plan_of history_of layout s told id first others at)

-- ---- the loop

pub pushed_at : {X : Type 0} (xs : List X) (x y : X) (k : ℕ) → slice_get (xs ++ x ∷ []) k ≡ Some y → (slice_get xs k ≡ Some y) ⊎ ((k ≡ length xs) × (x ≡ y))
pushed_at [] x y zero is = inr (refl, cc)
pushed_at [] x y (suc k) is = absurd (cc)
pushed_at (first ∷ xs) x y zero is = inl is
pushed_at (first ∷ xs) x y (suc k) is = ⊎_elim (λ before. inl before) (λ last. inr (ap suc last.0, last.1)) (pushed_at xs x y k is)

module _ {V : Type 0} (id : TableId) (layout : Layout) (seats : ℕ) where
  -- so many seats are dealt, and the accounts of the others are left
  pub record IsDealing (number : ℕ) (first : Seat (Option V) (List Account)) (dealt : List (Seat (Option V) (List Account))) : Type 0 where
    pub others : ℕ
    pub counted : number + others ≡ seats
    pub left : IsLeft id layout number others first
    pub all : length dealt ≡ number
    pub each : AreDealt id layout dealt

  pub starts_dealing : (first : Seat (Option V) (List Account)) → IsLeft id layout 0 seats first → IsDealing 0 first []
  starts_dealing first left = record { others = seats; counted = omega arith; left = left; all = refl; each = record { each = λ k seat is. absurd (cc) } }

  -- the accounts that are left
  pub next_account : (number : ℕ) (first : Seat (Option V) (List Account)) (dealt : List (Seat (Option V) (List Account))) → IsDealing number first dealt → number < seats →
      (others : ℕ) × (number + suc others ≡ seats) × (first.me ≡ (opening_account layout number ∷ accounts_from layout (suc number) others, []))
  next_account number first dealt dealing more =
      let others : ℕ = dealing.others - 1 in
      let counted : number + dealing.others ≡ seats = dealing.counted in
      (others, omega arith, dealing.left.has ∙ ap (λ (n : ℕ). (accounts_from layout number n, [])) (let is : dealing.others ≡ suc others = omega arith in is))

  pub dealt_more : (number : ℕ) (first after new : Seat (Option V) (List Account)) (dealt longer : List (Seat (Option V) (List Account))) → IsDealing number first dealt → number < seats →
      after.table_id ≡ first.table_id → after.me ≡ (all_others first.me.0, first.me.1) → new.table_id ≡ first.table_id → new.me ≡ (first_alone first.me.0, []) → longer ≡ dealt ++ new ∷ [] → IsDealing (number + 1) after longer
  dealt_more number first after new dealt longer dealing more after_table after_is new_table new_is longer_is =
      let next = next_account number first dealt dealing more in
      let counted : number + suc next.0 ≡ seats = next.1 in
      let following : suc number ≡ number + 1 = omega arith in
      let dealt_new : (new.table_id ≡ id) × Has new (opening_account layout number) [] = (new_table ∙ dealing.left.at_table, new_is ∙ ap (λ (m : List Account × List (ℕ × Option V)). (first_alone m.0, [])) next.2) in
      record {
        others = next.0;
        counted = omega arith;
        left = record {
          at_table = after_table ∙ dealing.left.at_table;
          has = after_is ∙ ap (λ (m : List Account × List (ℕ × Option V)). (all_others m.0, m.1)) next.2 ∙ ap (λ (n : ℕ). (accounts_from layout n next.0, [])) following;
        };
        all = ap length longer_is ∙ length_push dealt new ∙ ap (λ (n : ℕ). n + 1) dealing.all;
        each = record {
          each = λ k seat is. ⊎_elim
              (λ before. dealing.each.each k seat before)
              (λ last. subst (λ (z : ℕ × Seat (Option V) (List Account)). (z.1.table_id ≡ id) × Has z.1 (opening_account layout z.0) []) (λ i. (sym (last.0 ∙ dealing.all) i, last.1 i)) dealt_new)
              (pushed_at dealt new seat k (subst (λ (all : List (Seat (Option V) (List Account))). slice_get all k ≡ Some seat) longer_is is));
        };
      }
