-- The accounts of all seats come to one seat.
use Rattle.std.proofs.Common.{◌≡◌, ◌∙◌, ℕ, zero, suc, ◌+◌, ◌-◌, ◌≢◌, ◌==◌, ⊎_elim, List, [], ◌∷◌, ◌++◌, length, take, map, set, cond, Bool, true, Option, All, refl, sym, ap, subst, eq-eqb, ne_eqb, append_assoc, arith}
use Rattle.std.proofs.lemmas.List.{length_push, length-append, length-take, get_or_append_left, get_or_push, map-append}
use mathlib.Core.Logic.{dite}
use mathlib.Core.Option as slot
use native.Mathlib.Decide.{ℕ_discrete}
use mathlib.Core.Option.{some-injective, some-ne-none}
use lib.ListN.{get_elem?}
use Rattle.atomic_table.specs.Seated.{TableId}
use Rattle.atomic_table.specs.Table.{State, Joins}
use Rattle.atomic_table.specs.declared.shared.Seat.{Seat}
use Rattle.atomic_table.proofs.Lists.{at_set, set_here, set_else, at_longer}
use Rattle.sig_flag.proofs.Keeping.{Whole, rings_of, tells_of, moved}
use Rattle.sig_flag.proofs.Peels.{moved_account}
use Rattle.sig_flag.proofs.Owing.{numbers_of, there_owed, is_there}
use Rattle.sig_flag.proofs.Stepping.{Rule, Turned}
use Rattle.sig_flag.proofs.Totals.{total_join}
use Rattle.sig_flag.proofs.Views.{within}
use Rattle.sig_flag.specs.Closing.{Rests}
use Rattle.sig_flag.specs.Layouts.{Layout}
use Rattle.sig_flag.specs.Machines.{account}
use Rattle.sig_flag.specs.Plays.{with_others, no_account}
use Rattle.sig_flag.specs.Told.{IsOwed}
use Rattle.sig_flag.specs.Turns.{IsAccount}
use Rattle.sig_flag.specs.declared.accounts.Account.{Account}
use Rattle.sig_hist.specs.Sources.{is_among}
use Rattle.sig_hist.specs.declared.edits.Entry.{Entry}
use Rattle.sig_hist.specs.declared.plans.SourcePlan.{SourcePlan}

-- ---- the join

-- an element of two lists in a row
data IsAt {X : Type 0} (xs ys : List X) (at : ℕ) (x : X) : Type 0 where
  front : get_elem? xs at ≡ slot.some x → IsAt xs ys at x
  back : (k : ℕ) → at ≡ length xs + k → get_elem? ys k ≡ slot.some x → IsAt xs ys at x

later : {X : Type 0} (first : X) (xs ys : List X) (at : ℕ) (x : X) → IsAt xs ys at x → IsAt (first ∷ xs) ys (suc at) x
later first xs ys at x (front is) = front is
later first xs ys at x (back k at_is is) = back k (omega arith) is

is_at : {X : Type 0} (xs ys : List X) (at : ℕ) (x : X) → get_elem? (xs ++ ys) at ≡ slot.some x → IsAt xs ys at x
is_at [] ys at x is = back at (omega arith) is
is_at (first ∷ xs) ys zero x is = front is
is_at (first ∷ xs) ys (suc at) x is = later first xs ys at x (is_at xs ys at x is)

-- the view to which an account of the other seat goes
abbrev gone : ℕ → ℕ → ℕ → ℕ
gone other id view = cond (view == other) id view

gone_there : (other id view : ℕ) → view ≡ other → gone other id view ≡ id
gone_there other id view is = ap (λ (same : Bool). cond same id view) (eq-eqb view other is)

gone_not : (other id view : ℕ) → view ≢ other → gone other id view ≡ view
gone_not other id view differs = ap (λ (same : Bool). cond same id view) (ne_eqb view other differs)

-- a view after a join has both seats' accounts, or it is another seat's
data Lies (views : List (List Account)) (id other : ℕ) (both : List Account) (view : ℕ) (all : List Account) : Type 0 where
  at_both : view ≡ id → both ≡ all → Lies views id other both view all
  spent : no_account ≡ all → Lies views id other both view all
  elsewhere : view ≢ id → view ≢ other → get_elem? views view ≡ slot.some all → Lies views id other both view all

lies : (views : List (List Account)) (id other : ℕ) (both : List Account) (view : ℕ) (all : List Account) → get_elem? (set (set views id both) other no_account) view ≡ slot.some all → Lies views id other both view all
lies views id other both view all is = ⊎_elim
    (λ gone. spent gone.1)
    (λ kept. ⊎_elim (λ own. at_both own.0 own.1) (λ else. elsewhere else.0 kept.0 else.1) (at_set views id view both all kept.1))
    (at_set (set views id both) other view no_account all is)

at_back : {X : Type 0} (xs ys : List X) (at : ℕ) (x : X) → get_elem? ys at ≡ slot.some x → get_elem? (xs ++ ys) (length xs + at) ≡ slot.some x
at_back [] ys at x is = subst (λ (k : ℕ). get_elem? ys k ≡ slot.some x) (let same : at ≡ 0 + at = omega arith in same) is
at_back (first ∷ xs) ys at x is = subst (λ (k : ℕ). get_elem? (first ∷ xs ++ ys) k ≡ slot.some x)
    (let same : suc (length xs + at) ≡ suc (length xs) + at = omega arith in same) (at_back xs ys at x is)

-- what somebody has to do somebody has to do after the join
module _ (owed : Account → List ℕ) (views : List (List Account)) (id other : ℕ) (own others : List Account) (different : other ≢ id)
    (at_id : get_elem? views id ≡ slot.some own) (at_other : get_elem? views other ≡ slot.some others) where
  owed_there : (index what : ℕ) (account : Account) → get_elem? (others ++ own) index ≡ slot.some account → is_among what (owed account) ≡ true →
      IsOwed owed (set (set views id (others ++ own)) other no_account) what
  owed_there index what account is owes = record {
    view = id;
    at = index;
    all = others ++ own;
    account = account;
    is_view = set_else (set views id (others ++ own)) other id no_account (λ same. different (sym same)) ∙ set_here views id (others ++ own) (within views id own at_id);
    is_account = is;
    owes = owes;
  }

  gathered_owed : (what : ℕ) → IsOwed owed views what → IsOwed owed (set (set views id (others ++ own)) other no_account) what
  gathered_owed what was = dite (ℕ_discrete was.view id)
      (λ same.
      let all_is : own ≡ was.all = some-injective own was.all (sym at_id ∙ ap (get_elem? views) (sym same) ∙ was.is_view) in
      owed_there (length others + was.at) what was.account (at_back others own was.at was.account (subst (λ (l : List Account). get_elem? l was.at ≡ slot.some was.account) (sym all_is) was.is_account)) was.owes)
      (λ not_id. dite (ℕ_discrete was.view other)
      (λ same.
      let all_is : others ≡ was.all = some-injective others was.all (sym at_other ∙ ap (get_elem? views) (sym same) ∙ was.is_view) in
      owed_there was.at what was.account (at_longer others own was.at was.account (subst (λ (l : List Account). get_elem? l was.at ≡ slot.some was.account) (sym all_is) was.is_account)) was.owes)
      (λ not_other. record {
        view = was.view;
        at = was.at;
        all = was.all;
        account = was.account;
        is_view = set_else (set views id (others ++ own)) other was.view no_account not_other ∙ set_else views id was.view (others ++ own) not_id ∙ was.is_view;
        is_account = was.is_account;
        owes = was.owes;
      }))

module _ {V : Type 0} (plan_of : V → SourcePlan) (history_of : V → List Entry) (plans : List SourcePlan) (seats : ℕ) (s : State (Option V) (List Account)) (told : Rule plan_of history_of plans seats s) (id other : ℕ) (own others : List Account)
    (different : other ≢ id) (at_id : get_elem? s.views id ≡ slot.some own) (at_other : get_elem? s.views other ≡ slot.some others) where
  abbrev places : ℕ → ℕ
  places number = gone other id (told.place number)

  gathered_account : (view index : ℕ) (all : List Account) (account : Account) → Lies s.views id other (others ++ own) view all → get_elem? all index ≡ slot.some account → IsAccount plans seats told.history told.holder places view account
  gathered_account view index all account (at_both here is_all) is =
      let lay : IsAt others own index account = is_at others own index account (subst (λ (l : List Account). get_elem? l index ≡ slot.some account) (sym is_all) is) in
      elim lay [
        | front first ↦ let was = told.accounts other index others account at_other first in
            moved_account plans seats told.history told.holder told.place places other view account was (gone_there other id _ was.at_place ∙ sym here)
        | back k _ second ↦ let was = told.accounts id k own account at_id second in
            moved_account plans seats told.history told.holder told.place places id view account was
            (gone_not other id _ (λ same. different (sym same ∙ was.at_place)) ∙ was.at_place ∙ sym here)
      ]
  gathered_account view index all account (spent none) is = absurd (some-ne-none account (sym (subst (λ (l : List Account). get_elem? l index ≡ slot.some account) (sym none) is)))
  gathered_account view index all account (elsewhere not_id not_other is_all) is =
      let was = told.accounts view index all account is_all is in
      moved_account plans seats told.history told.holder told.place places view view account was (gone_not other id _ (λ same. not_other (sym was.at_place ∙ same)) ∙ was.at_place)

  -- accounts of the two seats have different numbers
  not_both : (k j : ℕ) (a b : Account) → get_elem? others k ≡ slot.some a → get_elem? own j ≡ slot.some b → a.number ≢ b.number
  not_both k j a b is_a is_b same =
      let first = told.accounts other k others a at_other is_a in
      let second = told.accounts id j own b at_id is_b in
      different (sym first.at_place ∙ ap told.place same ∙ second.at_place)

  apart_here : (one two : ℕ) (a b : Account) → IsAt others own one a → IsAt others own two b → a.number ≡ b.number → one ≡ two
  apart_here one two a b (front is_a) (front is_b) same = told.apart other one two others a b at_other is_a is_b same
  apart_here one two a b (front is_a) (back j _ is_b) same = absurd (not_both one j a b is_a is_b same)
  apart_here one two a b (back k _ is_a) (front is_b) same = absurd (not_both two k b a is_b is_a (sym same))
  apart_here one two a b (back k one_is is_a) (back j two_is is_b) same = let equal : k ≡ j = told.apart id k j own a b at_id is_a is_b same in omega arith

  gathered_apart : (view one two : ℕ) (all : List Account) (a b : Account) → Lies s.views id other (others ++ own) view all → get_elem? all one ≡ slot.some a → get_elem? all two ≡ slot.some b → a.number ≡ b.number → one ≡ two
  gathered_apart view one two all a b (at_both here is_all) is_one is_two same =
      let lay : (index : ℕ) (account : Account) → get_elem? all index ≡ slot.some account → IsAt others own index account =
      λ index account is. is_at others own index account (subst (λ (l : List Account). get_elem? l index ≡ slot.some account) (sym is_all) is) in
      apart_here one two a b (lay one a is_one) (lay two b is_two) same
  gathered_apart view one two all a b (spent none) is_one is_two same = absurd (some-ne-none a (sym (subst (λ (l : List Account). get_elem? l one ≡ slot.some a) (sym none) is_one)))
  gathered_apart view one two all a b (elsewhere _ _ is_all) is_one is_two same = told.apart view one two all a b is_all is_one is_two same

  gathered : Turned plan_of history_of plans seats (record { words = s.words; homes = s.homes; views = set (set s.views id (others ++ own)) other no_account }) told.history
  gathered = (
    record {
      history = told.history;
      holder = told.holder;
      place = places;
      wide = told.wide;
      sources = told.sources;
      turns = told.turns;
      holders = λ source number near holds. is_there (set (set s.views id (others ++ own)) other no_account) number
          (gathered_owed numbers_of s.views id other own others different at_id at_other number (there_owed s.views number (told.holders source number near holds)));
      accounts = λ view index all account is_view. gathered_account view index all account (lies s.views id other (others ++ own) view all is_view);
      apart = λ view one two all a b is_view. gathered_apart view one two all a b (lies s.views id other (others ++ own) view all is_view);
    },
    refl,
  )

module _ {V : Type 0} (plan_of : V → SourcePlan) (history_of : V → List Entry) (layout : Layout) where
  gathered_whole : (s : State (Option V) (List Account)) (told : Whole plan_of history_of layout s) (id other : ℕ) (own others : List Account) → other ≢ id → get_elem? s.views id ≡ slot.some own → get_elem? s.views other ≡ slot.some others →
      Whole plan_of history_of layout (record { words = s.words; homes = s.homes; views = set (set s.views id (others ++ own)) other no_account })
  gathered_whole s told id other own others different at_id at_other =
      let seen = set (set s.views id (others ++ own)) other no_account in
      moved plan_of history_of layout s told seen (gathered plan_of history_of layout.plans layout.seats s told.turns id other own others different at_id at_other)
      (λ f. total_join f s.views id other own others different at_id at_other)
      (λ what. gathered_owed rings_of s.views id other own others different at_id at_other what) (λ what. gathered_owed tells_of s.views id other own others different at_id at_other what)
      (λ view index all account is_view is_account. elim (lies s.views id other (others ++ own) view all is_view) [
        | at_both here is_all ↦ elim (is_at others own index account (subst (λ (l : List Account). get_elem? l index ≡ slot.some account) (sym is_all) is_account)) [
          | front first ↦ told.watching other index others account at_other first
          | back k _ second ↦ told.watching id k own account at_id second
        ]
        | spent none ↦ absurd (some-ne-none account (sym (subst (λ (l : List Account). get_elem? l index ≡ slot.some account) (sym none) is_account)))
        | elsewhere not_id not_other is_all ↦ told.watching view index all account is_all is_account
      ])

pub gathers : {V : Type 0} (plan_of : V → SourcePlan) (history_of : V → List Entry) (layout : Layout) (id : ℕ) (own : List Account) (other : ℕ) (others : List Account) →
    Joins (Whole plan_of history_of layout) id own other others (with_others own others) no_account
gathers plan_of history_of layout id own other others s told at_id different at_other =
    gathered_whole plan_of history_of layout s told id other own others different at_id (sym (set_else s.views id other (others ++ own) different) ∙ at_other)

-- ---- the loop

front_holds : {X : Type 0} (P : X → Type 0) (xs : List X) (x : X) → All P (xs ++ x ∷ []) → All P xs
front_holds P xs x holds = λ k d within. let longer = length_push xs x in subst P (get_or_append_left xs (x ∷ []) d k within) (holds k d (omega arith))

pub last_holds : {X : Type 0} (P : X → Type 0) (xs : List X) (x : X) → All P (xs ++ x ∷ []) → P x
last_holds P xs x holds = let longer = length_push xs x in subst P (get_or_push xs x x (length xs) refl) (holds (length xs) x (omega arith))

-- the accounts of these seats went to the first one, and those of the others are still to come
module _ {V : Type 0} (id : TableId) (all : List (Seat (Option V) (List Account))) (first : Seat (Option V) (List Account)) where
  pub record IsGathering (seats : List (Seat (Option V) (List Account))) (now : Seat (Option V) (List Account)) : Type 0 where
    pub same_table : now.table_id ≡ first.table_id
    pub rest : All (Rests id) seats
    pub accounts : map account seats ++ now.me.0 ≡ map account all ++ first.me.0

  pub last_rests : (seats fewer : List (Seat (Option V) (List Account))) (now seat : Seat (Option V) (List Account)) → IsGathering seats now → seats ≡ fewer ++ seat ∷ [] → Rests id seat
  last_rests seats fewer now seat is seats_are = last_holds (Rests id) fewer seat (subst (All (Rests id)) seats_are is.rest)

  pub gathered_more : (seats fewer : List (Seat (Option V) (List Account))) (now after seat : Seat (Option V) (List Account)) → IsGathering seats now → seats ≡ fewer ++ seat ∷ [] → after.table_id ≡ now.table_id →
      after.me ≡ (with_others now.me.0 seat.me.0, now.me.1) → IsGathering fewer after
  gathered_more seats fewer now after seat is seats_are table me_is =
      let seat_has = (last_rests seats fewer now seat is seats_are).has in
      record {
        same_table = table ∙ is.same_table;
        rest = front_holds (Rests id) fewer seat (subst (All (Rests id)) seats_are is.rest);
        accounts =
            ap (λ (m : List Account × List (ℕ × Option V)). map account fewer ++ m.0) me_is
            ∙ ap (λ (m : List Account × List (ℕ × Option V)). map account fewer ++ (m.0 ++ now.me.0)) seat_has
            ∙ sym (append_assoc (map account fewer) (account seat ∷ []) now.me.0)
            ∙ ap (λ (l : List Account). l ++ now.me.0) (sym (map-append account fewer (seat ∷ [])) ∙ ap (map account) (sym seats_are))
            ∙ is.accounts;
      }

-- the view of the last seat, to which the accounts of the others came
pub view_of_all : {V : Type 0} (id : TableId) (all fewer : List (Seat (Option V) (List Account))) (first : Seat (Option V) (List Account)) (view : List Account) → All (Rests id) all → all ≡ fewer ++ first ∷ [] →
    view ≡ map account fewer ++ first.me.0 → view ≡ map account all
view_of_all {V} id all fewer first view rest all_is view_is =
    let has = (last_holds (Rests id) fewer first (subst (All (Rests id)) all_is rest)).has in
    view_is ∙ ap (λ (m : List Account × List (ℕ × Option V)). map account fewer ++ m.0) has ∙ sym (map-append account fewer (first ∷ [])) ∙ ap (map account) (sym all_is)

pub none_left : {X : Type 0} (xs fewer : List X) → xs ≡ fewer ++ [] → fewer ≡ take (length xs - 1) xs → xs ≡ []
none_left [] fewer same rest = refl
none_left (x ∷ xs) fewer same rest =
    let long = length-append fewer [] in
    let short = length-take (length (x ∷ xs) - 1) (x ∷ xs) in
    absurd (omega (arith, ap length same, ap length rest))
