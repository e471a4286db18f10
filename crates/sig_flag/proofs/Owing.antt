-- What seats have yet to do.
use Rattle.std.proofs.Common.{◌≡◌, ◌∙◌, ℕ, zero, suc, ◌+◌, ◌<◌, ◌≢◌, ◌==◌, ◌||◌, List, [], ◌∷◌, ◌++◌, length, set, cond, Bool, true, false, refl, sym, ap, subst, eq-eqb, ne_eqb, arith}
use Rattle.std.proofs.lemmas.Bool.{eqb-true, or_left, or_right}
use Rattle.std.proofs.lemmas.List.Folds.{list_any-append}
use mathlib.Core.Logic.{dite}
use mathlib.Core.Option as slot
use mathlib.Core.Option.{some-injective}
use native.Mathlib.Decide.{ℕ_discrete}
use lib.ListN.{get_elem?}
use Rattle.atomic_table.proofs.Lists.{set_here, set_else}
use Rattle.sig_flag.proofs.Views.{alone, within}
use Rattle.sig_flag.specs.Accounts.{leaves_on, struck}
use Rattle.sig_flag.specs.Layouts.{leaf_at}
use Rattle.sig_flag.specs.Told.{IsOwed}
use Rattle.sig_flag.specs.Turns.{IsThere}
use Rattle.sig_flag.specs.declared.accounts.Account.{Account}
use Rattle.sig_flag.specs.declared.shape.LeafPlan.{LeafPlan}
use Rattle.sig_hist.specs.Sources.{is_among}

-- ---- lists of numbers

pub among_front : (what : ℕ) (xs ys : List ℕ) → is_among what xs ≡ true → is_among what (xs ++ ys) ≡ true
among_front what xs ys is = list_any-append (λ (y : ℕ). y == what) xs ys ∙ or_left (is_among what xs) (is_among what ys) is

pub among_back : (what : ℕ) (xs ys : List ℕ) → is_among what ys ≡ true → is_among what (xs ++ ys) ≡ true
among_back what xs ys is = list_any-append (λ (y : ℕ). y == what) xs ys ∙ or_right (is_among what xs) (is_among what ys) is

pub among_one : (what : ℕ) → is_among what (what ∷ []) ≡ true
among_one what = or_left (what == what) false (eq-eqb what what refl)

among_later : (here before after : Bool) → (here || before) ≡ true → (before ≡ true → after ≡ true) → (here || after) ≡ true
among_later true before after is later = refl
among_later false before after is later = later is

-- what stands behind a number that is another stands in the list
struck_first : (what other first : ℕ) (others : List ℕ) (same : Bool) → (first == what) ≡ same → other ≢ what → is_among other (first ∷ others) ≡ true → (is_among other others ≡ true → is_among other (struck what others) ≡ true) →
    is_among other (cond same others (first ∷ struck what others)) ≡ true
struck_first what other first others true is different among later =
    let not_first : (first == other) ≡ false = ne_eqb first other (λ same. different (sym same ∙ eqb-true first what is)) in
    subst (λ (b : Bool). (b || is_among other others) ≡ true) not_first among
struck_first what other first others false is different among later = among_later (first == other) (is_among other others) (is_among other (struck what others)) among later

pub struck_keeps : (what other : ℕ) (all : List ℕ) → other ≢ what → is_among other all ≡ true → is_among other (struck what all) ≡ true
struck_keeps what other [] different among = among
struck_keeps what other (first ∷ others) different among = struck_first what other first others (first == what) refl different among (struck_keeps what other others different)

-- ---- leaves on a source

later_on : (same : Bool) (first what : ℕ) (others : List ℕ) → is_among what others ≡ true → is_among what (cond same (first ∷ others) others) ≡ true
later_on true first what others among = or_right (first == what) (is_among what others) among
later_on false first what others among = among

here_on : (same : Bool) → same ≡ true → (first : ℕ) (others : List ℕ) → is_among first (cond same (first ∷ others) others) ≡ true
here_on true is first others = or_left (first == first) (is_among first others) (eq-eqb first first refl)
here_on false is first others = absurd (cc)

pub on_source : (source first leaf : ℕ) (leaves : List LeafPlan) → leaf < length leaves → (leaf_at leaves leaf).source ≡ source → is_among (first + leaf) (leaves_on source leaves first) ≡ true
on_source source first leaf [] within is = absurd (omega arith)
on_source source first zero (this ∷ leaves) near is =
    let here : first + 0 ≡ first = omega arith in
    subst (λ (k : ℕ). is_among k (leaves_on source (this ∷ leaves) first) ≡ true) (sym here) (here_on (this.source == source) (eq-eqb this.source source is) first (leaves_on source leaves (suc first)))
on_source source first (suc leaf) (this ∷ leaves) within is =
    let there : first + suc leaf ≡ suc first + leaf = omega arith in
    let later = on_source source (suc first) leaf leaves (omega arith) is in
    rw there (later_on (this.source == source) first (suc first + leaf) (leaves_on source leaves (suc first)) later)

-- ---- what is owed after a step

module _ (owed : Account → List ℕ) (views : List (List Account)) (id : ℕ) (old new : Account) (what : ℕ) (at : get_elem? views id ≡ slot.some (old ∷ [])) where
  -- by the seat itself
  pub owed_now : is_among what (owed new) ≡ true → IsOwed owed (set views id (new ∷ [])) what
  owed_now owes = record { view = id; at = 0; all = new ∷ []; account = new; is_view = set_here views id (new ∷ []) (within views id (old ∷ []) at); is_account = refl; owes = owes }

  pub still_owed : (is_among what (owed old) ≡ true → is_among what (owed new) ≡ true) → IsOwed owed views what → IsOwed owed (set views id (new ∷ [])) what
  still_owed keeps was =
      dite (ℕ_discrete was.view id)
      (λ same.
      let all_is : (old ∷ []) ≡ was.all = some-injective (old ∷ []) was.all (sym at ∙ ap (get_elem? views) (sym same) ∙ was.is_view) in
      let one = alone old was.account was.at (subst (λ (l : List Account). get_elem? l was.at ≡ slot.some was.account) (sym all_is) was.is_account) in
      owed_now (keeps (subst (λ (a : Account). is_among what (owed a) ≡ true) (sym one.1) was.owes)))
      (λ other. record { view = was.view; at = was.at; all = was.all; account = was.account; is_view = set_else views id was.view (new ∷ []) other ∙ was.is_view; is_account = was.is_account; owes = was.owes })

-- ---- whose accounts are there

-- an account's number, as what it owes
abbrev pub numbers_of : Account → List ℕ
numbers_of account = account.number ∷ []

or_none : (test : Bool) → (test || false) ≡ true → test ≡ true
or_none true is = refl
or_none false is = is

pub there_owed : (views : List (List Account)) (number : ℕ) → IsThere views number → IsOwed numbers_of views number
there_owed views number was = record {
  view = was.view;
  at = was.at;
  all = was.all;
  account = was.account;
  is_view = was.is_view;
  is_account = was.is_account;
  owes = subst (λ (n : ℕ). is_among n (was.account.number ∷ []) ≡ true) was.of_number (among_one was.account.number);
}

pub is_there : (views : List (List Account)) (number : ℕ) → IsOwed numbers_of views number → IsThere views number
is_there views number was = record {
  view = was.view;
  at = was.at;
  all = was.all;
  account = was.account;
  is_view = was.is_view;
  is_account = was.is_account;
  of_number = eqb-true was.account.number number (or_none (was.account.number == number) was.owes);
}

pub still_there : (views : List (List Account)) (id : ℕ) (old new : Account) (number : ℕ) → get_elem? views id ≡ slot.some (old ∷ []) →
    new.number ≡ old.number → IsThere views number → IsThere (set views id (new ∷ [])) number
still_there views id old new number at same was =
    is_there (set views id (new ∷ [])) number (still_owed numbers_of views id old new number at (λ among. subst (λ (n : ℕ). is_among number (n ∷ []) ≡ true) (sym same) among) (there_owed views number was))
