-- Numbers of accounts, added up over views.
use Rattle.std.proofs.Common.{◌≡◌, ◌∙◌, ℕ, zero, suc, ◌+◌, ◌≢◌, List, [], ◌∷◌, ◌++◌, map, set, get_or, sum_by, refl, sym, ap, subst, arith}
use Rattle.std.proofs.lemmas.List.Folds.{fold-map}
use Rattle.std.proofs.lemmas.List.Sums.{sum_by-append, sum_by-cons, sum_by-set, sum_by_push}
use mathlib.Core.Option as slot
use mathlib.Core.Option.{some-injective, some-ne-none}
use lib.ListN.{get_elem?}
use Rattle.atomic_table.proofs.Lists.{set_else}
use Rattle.sig_flag.proofs.Views.{within}
use Rattle.sig_flag.specs.Told.{total}
use Rattle.sig_flag.specs.declared.accounts.Account.{Account}

-- what is there is read
pub read_there : {X : Type 0} (xs : List X) (at : ℕ) (d x : X) → get_elem? xs at ≡ slot.some x → get_or xs at d ≡ x
read_there [] at d x is = absurd (some-ne-none x (sym is))
read_there (first ∷ xs) zero d x is = some-injective first x is
read_there (first ∷ xs) (suc at) d x is = read_there xs at d x is

pub sum_by-map : {X Y : Type 0} (f : Y → ℕ) (g : X → Y) (xs : List X) → sum_by f (map g xs) ≡ sum_by (λ x. f (g x)) xs
sum_by-map f g xs = fold-map (λ total y. total + f y) g 0 xs

module _ (f : Account → ℕ) where
  abbrev sum_of : List Account → ℕ
  sum_of accounts = sum_by f accounts

  sum_one : (account : Account) → sum_of (account ∷ []) ≡ f account
  sum_one account = let is = sum_by-cons f account [] in omega (arith, is)

  -- ---- one view

  -- where each other view is empty, a view's sum is the total
  pub total_none : (views : List (List Account)) → ((view : ℕ) (all : List Account) → get_elem? views view ≡ slot.some all → all ≡ []) → total f views ≡ 0
  total_none [] empty = refl
  total_none (first ∷ views) empty =
      let none = total_none views (λ view all is. empty (suc view) all is) in
      let here : sum_of first ≡ 0 = ap sum_of (empty 0 first refl) in
      let is = sum_by-cons sum_of first views in
      omega (arith, none, here, is)

  pub total_alone : (views : List (List Account)) (id : ℕ) (own : List Account) → get_elem? views id ≡ slot.some own →
      ((view : ℕ) (all : List Account) → view ≢ id → get_elem? views view ≡ slot.some all → all ≡ []) → total f views ≡ sum_by f own
  total_alone [] id own at empty = absurd (some-ne-none own (sym at))
  total_alone (first ∷ views) zero own at empty =
      let none = total_none views (λ view all is. empty (suc view) all (λ same. absurd (omega arith)) is) in
      let here : sum_of first ≡ sum_of own = ap sum_of (some-injective first own at) in
      let is = sum_by-cons sum_of first views in
      omega (arith, none, here, is)
  total_alone (first ∷ views) (suc id) own at empty =
      let later = total_alone views id own at (λ view all other is. empty (suc view) all (λ same. other (omega arith)) is) in
      let here : sum_of first ≡ 0 = ap sum_of (empty 0 first (λ same. absurd (omega arith)) refl) in
      let is = sum_by-cons sum_of first views in
      omega (arith, later, here, is)

  -- ---- a step, a split and a join

  total_set : (views : List (List Account)) (id : ℕ) (own after : List Account) → get_elem? views id ≡ slot.some own →
      total f (set views id after) + sum_of own ≡ total f views + sum_of after
  total_set views id own after at =
      subst (λ (all : List Account). total f (set views id after) + sum_of all ≡ total f views + sum_of after) (read_there views id [] own at)
      (sum_by-set sum_of views id after [] (within views id own at))

  pub total_step : (views : List (List Account)) (id : ℕ) (old new : Account) → get_elem? views id ≡ slot.some (old ∷ []) →
      total f (set views id (new ∷ [])) + f old ≡ total f views + f new
  total_step views id old new at = let is = total_set views id (old ∷ []) (new ∷ []) at in omega (arith, is, sum_one old, sum_one new)

  pub total_split : (views : List (List Account)) (id : ℕ) (first : Account) (others : List Account) →
      get_elem? views id ≡ slot.some (first ∷ others) → total f (set views id others ++ (first ∷ []) ∷ []) ≡ total f views
  total_split views id first others at =
      let is = total_set views id (first ∷ others) others at in
      omega (arith, is, sum_by-cons f first others, sum_one first, sum_by_push sum_of (set views id others) (first ∷ []))

  pub total_join : (views : List (List Account)) (id other : ℕ) (own others : List Account) → other ≢ id → get_elem? views id ≡ slot.some own →
      get_elem? views other ≡ slot.some others →
      total f (set (set views id (others ++ own)) other []) ≡ total f views
  total_join views id other own others different at_id at_other =
      let first = total_set views id own (others ++ own) at_id in
      let second = total_set (set views id (others ++ own)) other others [] (set_else views id other (others ++ own) different ∙ at_other) in
      omega (arith, first, second, sum_by-append f others own)
