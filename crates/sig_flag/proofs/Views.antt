-- Where accounts lie in views.
use Rattle.std.proofs.Common.{◌≡◌, ℕ, zero, suc, ◌<◌, ◌≢◌, ◌⊎◌, ⊎_elim, inl, inr, List, [], ◌∷◌, length, set, refl, sym, subst, arith}
use mathlib.Core.Option as slot
use mathlib.Core.Option.{some-injective, some-ne-none}
use lib.ListN.{get_elem?}
use Rattle.atomic_table.proofs.Lists.{at_set}
use Rattle.sig_flag.specs.declared.accounts.Account.{Account}

pub within : {X : Type 0} (xs : List X) (at : ℕ) (x : X) → get_elem? xs at ≡ slot.some x → at < length xs
within [] at x is = absurd (some-ne-none x (sym is))
within (first ∷ xs) zero x is = omega arith
within (first ∷ xs) (suc at) x is = let later = within xs at x is in omega arith

pub alone : (account found : Account) (at : ℕ) → get_elem? (account ∷ []) at ≡ slot.some found → (at ≡ 0) × (account ≡ found)
alone account found zero is = (refl, some-injective account found is)
alone account found (suc at) is = absurd (some-ne-none found (sym is))

-- an account of the views after a step is the seat's own, or lies where it lay
pub found : (views : List (List Account)) (id : ℕ) (new : Account) (view at : ℕ) (all : List Account) (account : Account) →
    get_elem? (set views id (new ∷ [])) view ≡ slot.some all → get_elem? all at ≡ slot.some account →
    ((view ≡ id) × (at ≡ 0) × (new ≡ account)) ⊎ ((view ≢ id) × (get_elem? views view ≡ slot.some all))
found views id new view at all account is_view is_account =
    ⊎_elim
    (λ same. let one = alone new account at (subst (λ (l : List Account). get_elem? l at ≡ slot.some account) (sym same.1) is_account) in inl (same.0, one.0, one.1))
    (λ other. inr other)
    (at_set views id view (new ∷ []) all is_view)
