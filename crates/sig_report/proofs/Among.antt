-- A test that all numbers of a list pass.
use Rattle.std.proofs.Common.{◌≡◌, ◌∙◌, ℕ, ◌==◌, List, [], ◌∷◌, Bool, true, false, ◌||◌, refl, sym, ap}
use Rattle.std.proofs.lemmas.Bool.{and_from, and_parts, eq-eqb, eqb-true}
use Rattle.std.specs.List.{list_all}
use Rattle.sig_hist.specs.Sources.{is_among}

or_true : (first : Bool) → (first || true) ≡ true
or_true true = refl
or_true false = refl

module _ (p : ℕ → Bool) where
  pub all_among : (xs : List ℕ) → ((x : ℕ) → is_among x xs ≡ true → p x ≡ true) → list_all p xs ≡ true
  all_among [] holds = refl
  all_among (x ∷ xs) holds =
      let first : (x == x) ≡ true = eq-eqb x x refl in
      and_from _ _ (holds x (rw first refl)) (all_among xs (λ y among. holds y (rw among (or_true (x == y)))))

  one_of : (first x : ℕ) (same among : Bool) → (first == x) ≡ same → (same || among) ≡ true → p first ≡ true → (among ≡ true → p x ≡ true) → p x ≡ true
  one_of first x true among is either passes others = ap p (sym (eqb-true first x is)) ∙ passes
  one_of first x false among is either passes others = others either

  pub each_among : (xs : List ℕ) (x : ℕ) → list_all p xs ≡ true → is_among x xs ≡ true → p x ≡ true
  each_among [] x all among = cc
  each_among (first ∷ xs) x all among = let parts = and_parts (p first) (list_all p xs) all in one_of first x _ _ refl among parts.0 (each_among xs x parts.1)
