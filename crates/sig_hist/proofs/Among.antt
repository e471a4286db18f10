-- What holds of each number of a list holds of one that is among them.
use Rattle.std.proofs.Common.{◌≡◌, ◌∙◌, ℕ, List, [], ◌∷◌, Bool, true, false, ◌==◌, ◌||◌, refl, sym, ap}
use Rattle.std.proofs.lemmas.Bool.{and_parts, eqb-true}
use Rattle.std.specs.List.{list_all}
use Rattle.sig_hist.specs.Sources.{is_among}

module _ (p : ℕ → Bool) where
  one_of : (first x : ℕ) (same among : Bool) → (first == x) ≡ same → (same || among) ≡ true → p first ≡ true → (among ≡ true → p x ≡ true) → p x ≡ true
  one_of first x true among is either passes others = ap p (sym (eqb-true first x is)) ∙ passes
  one_of first x false among is either passes others = others either

  pub each_among : (xs : List ℕ) (x : ℕ) → list_all p xs ≡ true → is_among x xs ≡ true → p x ≡ true
  each_among [] x all among = cc
  each_among (first ∷ xs) x all among =
      let parts = and_parts (p first) (list_all p xs) all in one_of first x _ _ refl among parts.0 (each_among xs x parts.1)
