-- A leaf of a list in which each was changed.
use Rattle.std.proofs.Common.{◌≡◌, ℕ, zero, suc, List, [], ◌∷◌, map, get_or, refl, sym}
use Rattle.sig_hist.specs.Plain.{no_leaf}
use Rattle.sig_hist.specs.declared.bells.PlainLeaf.{PlainLeaf}

pub mapped : (f : PlainLeaf → PlainLeaf) → f no_leaf ≡ no_leaf → (leaves : List PlainLeaf) (leaf : ℕ) → get_or (map f leaves) leaf no_leaf ≡ f (get_or leaves leaf no_leaf)
mapped f none [] leaf = sym none
mapped f none (first ∷ leaves) zero = refl
mapped f none (first ∷ leaves) (suc leaf) = mapped f none leaves leaf
