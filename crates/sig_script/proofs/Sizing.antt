-- A list's own bound comes before its parts, and a share's room before its signal.
use Rattle.std.proofs.Common.{◌≡◌, ℕ, List, Option, None, Some, codes, map, refl, ap}
use Rattle.std.specs.Option.{option_or}
use Rattle.sig_expr.specs.Trees.{VecTree, vector, mapped, filtered, filtered_by, mapped_by, sorted, joined, flattened, picked, keys_in, values_in}
use Rattle.sig_script.specs.Growths.{clipped}
use Rattle.sig_script.specs.Parts.{vec_parts}
use Rattle.sig_script.specs.Paths.{below}
use Rattle.sig_script.specs.Sizes.{own_size, shares_size, vec_size}
use Rattle.sig_script.specs.declared.types.ShareDef.{ShareDef}

below-or : (step : List ℕ) (first second : Option (List ℕ)) → below step (option_or first second) ≡ option_or (below step first) (below step second)
below-or step None second = refl
below-or step (Some path) second = refl

pub own_first : (cap : ℕ → ℕ) (e : VecTree ℕ) → vec_size cap e ≡ own_size cap e (vec_parts cap e)
own_first cap (vector source) = refl
own_first cap (mapped f e) = refl
own_first cap (filtered p e) = refl
own_first cap (filtered_by e bank) = refl
own_first cap (mapped_by e bank) = refl
own_first cap (sorted f e) = refl
own_first cap (joined a b) = ap (own_size cap (joined a b)) (below-or (codes "concat") (below (codes "0") (vec_size cap a)) _)
own_first cap (flattened e bank) = refl
own_first cap (picked e bank) = refl
own_first cap (keys_in m) = refl
own_first cap (values_in m) = refl

-- the rooms so far are clipped, and none before the place can get too big
pub record NoneTooBig (cap : ℕ → ℕ) (rooms : List ℕ) (place : ℕ) (left : List ShareDef) (all : Option (List ℕ)) : Type 0 where
  pub exact : List ℕ
  pub are_clipped : rooms ≡ map clipped exact
  pub go_on : shares_size cap exact place left ≡ all
