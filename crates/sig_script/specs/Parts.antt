-- What of a list can get too big, part by part.
use Rattle.std.specs.Prelude.{ℕ, List, Option, None, codes}
use Rattle.std.specs.Option.{option_or}
use Rattle.sig_expr.specs.Trees.{VecTree, vector, mapped, filtered, filtered_by, mapped_by, sorted, joined, flattened, picked, keys_in, values_in}
use Rattle.sig_script.specs.Paths.{below}
use Rattle.sig_script.specs.Sizes.{map_size, sig_size, sigs_size, vec_size, vecs_size}

module _ (cap : ℕ → ℕ) where
  -- the parts of a list, without the list itself
  abbrev pub vec_parts : VecTree ℕ → Option (List ℕ)
  vec_parts (vector source) = None
  vec_parts (mapped f e) = below (codes "of") (vec_size cap e)
  vec_parts (filtered p e) = below (codes "of") (vec_size cap e)
  vec_parts (filtered_by e bank) = option_or (below (codes "of") (vec_size cap e)) (below (codes "filter_by") (sigs_size cap 0 bank))
  vec_parts (mapped_by e bank) = option_or (below (codes "of") (vec_size cap e)) (below (codes "map_by") (sigs_size cap 0 bank))
  vec_parts (sorted f e) = below (codes "of") (vec_size cap e)
  vec_parts (joined a b) = option_or (below (codes "concat") (below (codes "0") (vec_size cap a))) (below (codes "concat") (below (codes "1") (vec_size cap b)))
  vec_parts (flattened e bank) = option_or (below (codes "flatten") (vec_size cap e)) (below (codes "bank") (vecs_size cap 0 bank))
  vec_parts (picked e bank) = option_or (below (codes "pick") (sig_size cap e)) (below (codes "bank") (vecs_size cap 0 bank))
  vec_parts (keys_in m) = below (codes "keys") (map_size cap m)
  vec_parts (values_in m) = below (codes "values") (map_size cap m)
