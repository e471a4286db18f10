-- The first expression or share that can get too big.
use Rattle.std.specs.Prelude.{ℕ, ◌+◌, List, [], ◌∷◌, ◌++◌, nat_le, Option, None, codes, decimal}
use Rattle.std.specs.Option.{option_or}
use Rattle.sig_expr.specs.Bounds.{cap_of, map_bound, vec_bound}
use Rattle.sig_expr.specs.Shapes.{map_tree, sig_tree, vec_tree}
use Rattle.sig_expr.specs.Trees.{MapTree, map_source, mapped_values, SigTree, cell, mapped_signal, deduped, switched, length_of, total_of, at_key, VecTree, vector, mapped, filtered, filtered_by, mapped_by, sorted, joined, flattened, picked, keys_in, values_in, SigTrees, no_signals, more_signals, VecTrees, no_lists, more_lists}
use Rattle.sig_expr.specs.declared.expressions.SigExpr.{SigExpr}
use Rattle.sig_expr.specs.declared.expressions.View.{View}
use Rattle.sig_expr.specs.declared.expressions.View.TheVariants.{Signal, Vector, Map, Entries, Enumerate}
use Rattle.sig_script.specs.Paths.{below, here_unless}
use Rattle.sig_script.specs.Rooms.{caps_of, share_room, source_rooms}
use Rattle.sig_script.specs.declared.types.Script.{Script}
use Rattle.sig_script.specs.declared.types.ShareDef.{ShareDef}
use Rattle.sig_script.specs.declared.types.ViewDef.{ViewDef}

-- the longest list or map that an expression may show
abbrev pub is_short : ℕ → Option (List ℕ)
is_short bound = here_unless (nat_le bound 65536)

module _ (cap : ℕ → ℕ) where
  abbrev pub map_size : MapTree ℕ → Option (List ℕ)
  map_size (map_source source) = is_short (cap source)
  map_size (mapped_values f m) = option_or (is_short (map_bound cap m)) (below (codes "of") (map_size m))

  -- a list's own bound is looked at before its parts
  abbrev pub own_size : VecTree ℕ → Option (List ℕ) → Option (List ℕ)
  own_size e parts = option_or (is_short (vec_bound cap e)) parts

  abbrev mutual
    pub sig_size : SigTree ℕ → Option (List ℕ)
    sig_size (cell source) = None
    sig_size (mapped_signal f e) = below (codes "of") (sig_size e)
    sig_size (deduped e) = below (codes "dedupe") (sig_size e)
    sig_size (switched e bank) = option_or (below (codes "switch") (sig_size e)) (below (codes "bank") (sigs_size 0 bank))
    sig_size (length_of e) = below (codes "len") (vec_size e)
    sig_size (total_of e) = below (codes "sum") (vec_size e)
    sig_size (at_key key default m) = below (codes "of") (map_size m)

    pub vec_size : VecTree ℕ → Option (List ℕ)
    vec_size (vector source) = own_size (vector source) None
    vec_size (mapped f e) = own_size (mapped f e) (below (codes "of") (vec_size e))
    vec_size (filtered p e) = own_size (filtered p e) (below (codes "of") (vec_size e))
    vec_size (filtered_by e bank) = own_size (filtered_by e bank) (option_or (below (codes "of") (vec_size e)) (below (codes "filter_by") (sigs_size 0 bank)))
    vec_size (mapped_by e bank) = own_size (mapped_by e bank) (option_or (below (codes "of") (vec_size e)) (below (codes "map_by") (sigs_size 0 bank)))
    vec_size (sorted f e) = own_size (sorted f e) (below (codes "of") (vec_size e))
    vec_size (joined a b) = own_size (joined a b) (below (codes "concat") (option_or (below (codes "0") (vec_size a)) (below (codes "1") (vec_size b))))
    vec_size (flattened e bank) = own_size (flattened e bank) (option_or (below (codes "flatten") (vec_size e)) (below (codes "bank") (vecs_size 0 bank)))
    vec_size (picked e bank) = own_size (picked e bank) (option_or (below (codes "pick") (sig_size e)) (below (codes "bank") (vecs_size 0 bank)))
    vec_size (keys_in m) = own_size (keys_in m) (below (codes "keys") (map_size m))
    vec_size (values_in m) = own_size (values_in m) (below (codes "values") (map_size m))

    -- the members of a bank, the first of which stands at this place
    pub sigs_size : ℕ → SigTrees ℕ → Option (List ℕ)
    sigs_size place no_signals = None
    sigs_size place (more_signals e bank) = option_or (below (decimal place) (sig_size e)) (sigs_size (place + 1) bank)

    pub vecs_size : ℕ → VecTrees ℕ → Option (List ℕ)
    vecs_size place no_lists = None
    vecs_size place (more_lists e bank) = option_or (below (decimal place) (vec_size e)) (vecs_size (place + 1) bank)

  abbrev pub view_size : View → Option (List ℕ)
  view_size (Signal e) = below (codes "signal") (sig_size (sig_tree e))
  view_size (Vector e) = below (codes "vector") (vec_size (vec_tree e))
  view_size (Map m) = below (codes "map") (map_size (map_tree m))
  view_size (Entries m) = below (codes "entries") (map_size (map_tree m))
  view_size (Enumerate e) = below (codes "enumerate") (vec_size (vec_tree e))

  abbrev pub views_size : ℕ → List ViewDef → Option (List ℕ)
  views_size place [] = None
  views_size place (view ∷ views) = option_or (below (decimal place) (view_size view.view)) (views_size (place + 1) views)

  -- a share with a room
  abbrev pub share_size : ℕ → SigExpr → Option (List ℕ)
  share_size room signal = option_or (here_unless (nat_le room 1048576)) (below (codes "signal") (sig_size (sig_tree signal)))

  -- the shares, by the rooms of the sources before them
  abbrev pub shares_size : List ℕ → ℕ → List ShareDef → Option (List ℕ)
  shares_size rooms place [] = None
  shares_size rooms place (share ∷ shares) =
      let room = share_room rooms share.signal in
      option_or (below (decimal place) (share_size room share.signal)) (shares_size (rooms ++ room ∷ []) (place + 1) shares)

abbrev pub size_fault : Script → Option (List ℕ)
size_fault script =
    option_or (below (codes "shares") (shares_size (cap_of (caps_of script)) (source_rooms script.writers 0 script.sources) 0 script.shares))
    (below (codes "views") (views_size (cap_of (caps_of script)) 0 script.views))
