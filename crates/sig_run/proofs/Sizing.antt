-- No part of a view can get longer than its size says.
use Rattle.std.proofs.Common.{◌≡◌, ℕ, ◌+◌, ◌≤◌, nat_le, ◌<◌, List, length, drop, get_or, Bool, true, false, codes, decimal, None, refl, arith}
use Rattle.std.proofs.Math.Nat.{max-le}
use Rattle.std.proofs.lemmas.Bool.Decides.{nat_tests}
use Rattle.std.proofs.lemmas.List.{drop_more}
use Rattle.sig_expr.specs.Bounds.{map_bound, vec_bound}
use Rattle.sig_expr.specs.Shapes.{map_tree, sig_tree, vec_tree, view_tree}
use Rattle.sig_expr.specs.Trees.{MapTree, map_source, mapped_values, SigTree, cell, mapped_signal, deduped, switched, length_of, total_of, at_key, VecTree, vector, mapped, filtered, filtered_by, mapped_by, sorted, joined, flattened, picked, keys_in, values_in, SigTrees, no_signals, more_signals, VecTrees, no_lists, more_lists}
use Rattle.sig_expr.specs.declared.expressions.View.{View}
use Rattle.sig_expr.specs.declared.expressions.View.TheVariants.{Entries, Enumerate, Map, Signal, Vector}
use Rattle.sig_report.proofs.Views.{below_none, field_none, fields_none, or_none}
use Rattle.sig_script.specs.Paths.{here_unless}
use Rattle.sig_script.specs.Sizes.{is_short, map_size, sig_size, sigs_size, vec_size, vecs_size, view_size, views_size}
use Rattle.sig_script.specs.declared.types.ViewDef.{ViewDef}
use Rattle.sig_expr.specs.Lengths.{longest, sig_longest, sigs_longest, vec_longest, vecs_longest}

short_by : (bound : ℕ) (fits : Bool) → nat_le bound 65536 ≡ fits → here_unless fits ≡ None → bound ≤ 65536
short_by bound true is none = grind (arith, nat_tests)
short_by bound false is none = cc

short : (bound : ℕ) → is_short bound ≡ None → bound ≤ 65536
short bound none = short_by bound _ refl none

-- ---- sizes

module _ (cap : ℕ → ℕ) where
  short_map : (m : MapTree ℕ) → map_size cap m ≡ None → map_bound cap m ≤ 65536
  short_map (map_source source) none = short (cap source) none
  short_map (mapped_values f m) none = short (map_bound cap m) (or_none _ _ none).0

  mutual
    short_list : (e : VecTree ℕ) → vec_size cap e ≡ None → vec_longest cap e ≤ 65536
    short_list (vector source) none = short (cap source) (or_none _ _ none).0
    short_list (mapped f e) none = short_list e (below_none (codes "of") (vec_size cap e) (or_none _ _ none).1)
    short_list (filtered p e) none = short_list e (below_none (codes "of") (vec_size cap e) (or_none _ _ none).1)
    short_list (sorted f e) none = short_list e (below_none (codes "of") (vec_size cap e) (or_none _ _ none).1)
    short_list (filtered_by e bank) none = let each = fields_none (codes "of") (codes "filter_by") (vec_size cap e) (sigs_size cap 0 bank) (or_none _ _ none).1 in max-le (short_list e each.0) (short_signals 0 bank each.1)
    short_list (mapped_by e bank) none = let each = fields_none (codes "of") (codes "map_by") (vec_size cap e) (sigs_size cap 0 bank) (or_none _ _ none).1 in max-le (short_list e each.0) (short_signals 0 bank each.1)
    short_list (joined a b) none =
        let own = or_none _ _ none in
        let each = fields_none (codes "0") (codes "1") (vec_size cap a) (vec_size cap b) (below_none (codes "concat") _ own.1) in
        max-le (short (vec_bound cap (joined a b)) own.0) (max-le (short_list a each.0) (short_list b each.1))
    short_list (flattened e bank) none =
        let own = or_none _ _ none in
        let each = fields_none (codes "flatten") (codes "bank") (vec_size cap e) (vecs_size cap 0 bank) own.1 in
        max-le (short (vec_bound cap (flattened e bank)) own.0) (max-le (short_list e each.0) (short_lists 0 bank each.1))
    short_list (picked e bank) none = let each = fields_none (codes "pick") (codes "bank") (sig_size cap e) (vecs_size cap 0 bank) (or_none _ _ none).1 in max-le (short_signal e each.0) (short_lists 0 bank each.1)
    short_list (keys_in m) none = short (map_bound cap m) (or_none _ _ none).0
    short_list (values_in m) none = short (map_bound cap m) (or_none _ _ none).0

    short_signal : (e : SigTree ℕ) → sig_size cap e ≡ None → sig_longest cap e ≤ 65536
    short_signal (cell source) none = omega arith
    short_signal (mapped_signal f e) none = short_signal e (below_none (codes "of") (sig_size cap e) none)
    short_signal (deduped e) none = short_signal e (below_none (codes "dedupe") (sig_size cap e) none)
    short_signal (switched e bank) none = let each = fields_none (codes "switch") (codes "bank") (sig_size cap e) (sigs_size cap 0 bank) none in max-le (short_signal e each.0) (short_signals 0 bank each.1)
    short_signal (length_of e) none = short_list e (below_none (codes "len") (vec_size cap e) none)
    short_signal (total_of e) none = short_list e (below_none (codes "sum") (vec_size cap e) none)
    short_signal (at_key key default m) none = short_map m (below_none (codes "of") (map_size cap m) none)

    short_signals : (place : ℕ) (bank : SigTrees ℕ) → sigs_size cap place bank ≡ None → sigs_longest cap bank ≤ 65536
    short_signals place no_signals none = omega arith
    short_signals place (more_signals e bank) none = let each = field_none (decimal place) (sig_size cap e) (sigs_size cap (place + 1) bank) none in max-le (short_signal e each.0) (short_signals (place + 1) bank each.1)

    short_lists : (place : ℕ) (bank : VecTrees ℕ) → vecs_size cap place bank ≡ None → vecs_longest cap bank ≤ 65536
    short_lists place no_lists none = omega arith
    short_lists place (more_lists e bank) none = let each = field_none (decimal place) (vec_size cap e) (vecs_size cap (place + 1) bank) none in max-le (short_list e each.0) (short_lists (place + 1) bank each.1)

  short_view : (shown : View) → view_size cap shown ≡ None → longest cap (view_tree shown) ≤ 65536
  short_view (Signal e) none = short_signal (sig_tree e) (below_none (codes "signal") (sig_size cap (sig_tree e)) none)
  short_view (Vector e) none = short_list (vec_tree e) (below_none (codes "vector") (vec_size cap (vec_tree e)) none)
  short_view (Map m) none = short_map (map_tree m) (below_none (codes "map") (map_size cap (map_tree m)) none)
  short_view (Entries m) none = short_map (map_tree m) (below_none (codes "entries") (map_size cap (map_tree m)) none)
  short_view (Enumerate e) none = short_list (vec_tree e) (below_none (codes "enumerate") (vec_size cap (vec_tree e)) none)

  pub next_short : (place : ℕ) (defs : List ViewDef) (default : ViewDef) → views_size cap place (drop place defs) ≡ None → place < length defs → longest cap (view_tree (get_or defs place default).view) ≤ 65536
  next_short place defs default none within =
      let first = rw (drop_more defs place default within) at none in
      short_view (get_or defs place default).view (below_none (decimal place) _ (or_none _ _ first).0)

  pub rest_sized : (place : ℕ) (defs : List ViewDef) (default : ViewDef) → views_size cap place (drop place defs) ≡ None → place < length defs → views_size cap (place + 1) (drop (place + 1) defs) ≡ None
  rest_sized place defs default none within =
      let first = rw (drop_more defs place default within) at none in
      (or_none _ _ first).1
