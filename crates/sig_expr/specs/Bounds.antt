-- How long a list or a map can get, where each source has a cap.
use Rattle.std.specs.Prelude.{ℕ, ◌+◌, ◌*◌, ◌≤◌, max, List, get_or, length}
use Rattle.sig_diff.specs.Contents.{list_in, entries_in}
use Rattle.sig_diff.specs.declared.contents.Content.{Content}
use Rattle.sig_expr.specs.Evaluation.{entries_of, list_of}
use Rattle.sig_expr.specs.Trees.{MapTree, map_source, mapped_values, VecTree, vector, mapped, filtered, filtered_by, mapped_by, sorted, joined, flattened, picked, keys_in, values_in, VecTrees, no_lists, more_lists, ViewTree, signal_view, vector_view, map_view, entries_view, tagged_view}

module _ {L : Type 0} (cap : L → ℕ) where
  abbrev pub map_bound : MapTree L → ℕ
  map_bound (map_source l) = cap l
  map_bound (mapped_values f m) = map_bound m

  abbrev mutual
    pub vec_bound : VecTree L → ℕ
    vec_bound (vector l) = cap l
    vec_bound (mapped f e) = vec_bound e
    vec_bound (filtered p e) = vec_bound e
    vec_bound (filtered_by e bank) = vec_bound e
    vec_bound (mapped_by e bank) = vec_bound e
    vec_bound (sorted f e) = vec_bound e
    vec_bound (joined a b) = vec_bound a + vec_bound b
    vec_bound (flattened e bank) = vec_bound e * greatest_bound bank
    vec_bound (picked e bank) = greatest_bound bank
    vec_bound (keys_in m) = map_bound m
    vec_bound (values_in m) = map_bound m

    -- the greatest of a bank
    pub greatest_bound : VecTrees L → ℕ
    greatest_bound no_lists = 0
    greatest_bound (more_lists e bank) = max (vec_bound e) (greatest_bound bank)

  abbrev pub view_bound : ViewTree L → ℕ
  view_bound (signal_view e) = 1
  view_bound (vector_view e) = vec_bound e
  view_bound (map_view m) = map_bound m
  view_bound (entries_view m) = map_bound m
  view_bound (tagged_view e) = vec_bound e

-- the cap of a source, and 0 for a source that has none
abbrev pub cap_of : List ℕ → ℕ → ℕ
cap_of caps source = get_or caps source 0

-- ---- what is no longer than its bound

module _ {L : Type 0} (cap : L → ℕ) (s : L → Content) where
  -- what a leaf holds is no longer than its cap
  pub record IsWithinCap (leaf : L) : Type 0 where
    pub list : length (list_in (s leaf)) ≤ cap leaf
    pub entries : length (entries_in (s leaf)) ≤ cap leaf

  -- no list and no map is longer than its bound, whatever the expression
  pub record AreWithinBounds : Type 0 where
    pub lists : (e : VecTree L) → length (list_of s e) ≤ vec_bound cap e
    pub maps : (m : MapTree L) → length (entries_of s m) ≤ map_bound cap m
