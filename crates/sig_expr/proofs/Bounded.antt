-- A list or a map is never longer than its bound.
use Rattle.std.proofs.Common.{ℕ, zero, suc, ◌*◌, ◌≤◌, Bool, List, [], length, get_or, filter, zero-le, le_trans, add-le-add}
use Rattle.std.specs.List.{flat_map}
use Rattle.std.proofs.lemmas.List.{length-map, length-append}
use Rattle.std.proofs.lemmas.List.Concat.{length-flat_map}
use Rattle.std.proofs.lemmas.List.Sums.{sum_by-le, length-filter, count_by-le-length}
use Rattle.std.proofs.Math.Nat.{mul-le-mul_right, le-max_left, le-max_right}
use Rattle.sig_diff.specs.Sorting.{by_key}
use Rattle.sig_diff.specs.declared.contents.Content.{Content}
use Rattle.sig_diff.proofs.Sorting.{length_in_order}
use Rattle.sig_expr.specs.Functions.{image, passes}
use Rattle.sig_expr.specs.Bounds.{AreWithinBounds, IsWithinCap, map_bound, vec_bound, greatest_bound}
use Rattle.sig_diff.specs.Contents.{list_in, entries_in}
use Rattle.sig_diff.specs.Choosing.{is_let_in, raised_by, list_for}
use Rattle.sig_expr.specs.Evaluation.{entries_of, list_of, signals_of, lists_of}
use Rattle.sig_expr.specs.Trees.{MapTree, map_source, mapped_values, VecTree, vector, mapped, filtered, filtered_by, mapped_by, sorted, joined, flattened, picked, keys_in, values_in, VecTrees, no_lists, more_lists}
use Rattle.sig_diff.proofs.Keeping.{length_values_mapped}

-- a filter keeps at most all elements
pub length_filter_within : {X : Type 0} (test : X → Bool) (xs : List X) → length (filter test xs) ≤ length xs
length_filter_within test xs = rw (length-filter test xs) (count_by-le-length test xs)

-- blocks that are at most so long, at most so many of them
pub length_flat_map_within : {X Y : Type 0} (block : X → List Y) (xs : List X) (count bound : ℕ) → length xs ≤ count → ((x : X) → length (block x) ≤ bound) → length (flat_map block xs) ≤ count * bound
length_flat_map_within block xs count bound within each =
    rw (length-flat_map block xs) (le_trans (sum_by-le (λ x. length (block x)) bound xs (λ k default below. each (get_or xs k default))) (mul-le-mul_right bound within))

-- a map has at most as many entries as its bound, where the sources' maps have
pub map_within : {L : Type 0} (s : L → Content) (cap : L → ℕ) → ((l : L) → length (entries_in (s l)) ≤ cap l) → (m : MapTree L) → length (entries_of s m) ≤ map_bound cap m
map_within s cap entries (map_source l) = entries l
map_within s cap entries (mapped_values f m) = rw (length_values_mapped (image f) (entries_of s m)) (map_within s cap entries m)

module _ {L : Type 0} (s : L → Content) (cap : L → ℕ) (lists : (l : L) → length (list_in (s l)) ≤ cap l) (entries : (l : L) → length (entries_in (s l)) ≤ cap l) where
  mutual
    -- a list is at most as long as its bound, where the sources' lists and maps are
    pub list_within : (e : VecTree L) → length (list_of s e) ≤ vec_bound cap e
    list_within (vector l) = lists l
    list_within (mapped f e) = rw (length-map (list_of s e) (image f)) (list_within e)
    list_within (filtered p e) = le_trans (length_filter_within (passes p) (list_of s e)) (list_within e)
    list_within (filtered_by e bank) = le_trans (length_filter_within (is_let_in (signals_of s bank)) (list_of s e)) (list_within e)
    list_within (mapped_by e bank) = rw (length-map (list_of s e) (raised_by (signals_of s bank))) (list_within e)
    list_within (sorted f e) = rw (length_in_order (by_key (image f)) (list_of s e)) (list_within e)
    list_within (joined a b) = rw (length-append (list_of s a) (list_of s b)) (add-le-add (list_within a) (list_within b))
    list_within (flattened e bank) = length_flat_map_within (list_for (lists_of s bank)) (list_of s e) (vec_bound cap e) (greatest_bound cap bank) (list_within e) (λ x. part_within bank _)
    list_within (picked e bank) = part_within bank _
    list_within (keys_in m) = rw (length-map (entries_of s m) (λ entry. entry.0)) (map_within s cap entries m)
    list_within (values_in m) = rw (length-map (entries_of s m) (λ entry. entry.1)) (map_within s cap entries m)

    -- each list of a bank is at most as long as the greatest bound
    pub part_within : (bank : VecTrees L) (index : ℕ) → length (get_or (lists_of s bank) index []) ≤ greatest_bound cap bank
    part_within no_lists index = zero-le
    part_within (more_lists e bank) zero = le_trans (list_within e) (le-max_left (vec_bound cap e) (greatest_bound cap bank))
    part_within (more_lists e bank) (suc index) = le_trans (part_within bank index) (le-max_right (vec_bound cap e) (greatest_bound cap bank))

-- where each leaf holds no more than its cap, no list and no map is longer than its bound
pub within_bounds : {L : Type 0} (cap : L → ℕ) (s : L → Content) → ((leaf : L) → IsWithinCap cap s leaf) → AreWithinBounds cap s
within_bounds cap s within =
    record { lists = list_within s cap (λ leaf. (within leaf).list) (λ leaf. (within leaf).entries); maps = map_within s cap (λ leaf. (within leaf).entries) }
