-- Where the blocks stand in the joined list, and what an edit of the elements does to it.
use Rattle.std.proofs.Common.{◌≡◌, ℕ, zero, suc, ◌+◌, ◌≤◌, List, [], ◌∷◌, ◌++◌, length, take, drop, insert, remove, slice_get, slice_set, Some, refl, ap, add-one, append_assoc, arith}
use Rattle.std.specs.List.{flat_map}
use Rattle.std.proofs.lemmas.List.{append-nil, length-append, take-append-drop, take_at, drop_at, take_all, take_more, set_split}
use Rattle.std.proofs.lemmas.List.Concat.{flat_map-append}
use Rattle.std.proofs.lemmas.Option.{slice_get_within, get_or_from_slice_get}
use Rattle.std.proofs.Math.Seq.{take-append-add}
use Rattle.sig_diff.specs.Blocks.{offset}

-- the element at a place begins the rest of the list
pub drop_from : {X : Type 0} (xs : List X) (at : ℕ) (x : X) → slice_get xs at ≡ Some x → drop at xs ≡ x ∷ drop (suc at) xs
drop_from [] at x found = cc
drop_from (y ∷ xs) zero x found = cc
drop_from (y ∷ xs) (suc at) x found = drop_from xs at x found

module _ {X T : Type 0} (block : X → List T) where
  split : (xs : List X) (at : ℕ) → flat_map block xs ≡ flat_map block (take at xs) ++ flat_map block (drop at xs)
  split xs at = rw (← (flat_map-append block (take at xs) (drop at xs)), take-append-drop) refl

  -- before the offset stand the blocks of the elements before the place
  pub take_offset : (xs : List X) (at : ℕ) → take (offset block xs at) (flat_map block xs) ≡ flat_map block (take at xs)
  take_offset xs at = rw (split xs at) (take_at (flat_map block (take at xs)) (flat_map block (drop at xs)) (offset block xs at) refl)

  -- from the offset on stand the blocks of the elements from the place on
  pub drop_offset : (xs : List X) (at : ℕ) → drop (offset block xs at) (flat_map block xs) ≡ flat_map block (drop at xs)
  drop_offset xs at = rw (split xs at) (drop_at (flat_map block (take at xs)) (flat_map block (drop at xs)) (offset block xs at) refl)

  -- an offset is within the joined list
  pub offset_within : (xs : List X) (at : ℕ) → offset block xs at ≤ length (flat_map block xs)
  offset_within xs at = omega (arith, ap length (split xs at), length-append (flat_map block (take at xs)) (flat_map block (drop at xs)))

  -- the offset past all elements is the end of the joined list
  pub offset_end : (xs : List X) → offset block xs (length xs) ≡ length (flat_map block xs)
  offset_end xs = rw (take_all (length xs) xs (omega arith)) refl

  -- behind other elements an offset is further by the length of their blocks
  pub offset_append : (xs ys : List X) (at : ℕ) → offset block (xs ++ ys) (length xs + at) ≡ length (flat_map block xs) + offset block ys at
  offset_append xs ys at = rw (take-append-add xs ys at, flat_map-append, length-append) refl

  -- the next offset is the end of the block
  pub offset_next : (xs : List X) (at : ℕ) (x : X) → slice_get xs at ≡ Some x → offset block xs (at + 1) ≡ offset block xs at + length (block x)
  offset_next xs at x found =
      rw (take_more xs at x (slice_get_within xs at x found), get_or_from_slice_get xs at x x found, flat_map-append, length-append, append-nil) refl

  -- from the end of the block on stand the blocks of the elements after the place
  pub drop_block : (xs : List X) (at : ℕ) (x : X) → slice_get xs at ≡ Some x → drop (offset block xs at + length (block x)) (flat_map block xs) ≡ flat_map block (drop (suc at) xs)
  drop_block xs at x found = rw (← (offset_next xs at x found), add-one) (drop_offset xs (suc at))

  -- the block stands at the offset
  pub block_at : (xs : List X) (at : ℕ) (x : X) → slice_get xs at ≡ Some x → take (length (block x)) (drop (offset block xs at) (flat_map block xs)) ≡ block x
  block_at xs at x found = rw (drop_offset xs at, drop_from xs at x found) (take_at (block x) (flat_map block (drop (suc at) xs)) (length (block x)) refl)

  -- an insertion puts the block in at the offset
  pub insert_block : (xs : List X) (at : ℕ) (x : X) → flat_map block (insert xs at x) ≡ take (offset block xs at) (flat_map block xs) ++ block x ++ drop (offset block xs at) (flat_map block xs)
  insert_block xs at x = rw (take_offset xs at, drop_offset xs at, flat_map-append, append_assoc) refl

  -- a removal takes the block out
  pub remove_block : (xs : List X) (at : ℕ) (x : X) → slice_get xs at ≡ Some x →
      flat_map block (remove xs at) ≡ take (offset block xs at) (flat_map block xs) ++ drop (offset block xs at + length (block x)) (flat_map block xs)
  remove_block xs at x found = rw (take_offset xs at, drop_block xs at x found, flat_map-append) refl

  -- an update puts the new block in the old one's place
  pub set_block : (xs : List X) (at : ℕ) (x y : X) → slice_get xs at ≡ Some x →
      flat_map block (slice_set xs at y) ≡ take (offset block xs at) (flat_map block xs) ++ block y ++ drop (offset block xs at + length (block x)) (flat_map block xs)
  set_block xs at x y found =
      rw (take_offset xs at, drop_block xs at x found, set_split xs at y (slice_get_within xs at x found), flat_map-append, append_assoc) refl
