-- Where the blocks of a flattened list stand, and how long they are.
use Rattle.std.proofs.Common.{◌≡◌, ◌∙◌, ℕ, zero, suc, ◌+◌, ◌-◌, ◌<◌, ◌≤◌, ℤ, pos, List, [], ◌∷◌, ◌++◌, length, take, drop, insert, remove, get_or, slice_set, refl, ap, add-one, append_assoc, arith}
use Rattle.std.specs.List.{flat_map}
use Rattle.std.proofs.lemmas.List.{drop_more, length-append, length-set, set_split}
use Rattle.std.proofs.lemmas.List.Concat.{flat_map-append}
use Rattle.std.proofs.lemmas.Option.{slice_get-get_or}
use Rattle.sig_diff.proofs.Blocks.{offset_next, offset_within}
use Rattle.sig_diff.specs.Blocks.{offset}
use Rattle.sig_diff.specs.declared.differences.VecDiff.{VecDiff}
use Rattle.sig_diff.specs.declared.differences.VecDiff.TheVariants.{Move}
use Rattle.sig_flat.specs.Flattening.{Blocks, bank_next, block, blocks_give, part_at, shifts}
use Rattle.sig_diff.specs.Differences.{applied}
use Rattle.sig_flat.specs.Changed.{changed_blocks}

module _ (part : ℤ → List ℤ) where
  -- from a place on the joined list is the block there and what is behind it
  pub joined_more : (xs : List ℤ) (at : ℕ) → at < length xs →
      length (flat_map part (drop at xs)) ≡ length (part (get_or xs at (pos 0))) + length (flat_map part (drop (at + 1) xs))
  joined_more xs at within = rw (drop_more xs at (pos 0) within) (length-append (part (get_or xs at (pos 0))) (flat_map part (drop (at + 1) xs)))

  -- a block ends within the joined list
  pub ends_within : (xs : List ℤ) (at : ℕ) → at < length xs → length (part (get_or xs at (pos 0))) + offset part xs at ≤ length (flat_map part xs)
  ends_within xs at within = omega (arith, offset_next part xs at (get_or xs at (pos 0)) (slice_get-get_or xs at (pos 0) within), offset_within part xs (at + 1))

  -- and so does one that comes in, of an element that does or that takes the place of another
  pub comes_within : (xs : List ℤ) (at : ℕ) (x : ℤ) → offset part xs at + length (part x) ≤ length (flat_map part (insert xs at x))
  comes_within xs at x =
      let front : List ℤ = flat_map part (take at xs) in
      let back : List ℤ = flat_map part (drop at xs) in
      omega (arith, ap length (flat_map-append part (take at xs) (x ∷ drop at xs)), length-append front (part x ++ back), length-append (part x) back)

  pub set_within : (xs : List ℤ) (at : ℕ) (x : ℤ) → at < length xs → length (part x) ≤ length (flat_map part (slice_set xs at x))
  set_within xs at x within =
      let front : List ℤ = flat_map part (take at xs) in
      let back : List ℤ = flat_map part (drop (suc at) xs) in
      rw (set_split xs at x within)
      (omega (arith, ap length (flat_map-append part (take at xs) (x ∷ drop (suc at) xs)), length-append front (part x ++ back), length-append (part x) back))

  -- without an element a later block begins earlier by the length of its block
  offset_without : (xs : List ℤ) (old new : ℕ) → old < new → new < length xs → offset part (remove xs old) new + length (part (get_or xs old (pos 0))) ≡ offset part xs (suc new)
  offset_without [] old new later within = absurd (omega (arith, within))
  offset_without (x ∷ xs) old zero later within = absurd (omega (arith, later))
  offset_without (x ∷ xs) zero (suc new) later within = omega (arith, length-append (part x) (flat_map part (take (suc new) xs)))
  offset_without (x ∷ xs) (suc old) (suc new) later within =
      omega (arith, offset_without xs old new (omega (arith, later)) (omega (arith, within)), length-append (part x) (flat_map part (take new (remove xs old))), length-append (part x) (flat_map part (take (suc new) xs)))

  -- which is behind the block that takes its place, but for that length
  pub begins_without : (xs : List ℤ) (old new : ℕ) → old < new → new < length xs →
      offset part (remove xs old) new + length (part (get_or xs old (pos 0))) ≡ offset part xs new + length (part (get_or xs new (pos 0)))
  begins_without xs old new later within =
      offset_without xs old new later within
      ∙ rw add-one at (offset_next part xs new (get_or xs new (pos 0)) (slice_get-get_or xs new (pos 0) within))

-- one more move
pub shifts_more : (given : List (VecDiff ℤ)) (count place from to : ℕ) → place < count →
    (given ++ (Move (from + place) (to + place) ∷ [])) ++ shifts (count - (place + 1)) (from + (place + 1)) (to + (place + 1)) ≡ given ++ shifts (count - place) (from + place) (to + place)
shifts_more given count place from to within =
    let left : count - place ≡ suc (count - (place + 1)) = omega (arith, within) in
    let next_from : from + (place + 1) ≡ from + place + 1 = omega arith in
    let next_to : to + (place + 1) ≡ to + place + 1 = omega arith in
    rw (left, next_from, next_to) (append_assoc given (Move (from + place) (to + place) ∷ []) (shifts (count - (place + 1)) (from + place + 1) (to + place + 1)))

-- what the blocks give, by the bank after the difference
pub given_after : (op : Blocks) (child : ℕ) (diff : VecDiff ℤ) (at : ℕ) (xs : List ℤ) →
    blocks_give op child diff at xs ≡ changed_blocks (bank_next op child diff).parts child (length (part_at op child)) diff at xs
given_after op child diff at [] = refl
given_after op child diff at (x ∷ xs) =
    rw (given_after op child diff (at + length (block (bank_next op child diff) x)) xs, length-set op.parts child (applied (part_at op child) diff)) refl
