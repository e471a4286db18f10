-- What a flattened list gives: each element of the outer list stands for the whole list of its class, its block.
use Rattle.std.specs.Prelude.{ℕ, zero, suc, ◌+◌, ◌-◌, ◌==◌, ℤ, pos, nat_lt, List, [], ◌∷◌, ◌++◌, length, remove, replicate, slice_set, slice_index_or, if◌then◌else◌}
use Rattle.std.specs.List.{flat_map}
use Rattle.sig_diff.specs.Blocks.{offset}
use Rattle.sig_diff.specs.Choosing.{list_for}
use Rattle.sig_diff.specs.Differences.{applied}
use Rattle.sig_diff.specs.Numbers.{class_of}
use Rattle.sig_diff.specs.declared.differences.VecDiff.{VecDiff}
use Rattle.sig_diff.specs.declared.differences.VecDiff.TheVariants.{Replace, InsertAt, UpdateAt, RemoveAt, Move, Push, Pop, Clear}
use Rattle.sig_flat.specs.Runs.{inserts, pops, pushes, removes}

-- what contracts see of the operator: the outer list, and the bank's lists
pub record Blocks : Type 0 where
  pub outer : List ℤ
  pub parts : List (List ℤ)

abbrev pub block : Blocks → ℤ → List ℤ
block op x = list_for op.parts x

abbrev pub flattened : Blocks → List ℤ
flattened op = flat_map (block op) op.outer

-- the block of the element at a place, and where it begins
abbrev pub block_at : Blocks → ℕ → List ℤ
block_at op index = block op (slice_index_or op.outer index (pos 0))

abbrev pub begins : Blocks → ℕ → ℕ
begins op index = offset (block op) op.outer index

-- ---- the outer list takes a difference

-- so many moves, each from a place to one that is ahead of it by the same distance
abbrev pub shifts : ℕ → ℕ → ℕ → List (VecDiff ℤ)
shifts zero from to = []
shifts (suc count) from to = Move from to ∷ shifts count (from + 1) (to + 1)

-- so many moves, all from one place to another
abbrev pub same_moves : ℕ → ℕ → ℕ → List (VecDiff ℤ)
same_moves count from to = replicate count (Move from to)

-- a block moves from a place to another, which is counted without it: behind it element by element from its front, each to the last place;
-- before it element by element, each one place further
abbrev pub block_moves : ℕ → ℕ → ℕ → List (VecDiff ℤ)
block_moves count from to =
    if to == from then [] else (if nat_lt from to then same_moves count from (to + count - 1) else shifts count from to)

abbrev pub outer_gives : Blocks → VecDiff ℤ → List (VecDiff ℤ)
outer_gives op (Replace values) = Replace (flat_map (block op) values) ∷ []
outer_gives op (InsertAt index value) = inserts (begins op index) (block op value)
outer_gives op (UpdateAt index value) =
    if class_of (length op.parts) (slice_index_or op.outer index (pos 0)) == class_of (length op.parts) value
    then []
    else removes (length (block_at op index)) (begins op index) ++ inserts (begins op index) (block op value)
outer_gives op (RemoveAt index) = removes (length (block_at op index)) (begins op index)
outer_gives op (Move old_index new_index) =
    block_moves (length (block_at op old_index)) (begins op old_index) (offset (block op) (remove op.outer old_index) new_index)
outer_gives op (Push value) = pushes (block op value)
outer_gives op Pop = pops (length (block_at op (length op.outer - 1)))
outer_gives op Clear = Clear ∷ []

abbrev pub outer_next : Blocks → VecDiff ℤ → Blocks
outer_next op diff = record op { outer = applied op.outer diff }

-- ---- a list of the bank takes a difference

-- what a block gives, which is so long and begins at a place
abbrev pub block_gives : ℕ → ℕ → VecDiff ℤ → List (VecDiff ℤ)
block_gives long at (Replace values) = removes long at ++ inserts at values
block_gives long at (InsertAt index value) = InsertAt (at + index) value ∷ []
block_gives long at (UpdateAt index value) = UpdateAt (at + index) value ∷ []
block_gives long at (RemoveAt index) = RemoveAt (at + index) ∷ []
block_gives long at (Move old_index new_index) = Move (at + old_index) (at + new_index) ∷ []
block_gives long at (Push value) = InsertAt (at + long) value ∷ []
block_gives long at Pop = RemoveAt (at + long - 1) ∷ []
block_gives long at Clear = removes long at

abbrev pub part_at : Blocks → ℕ → List ℤ
part_at op child = slice_index_or op.parts child []

abbrev pub bank_next : Blocks → ℕ → VecDiff ℤ → Blocks
bank_next op child diff = record op { parts = slice_set op.parts child (applied (part_at op child) diff) }

-- each block of the list, from left to right: those before it have their new length already
abbrev pub blocks_give : Blocks → ℕ → VecDiff ℤ → ℕ → List ℤ → List (VecDiff ℤ)
blocks_give op child diff at [] = []
blocks_give op child diff at (x ∷ xs) =
    (if class_of (length op.parts) x == child then block_gives (length (part_at op child)) at diff else [])
    ++ blocks_give op child diff (at + length (block (bank_next op child diff) x)) xs

abbrev pub bank_gives : Blocks → ℕ → VecDiff ℤ → List (VecDiff ℤ)
bank_gives op child diff = blocks_give op child diff 0 op.outer
