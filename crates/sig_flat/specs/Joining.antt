-- What two lists, one behind the other, give for a difference of one of them, by how long the two are.
use Rattle.std.specs.Prelude.{ℕ, ◌+◌, ◌-◌, ◌==◌, ℤ, List, [], ◌∷◌, ◌++◌, if◌then◌else◌}
use Rattle.sig_diff.specs.declared.differences.VecDiff.{VecDiff}
use Rattle.sig_diff.specs.declared.differences.VecDiff.TheVariants.{Replace, InsertAt, UpdateAt, RemoveAt, Move, Push, Pop, Clear}
use Rattle.sig_flat.specs.Runs.{inserts, pops, pushes, removes}
use Rattle.sig_ops.specs.Sizes.{resized}

-- what contracts see of the operator: how long its lists are
pub record Halves : Type 0 where
  pub left : ℕ
  pub right : ℕ

-- of the left list. Where the right one is empty, the left one is the whole
abbrev pub left_gives : Halves → VecDiff ℤ → List (VecDiff ℤ)
left_gives op (Replace values) = if op.right == 0 then Replace values ∷ [] else removes op.left 0 ++ inserts 0 values
left_gives op (InsertAt index value) = InsertAt index value ∷ []
left_gives op (UpdateAt index value) = UpdateAt index value ∷ []
left_gives op (RemoveAt index) = RemoveAt index ∷ []
left_gives op (Move old_index new_index) = Move old_index new_index ∷ []
left_gives op (Push value) = if op.right == 0 then Push value ∷ [] else InsertAt op.left value ∷ []
left_gives op Pop = if op.right == 0 then Pop ∷ [] else RemoveAt (op.left - 1) ∷ []
left_gives op Clear = if op.right == 0 then Clear ∷ [] else removes op.left 0

-- of the right list. Its places are behind the left one
abbrev pub right_gives : Halves → VecDiff ℤ → List (VecDiff ℤ)
right_gives op (Replace values) = if op.left == 0 then Replace values ∷ [] else pops op.right ++ pushes values
right_gives op (InsertAt index value) = InsertAt (op.left + index) value ∷ []
right_gives op (UpdateAt index value) = UpdateAt (op.left + index) value ∷ []
right_gives op (RemoveAt index) = RemoveAt (op.left + index) ∷ []
right_gives op (Move old_index new_index) = Move (op.left + old_index) (op.left + new_index) ∷ []
right_gives op (Push value) = Push value ∷ []
right_gives op Pop = Pop ∷ []
right_gives op Clear = if op.left == 0 then Clear ∷ [] else pops op.right

-- by which list it is: 0 is the left one
abbrev pub joined_gives : Halves → ℕ → VecDiff ℤ → List (VecDiff ℤ)
joined_gives op child diff = if child == 0 then left_gives op diff else right_gives op diff

abbrev pub half : Halves → ℕ → ℕ
half op child = if child == 0 then op.left else op.right

abbrev pub joined_next : Halves → ℕ → VecDiff ℤ → Halves
joined_next op child diff = if child == 0 then record op { left = resized op.left diff } else record op { right = resized op.right diff }
