-- What a step of lists that are joined needs of the differences of their parts.
use Rattle.std.specs.Prelude.{◌≡◌, ℕ, ◌+◌, ◌*◌, ◌<◌, ◌≤◌, ℤ, List, [], ◌∷◌, length, drop}
use Rattle.std.specs.List.{All}
use Rattle.sig_diff.specs.Replaying.{AreLawful, StaysShort}
use Rattle.sig_diff.specs.declared.differences.VecDiff.{VecDiff}
use Rattle.sig_flat.specs.Flattening.{Blocks, part_at}
use Rattle.sig_flat.specs.Joining.{Halves, half}

-- a list takes differences, and is never longer than so many
pub record Goes (most : ℕ) (items : List ℤ) (diffs : List (VecDiff ℤ)) : Type 0 where
  pub within : length items ≤ most
  pub lawful : AreLawful items diffs
  pub short : StaysShort most items diffs

-- each list of a bank takes its differences
abbrev pub AllGo : ℕ → List (List ℤ) → List (List (VecDiff ℤ)) → Type 0
AllGo most [] [] = Unit {0}
AllGo most (items ∷ parts) (diffs ∷ lists) = Goes most items diffs × AllGo most parts lists
AllGo most _ _ = ⊥

-- of two lists, one behind the other, the left one takes differences, and then the right one
pub record MayJoin (op : Halves) (lefts rights : List (VecDiff ℤ)) : Type 0 where
  pub left : List ℤ
  pub right : List ℤ
  pub left_is : length left ≡ op.left
  pub right_is : length right ≡ op.right
  pub most_left : ℕ
  pub most_right : ℕ
  pub few : most_left + most_right ≤ 65536
  pub left_goes : Goes most_left left lefts
  pub right_goes : Goes most_right right rights

-- the outer list of blocks takes differences, and then each list of the bank
pub record MayFlatten (op : Blocks) (diffs : List (VecDiff ℤ)) (lists : List (List (VecDiff ℤ))) : Type 0 where
  pub most : ℕ
  pub most_part : ℕ
  pub few : most * most_part ≤ 65536
  pub few_part : most_part ≤ 65536
  pub few_outer : most ≤ 65536
  pub outer_goes : Goes most op.outer diffs
  pub parts_go : AllGo most_part op.parts lists

-- ---- by the parts of such a step

-- one of two lists takes differences: 0 is the left one
pub record MayTakeHalf (child : ℕ) (op : Halves) (diffs : List (VecDiff ℤ)) : Type 0 where
  pub items : List ℤ
  pub items_are : length items ≡ half op child
  pub most : ℕ
  pub few : op.left + op.right + most ≤ 65536 + half op child
  pub goes : Goes most items diffs

-- no list of the bank is longer than so many, and the outer list isn't longer than so many others
pub record AreFewBlocks (most most_part : ℕ) (op : Blocks) : Type 0 where
  pub few : most * most_part ≤ 65536
  pub few_part : most_part ≤ 65536
  pub outer : length op.outer ≤ most
  pub parts : All (λ (items : List ℤ). length items ≤ most_part) op.parts

pub record MayTakeOuter (op : Blocks) (diffs : List (VecDiff ℤ)) : Type 0 where
  pub most : ℕ
  pub most_part : ℕ
  pub few_outer : most ≤ 65536
  pub blocks : AreFewBlocks most most_part op
  pub goes : Goes most op.outer diffs

pub record MayTakePart (place : ℕ) (op : Blocks) (diffs : List (VecDiff ℤ)) : Type 0 where
  pub most : ℕ
  pub most_part : ℕ
  pub blocks : AreFewBlocks most most_part op
  pub within : place < length op.parts
  pub goes : Goes most_part (part_at op place) diffs

-- from this place on
pub record MayTakeParts (place : ℕ) (op : Blocks) (lists : List (List (VecDiff ℤ))) : Type 0 where
  pub most : ℕ
  pub most_part : ℕ
  pub blocks : AreFewBlocks most most_part op
  pub go : AllGo most_part (drop place op.parts) lists
