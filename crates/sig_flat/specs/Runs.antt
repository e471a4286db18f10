-- Runs of differences, by which a part of a list goes or comes one element after another; and a difference of a part as one of
-- the whole.
use Rattle.std.specs.Prelude.{ℕ, ◌+◌, List, [], ◌∷◌, map, max, replicate}
use Rattle.sig_diff.specs.declared.differences.VecDiff.{VecDiff}
use Rattle.sig_diff.specs.declared.differences.VecDiff.TheVariants.{InsertAt, UpdateAt, RemoveAt, Move, Push, Pop}

module _ {T : Type 0} where
  -- so many elements go from a place
  abbrev pub removes : ℕ → ℕ → List (VecDiff T)
  removes count place = replicate count (RemoveAt place)

  -- elements come in, from a place on
  abbrev pub inserts : ℕ → List T → List (VecDiff T)
  inserts place [] = []
  inserts place (x ∷ xs) = InsertAt place x ∷ inserts (place + 1) xs

  -- so many elements go from the end, and elements come to it
  abbrev pub pops : ℕ → List (VecDiff T)
  pops count = replicate count Pop

  abbrev pub pushes : List T → List (VecDiff T)
  pushes xs = map Push xs

  -- the same difference with its places so many further on
  abbrev pub further : ℕ → VecDiff T → VecDiff T
  further places (InsertAt index value) = InsertAt (places + index) value
  further places (UpdateAt index value) = UpdateAt (places + index) value
  further places (RemoveAt index) = RemoveAt (places + index)
  further places (Move old_index new_index) = Move (places + old_index) (places + new_index)
  further places diff = diff

  -- the last of its places
  abbrev pub last_place : VecDiff T → ℕ
  last_place (InsertAt index value) = index
  last_place (UpdateAt index value) = index
  last_place (RemoveAt index) = index
  last_place (Move old_index new_index) = max old_index new_index
  last_place _ = 0
