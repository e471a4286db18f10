-- The difference algebra over lists: which differences a list takes, and the list after one.
use Rattle.std.specs.Prelude.{ℕ, Bool, true, nat_lt, nat_le, ◌&&◌, IsTrue, ◌-◌, List, [], ◌∷◌, ◌++◌, length, take, insert, remove, slice_get, slice_set, Option, None, Some}
use Rattle.sig_diff.specs.declared.differences.VecDiff.{VecDiff}
use Rattle.sig_diff.specs.declared.differences.VecDiff.TheVariants.{Replace, InsertAt, UpdateAt, RemoveAt, Move, Push, Pop, Clear}

-- whether a list of length n takes the difference
abbrev pub is_lawful : {T : Type 0} → VecDiff T → ℕ → Bool
is_lawful (Replace values) n = true
is_lawful (InsertAt index value) n = nat_le index n
is_lawful (UpdateAt index value) n = nat_lt index n
is_lawful (RemoveAt index) n = nat_lt index n
is_lawful (Move old_index new_index) n = nat_lt old_index n && nat_lt new_index n
is_lawful (Push value) n = true
is_lawful Pop n = nat_lt 0 n
is_lawful Clear n = true

abbrev pub IsLawful : {T : Type 0} → VecDiff T → ℕ → Type 0
IsLawful diff n = IsTrue (is_lawful diff n)

-- the list with the item, where there is one, at the index
abbrev pub inserted : {T : Type 0} → List T → ℕ → Option T → List T
inserted xs index None = xs
inserted xs index (Some x) = insert xs index x

-- the list with the item at one index moved to another index of the list without it
abbrev pub moved : {T : Type 0} → List T → ℕ → ℕ → List T
moved xs old_index new_index = inserted (remove xs old_index) new_index (slice_get xs old_index)

-- the list after the difference
abbrev pub applied : {T : Type 0} → List T → VecDiff T → List T
applied xs (Replace values) = values
applied xs (InsertAt index value) = insert xs index value
applied xs (UpdateAt index value) = slice_set xs index value
applied xs (RemoveAt index) = remove xs index
applied xs (Move old_index new_index) = moved xs old_index new_index
applied xs (Push value) = xs ++ value ∷ []
applied xs Pop = take (length xs - 1) xs
applied xs Clear = []
