-- What each operator gives for one difference of its list.
use Rattle.std.specs.Prelude.{ℕ, ◌-◌, ◌==◌, List, [], ◌∷◌, map, filter, length, remove, Bool, true, false, if◌then◌else◌}
use Rattle.sig_diff.specs.Passing.{passes_at, passing_before}
use Rattle.sig_diff.specs.declared.differences.VecDiff.{VecDiff}
use Rattle.sig_diff.specs.declared.differences.VecDiff.TheVariants.{Replace, InsertAt, UpdateAt, RemoveAt, Move, Push, Pop, Clear}

-- ---- a map: the same difference, with the function at its values

abbrev pub map_gives : {T U : Type 0} → (T → U) → VecDiff T → List (VecDiff U)
map_gives f (Replace values) = Replace (map f values) ∷ []
map_gives f (InsertAt index value) = InsertAt index (f value) ∷ []
map_gives f (UpdateAt index value) = UpdateAt index (f value) ∷ []
map_gives f (RemoveAt index) = RemoveAt index ∷ []
map_gives f (Move old_index new_index) = Move old_index new_index ∷ []
map_gives f (Push value) = Push (f value) ∷ []
map_gives f Pop = Pop ∷ []
map_gives f Clear = Clear ∷ []

-- ---- a filter

abbrev pub if_so : {A : Type 0} → Bool → A → List A
if_so test x = if test then x ∷ [] else []

-- for an element that changes at a place among those that pass, by whether the old and the new one pass
abbrev pub updated : {T : Type 0} → Bool → Bool → ℕ → T → List (VecDiff T)
updated true true index value = UpdateAt index value ∷ []
updated false true index value = InsertAt index value ∷ []
updated true false index value = RemoveAt index ∷ []
updated false false index value = []

-- for an element that moves among those that pass, by whether it passes
abbrev pub moved : {T : Type 0} → Bool → ℕ → ℕ → List (VecDiff T)
moved true old_index new_index = if old_index == new_index then [] else (Move old_index new_index ∷ [])
moved false old_index new_index = []

-- the list xs takes the difference; the target of a move is counted in the list without the moved element
abbrev pub filter_gives : {T : Type 0} → (T → Bool) → List T → VecDiff T → List (VecDiff T)
filter_gives test xs (Replace values) = Replace (filter test values) ∷ []
filter_gives test xs (InsertAt index value) = if_so (test value) (InsertAt (passing_before test xs index) value)
filter_gives test xs (UpdateAt index value) = updated (passes_at test xs index) (test value) (passing_before test xs index) value
filter_gives test xs (RemoveAt index) = if_so (passes_at test xs index) (RemoveAt (passing_before test xs index))
filter_gives test xs (Move old_index new_index) = moved (passes_at test xs old_index) (passing_before test xs old_index) (passing_before test (remove xs old_index) new_index)
filter_gives test xs (Push value) = if_so (test value) (Push value)
filter_gives test xs Pop = if_so (passes_at test xs (length xs - 1)) Pop
filter_gives test xs Clear = Clear ∷ []
