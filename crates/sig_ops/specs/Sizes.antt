-- How long a list is after differences, from how long it was before them.
use Rattle.std.specs.Prelude.{ℕ, ◌+◌, ◌-◌, List, length}
use Rattle.std.specs.List.{fold}
use Rattle.sig_diff.specs.Differences.{is_lawful}
use Rattle.sig_diff.specs.Replaying.{AreTaken, StaysWithin}
use Rattle.sig_diff.specs.declared.differences.VecDiff.{VecDiff}
use Rattle.sig_diff.specs.declared.differences.VecDiff.TheVariants.{Replace, InsertAt, UpdateAt, RemoveAt, Move, Push, Pop, Clear}

module _ {T : Type 0} where
  abbrev pub resized : ℕ → VecDiff T → ℕ
  resized n (Replace values) = length values
  resized n (InsertAt index value) = n + 1
  resized n (UpdateAt index value) = n
  resized n (RemoveAt index) = n - 1
  resized n (Move old_index new_index) = n
  resized n (Push value) = n + 1
  resized n Pop = n - 1
  resized n Clear = 0

  abbrev pub all_resized : ℕ → List (VecDiff T) → ℕ
  all_resized n diffs = fold resized n diffs

  -- each difference is lawful at its turn for a list of n items, and no list on the way has more than `most`
  abbrev pub AreLawfulFor : ℕ → List (VecDiff T) → Type 0
  AreLawfulFor n diffs = AreTaken is_lawful resized n diffs

  abbrev pub SizesStayWithin : ℕ → ℕ → List (VecDiff T) → Type 0
  SizesStayWithin most n diffs = StaysWithin is_lawful resized (λ size. size) most n diffs
