-- What the blocks of a list give after it took a difference, by the bank as it is then.
use Rattle.std.specs.Prelude.{ℕ, ◌+◌, ◌==◌, ℤ, List, [], ◌∷◌, ◌++◌, length, if◌then◌else◌}
use Rattle.sig_diff.specs.Choosing.{list_for}
use Rattle.sig_diff.specs.Numbers.{class_of}
use Rattle.sig_diff.specs.declared.differences.VecDiff.{VecDiff}
use Rattle.sig_flat.specs.Flattening.{block_gives}

-- from left to right, from a place on. The list at this place of the bank was so long
abbrev pub changed_blocks : List (List ℤ) → ℕ → ℕ → VecDiff ℤ → ℕ → List ℤ → List (VecDiff ℤ)
changed_blocks parts child old_len diff at [] = []
changed_blocks parts child old_len diff at (x ∷ xs) =
    (if class_of (length parts) x == child then block_gives old_len at diff else [])
    ++ changed_blocks parts child old_len diff (at + length (list_for parts x)) xs
