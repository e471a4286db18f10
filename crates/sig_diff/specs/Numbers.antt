-- Totals and classes of numbers.
use Rattle.std.specs.Prelude.{ℕ, ℤ, pos, ◌+ℤ◌, List, unsigned_abs}
use Rattle.std.specs.List.{fold}
use Rattle.std.specs.Int.{int_rem_euclid, saturate_to_bits}

-- the nearest number from -2 ^ 63 to 2 ^ 63 - 1
abbrev pub clamped : ℤ → ℤ
clamped x = saturate_to_bits 63 x

-- the exact total
abbrev pub total : List ℤ → ℤ
total xs = fold ◌+ℤ◌ (pos 0) xs

-- which of `count` classes a number has
abbrev pub class_of : ℕ → ℤ → ℕ
class_of count x = unsigned_abs (int_rem_euclid x (pos count))
