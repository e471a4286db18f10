-- Numbers that stop at the end of their type, for the code to count them.
use Rattle.std.specs.Prelude.{ℕ, ◌-◌, ◌^◌, min}

-- a number as a u64
abbrev pub clipped : ℕ → ℕ
clipped n = min n (2 ^ 64 - 1)
