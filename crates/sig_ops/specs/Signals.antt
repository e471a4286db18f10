-- What a signal of a list or of a signal gives: its present value, where that isn't the last one it gave.
use Rattle.std.specs.Prelude.{ℤ, if◌then◌else◌, Option, None, Some}
use Rattle.std.specs.Ordering.{int_eq}

abbrev pub given : ℤ → ℤ → Option ℤ
given last present = if int_eq last present then None else Some present
