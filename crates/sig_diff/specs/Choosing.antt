-- What a number chooses of a bank: the part of its class, where the bank has one class for each part.
use Rattle.std.specs.Prelude.{ℕ, ◌==◌, ℤ, pos, ◌+ℤ◌, Bool, not, ◌||◌, List, [], length, get_or}
use Rattle.std.specs.Ordering.{int_eq}
use Rattle.sig_diff.specs.Numbers.{class_of, clamped}

abbrev pub chosen : {A : Type 0} → List A → ℤ → A → A
chosen parts x default = get_or parts (class_of (length parts) x) default

abbrev pub signal_for : List ℤ → ℤ → ℤ
signal_for signals x = chosen signals x (pos 0)

abbrev pub list_for : List (List ℤ) → ℤ → List ℤ
list_for lists x = chosen lists x []

-- whether two numbers choose the same part of a bank with so many. An empty bank has no other
abbrev pub chooses_same : ℕ → ℤ → ℤ → Bool
chooses_same count one other = (count == 0) || (class_of count one == class_of count other)

-- whether the signal of the number's class isn't 0
abbrev pub is_let_in : List ℤ → ℤ → Bool
is_let_in signals x = not (int_eq (signal_for signals x) (pos 0))

-- the number plus the signal of its class
abbrev pub raised_by : List ℤ → ℤ → ℤ
raised_by signals x = clamped (x +ℤ signal_for signals x)
