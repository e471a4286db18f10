-- What contracts see of views that choose by signals.
use Rattle.std.specs.Prelude.{ℕ, zero, suc, ℤ, List, [], length, slice_set, slice_index_or}
use Rattle.sig_diff.specs.Differences.{applied}
use Rattle.sig_diff.specs.Numbers.{class_of}
use Rattle.sig_diff.specs.declared.differences.VecDiff.{VecDiff}

-- a list whose elements go by signals: its elements, and the signals' values
pub record BySignals : Type 0 where
  pub items : List ℤ
  pub signals : List ℤ

-- one part of a bank, chosen by a number: the number, and what each part is
pub record Choice (A : Type 0) : Type 0 where
  pub chooser : ℤ
  pub parts : List A

-- the place of the part that a number chooses
abbrev pub chosen_place : {A : Type 0} → List A → ℤ → ℕ
chosen_place parts x = class_of (length parts) x

-- the list takes a difference; a signal goes to another value
abbrev pub items_next : BySignals → VecDiff ℤ → BySignals
items_next op diff = record op { items = applied op.items diff }

abbrev pub signals_next : BySignals → ℕ → ℤ → BySignals
signals_next op child value = record op { signals = slice_set op.signals child value }

-- the chooser is child 0 of a switch, and the bank's signal j is child j + 1
abbrev pub switch_next : Choice ℤ → ℕ → ℤ → Choice ℤ
switch_next op zero value = record op { chooser = value }
switch_next op (suc child) value = record op { parts = slice_set op.parts child value }

-- the list at a place of a bank, and the bank after a difference of it
abbrev pub list_at : Choice (List ℤ) → ℕ → List ℤ
list_at op child = slice_index_or op.parts child []

abbrev pub bank_next : Choice (List ℤ) → ℕ → VecDiff ℤ → Choice (List ℤ)
bank_next op child diff = record op { parts = slice_set op.parts child (applied (list_at op child) diff) }
