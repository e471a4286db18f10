-- What the operators of views that choose by signals are after differences of their lists, and after values of their signals.
use Rattle.std.specs.Prelude.{ℕ, ℤ, List, slice_set, Option, None, Some}
use Rattle.sig_bank.specs.Banks.{BySignals, Choice, list_at, switch_next}
use Rattle.sig_diff.specs.Replaying.{replayed}
use Rattle.sig_diff.specs.declared.differences.VecDiff.{VecDiff}

abbrev pub with_items : BySignals → List (VecDiff ℤ) → BySignals
with_items op diffs = record op { items = replayed op.items diffs }

abbrev pub after_choice : Choice ℤ → ℕ → Option ℤ → Choice ℤ
after_choice op child None = op
after_choice op child (Some value) = switch_next op child value

abbrev pub after_picked : Choice (List ℤ) → ℕ → List (VecDiff ℤ) → Choice (List ℤ)
after_picked op place diffs = record op { parts = slice_set op.parts place (replayed (list_at op place) diffs) }
