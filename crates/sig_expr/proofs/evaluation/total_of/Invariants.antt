use Rattle.std.proofs.Common.{◌≡◌, ◌*◌, ◌^◌, take, pos, neg_ℤ, ◌≤ℤ◌}
use Rattle.sig_diff.specs.Numbers.{total}
use Rattle.sig_expr.proofs.evaluation.total_of.Given as goal

abbrev pub invariant-numbers : goal.invariant-numbers
invariant-numbers l =
    (l.total ≡ total (take l.number-index l.numbers)) × (neg_ℤ (pos (2 ^ 63 * l.number-index)) ≤ℤ l.total) × (l.total ≤ℤ pos (2 ^ 63 * l.number-index))
