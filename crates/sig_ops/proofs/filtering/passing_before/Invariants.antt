use Rattle.std.proofs.Common.{◌≡◌, ◌≤◌, take, count_by}
use Rattle.sig_ops.proofs.filtering.passing_before.Given as goal

abbrev pub invariant-items : goal.invariant-items
invariant-items g l = (l.count ≡ count_by (g.P.Tester.passes l.tester) (take l.item-index l.item-items)) × (l.count ≤ l.item-index)
