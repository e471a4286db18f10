use Rattle.std.proofs.Common.{◌≡◌, ◌++◌, drop, filter}
use Rattle.sig_diff.proofs.functions.passing.Given as goal

abbrev pub invariant-items : goal.invariant-items
invariant-items g l = l.kept ++ filter (g.P.Tester.passes l.tester) (drop l.item-index l.items) ≡ filter (g.P.Tester.passes l.tester) l.items
