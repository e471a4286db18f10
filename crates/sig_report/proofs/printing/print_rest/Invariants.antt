use Rattle.std.proofs.Common.{◌≡◌, ◌++◌, drop, map}
use Rattle.sig_report.specs.Text.{each_after}
use Rattle.sig_report.proofs.printing.print_rest.Given as goal

abbrev pub invariant-items : goal.invariant-items
invariant-items g l = l.out.items ++ each_after l.separator (map g.T.Printed.text (drop l.item-index l.items)) ≡ l.initial.out.items ++ each_after l.separator (map g.T.Printed.text l.items)
