use Rattle.std.proofs.Common.{◌≡◌, ◌++◌, drop}
use Rattle.std.specs.List.{flat_map}
use Rattle.sig_report.proofs.printing.print_all.Given as goal

abbrev pub invariant-items : goal.invariant-items
invariant-items g l = l.out.items ++ flat_map g.T.Printed.text (drop l.item-index l.items) ≡ l.initial.out.items ++ flat_map g.T.Printed.text l.items
