use Rattle.std.proofs.Common.{◌≡◌, ◌++◌, drop, map, codes}
use Rattle.sig_report.specs.Text.{each_after, entry_text}
use Rattle.sig_report.proofs.printing.print_entries.Given as goal

abbrev pub invariant-entries : goal.invariant-entries
invariant-entries l = l.out.items ++ each_after (codes ", ") (map entry_text (drop l.entry-index l.entries)) ≡ l.initial.out.items ++ each_after (codes ", ") (map entry_text l.entries)
