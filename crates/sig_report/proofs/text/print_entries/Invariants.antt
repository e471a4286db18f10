use Rattle.std.proofs.Common.{◌≡◌, ◌+◌, ◌++◌, drop}
use Rattle.sig_report.specs.Text.{caller_names, entries_text}
use Rattle.sig_report.proofs.text.print_entries.Given as goal

abbrev pub invariant-entries : goal.invariant-entries
invariant-entries l = (l.number ≡ l.entry-index) × (l.out.items ++ entries_text (caller_names l.script) (l.number + 1) (drop l.entry-index l.entries) ≡ l.initial.out.items ++ entries_text (caller_names l.script) 1 l.entries)
