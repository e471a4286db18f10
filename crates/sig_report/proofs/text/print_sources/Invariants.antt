use Rattle.std.proofs.Common.{◌≡◌, ◌++◌, drop}
use Rattle.std.specs.List.{flat_map}
use Rattle.sig_report.specs.Text.{caller_names, source_text}
use Rattle.sig_report.proofs.text.print_sources.Given as goal

abbrev pub invariant-sources : goal.invariant-sources
invariant-sources l = l.out.items ++ flat_map (source_text (caller_names l.script)) (drop l.source-index l.sources) ≡ l.initial.out.items ++ flat_map (source_text (caller_names l.script)) l.sources
