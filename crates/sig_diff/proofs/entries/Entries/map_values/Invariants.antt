use Rattle.std.proofs.Common.{◌≡◌, take}
use Rattle.sig_diff.specs.Entries.{IsRising, values_mapped}
use Rattle.sig_diff.proofs.entries.Entries.map_values.Given as goal

abbrev pub invariant-entries : goal.invariant-entries
invariant-entries g l = (l.entries.items ≡ values_mapped (g.M.Mapper.maps l.mapper) (take l.entry-index l.entry-items)) × IsRising l.entry-items
