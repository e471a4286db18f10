use Rattle.std.proofs.Common.{rules}
use Rattle.std.proofs.lemmas.List.{take_all}
use Rattle.sig_diff.proofs.Keeping.{rising_values_mapped}
use Rattle.sig_diff.proofs.entries.Entries.map_values.Goals as goal

pub invariant_of-result : goal.invariant_of-result
invariant_of-result g c =
    let whole = take_all c.entries.entry-index c.deref-entry-items.result.now (search rules) in
    rw (c.entries.invariant.0, whole) (rising_values_mapped (g.M.Mapper.maps c.args.mapper.now) c.deref-entry-items.result.now c.entries.invariant.1)
