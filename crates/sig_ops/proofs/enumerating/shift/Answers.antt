use Rattle.std.proofs.Common.{get_or, arith}
use Rattle.std.proofs.lemmas.List.{get_or_default}
use Rattle.std.proofs.lemmas.List.Edits.{map_over_more}
use Rattle.sig_ops.specs.declared.enumerating.TagPlace.{TagPlace}
use Rattle.sig_ops.specs.TagIndex.{entry_shifted}
use Rattle.sig_ops.proofs.enumerating.shift.Goals as goal

pub entries-preserved : goal.entries-preserved
entries-preserved c =
    let entry : TagPlace = get_or c.entries.entry-items c.entries.entry-index (record { tag = 0; place = 0 }) in
    rw c.shifted.ensures (map_over_more (entry_shifted c.args.from c.args.to) c.args.index.now c.entries.entry-items c.entries.entry-index entry c.entries-test.true c.entries.invariant
    (get_or_default c.entries.entry-items c.entries.entry-index (record { tag = 0; place = 0 }) entry (omega (arith, c.entries.auto.entry-items, c.entries-test.true))))
