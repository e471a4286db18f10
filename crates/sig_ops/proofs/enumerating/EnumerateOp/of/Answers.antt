use Rattle.sig_ops.proofs.TagIndexes.{index_started}
use Rattle.sig_ops.proofs.enumerating.EnumerateOp.of.Goals as goal

pub invariant_of-result : goal.invariant_of-result
invariant_of-result c = index_started c.args.values.now c.in_ok-elements.elements c.number.new.index.items c.requires c.in_ok-elements.ensures c.number.ensures
