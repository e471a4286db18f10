use Rattle.std.proofs.Common.{ap, length, arith}
use Rattle.sig_ops.specs.laws.Enumerating.{few_made_by_step}
use Rattle.sig_ops.proofs.enumerating.tagged.Goals as goal

pub tagged_from-requires : goal.tagged_from-requires
tagged_from-requires c =
    let few = few_made_by_step (record { elements = c.args.elements.now; next = c.args.next }) c.args.diff.now c.requires.step in
    let few_values = rw c.in-Replace.is at few in
    omega (arith, few_values, ap length c.as_slice.ensures, c.requires.step.tags)
