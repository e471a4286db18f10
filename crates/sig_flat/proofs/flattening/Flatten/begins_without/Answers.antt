use Rattle.std.proofs.Common.{arith}
use Rattle.sig_flat.specs.Flattening.{block}
use Rattle.sig_flat.proofs.Standing.{begins_without}
use Rattle.sig_flat.proofs.flattening.Flatten.begins_without.Goals as goal

pub overflow_sub-result : goal.overflow_sub-result
overflow_sub-result c =
    omega (
      arith,
      c.begins-else-new_index-old_index.ensures.place,
      c.block_len.ensures.len,
      c.block_len-else-new_index-old_index.ensures.len,
      begins_without (block c.args.self.now) c.args.self.now.outer c.args.old_index c.args.new_index c.if-new_index-old_index.false c.requires.new_index,
    )

pub returns-else-new_index-old_index-clause-place : goal.returns-else-new_index-old_index-clause-place
returns-else-new_index-old_index-clause-place c =
    omega (
      arith,
      c.begins-else-new_index-old_index.ensures.place,
      c.block_len.ensures.len,
      c.block_len-else-new_index-old_index.ensures.len,
      begins_without (block c.args.self.now) c.args.self.now.outer c.args.old_index c.args.new_index c.if-new_index-old_index.false c.requires.new_index,
    )
