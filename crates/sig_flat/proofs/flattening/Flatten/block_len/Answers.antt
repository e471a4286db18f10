use Rattle.std.proofs.Common.{rules, ◌≡◌, length, arith}
use Rattle.sig_flat.specs.Flattening.{block, block_at}
use Rattle.sig_flat.proofs.Standing.{ends_within}
use Rattle.sig_flat.proofs.flattening.Flatten.block_len.Goals as goal

pub overflow_cast-result : goal.overflow_cast-result
overflow_cast-result c =
    let long : length c.block.result.now ≡ length (block_at c.args.self.now c.args.index) = search rules in
    omega (arith, long, c.requires.short, ends_within (block c.args.self.now) c.args.self.now.outer c.args.index c.requires.index)

pub returns-clause-within : goal.returns-clause-within
returns-clause-within c =
    let long : length c.block.result.now ≡ length (block_at c.args.self.now c.args.index) = search rules in
    omega (arith, long, ends_within (block c.args.self.now) c.args.self.now.outer c.args.index c.requires.index)
