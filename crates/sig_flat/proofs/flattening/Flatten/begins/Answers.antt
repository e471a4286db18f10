use Rattle.std.proofs.Common.{rules, ◌≡◌, ◌≤◌, arith}
use Rattle.sig_diff.proofs.Blocks.{offset_within}
use Rattle.sig_flat.specs.Flattening.{begins, block}
use Rattle.sig_flat.proofs.flattening.Flatten.begins.Goals as goal

pub joined_len-requires : goal.joined_len-requires
joined_len-requires c =
    let short : begins c.args.self.now c.args.index ≤ 65536 = omega (arith, c.requires.short, offset_within (block c.args.self.now) c.args.self.now.outer c.args.index) in
    rw (c.as_slice.ensures.value, c.as_slice-2.ensures) (rw (← c.self.view_is) at short)

pub returns-clause-within : goal.returns-clause-within
returns-clause-within c =
    let place : c.joined_len.result ≡ begins c.args.self.now c.args.index = search rules in
    rw place (offset_within (block c.args.self.now) c.args.self.now.outer c.args.index)
