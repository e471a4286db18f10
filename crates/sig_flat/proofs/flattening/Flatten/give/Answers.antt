use Rattle.std.proofs.Common.{rules, ◌≡◌, ◌<◌, w64, to_z, of_z, ap, length, arith}
use Rattle.std.proofs.lemmas.Bool.{ltb-true}
use Rattle.sig_flat.specs.Flattening.{block}
use Rattle.sig_flat.proofs.Standing.{comes_within, set_within}
use Rattle.sig_flat.proofs.flattening.Flatten.give.Goals as goal

pub inserts-requires : goal.inserts-requires
inserts-requires c =
    let same : to_z w64 (of_z w64 c.in-InsertAt.value) ≡ c.in-InsertAt.value = search rules in
    let long = ap length (rw same at c.block.ensures) in
    let short = rw (c.in-InsertAt.is) at c.requires.short_after in
    omega (arith, c.begins.ensures.place, long, short, comes_within (block c.args.self.now) c.args.self.now.outer c.in-InsertAt.index c.in-InsertAt.value)

pub exchange-requires-clause-short_after : goal.exchange-requires-clause-short_after
exchange-requires-clause-short_after c =
    let same : to_z w64 (of_z w64 c.in-UpdateAt.value) ≡ c.in-UpdateAt.value = search rules in
    let short = rw (c.in-UpdateAt.is) at c.requires.short_after in
    let within : c.in-UpdateAt.index < length c.args.self.now.outer = ltb-true _ _ (rw (c.in-UpdateAt.is) at c.requires.lawful) in
    rw same (omega (arith, short, set_within (block c.args.self.now) c.args.self.now.outer c.in-UpdateAt.index c.in-UpdateAt.value within))
