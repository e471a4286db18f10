use Rattle.std.proofs.Common.{rules, ◌≡◌, w64, to_z, of_z}
use Rattle.sig_maps.specs.laws.Tables.{value_follows}
use Rattle.sig_maps.proofs.key.KeyOf.step.Goals as goal

pub returns-clause-law : goal.returns-clause-law
returns-clause-law c =
    let same : to_z w64 (of_z w64 c.self.inside.key) ≡ c.self.inside.key = search rules in
    λ entries is. rw (c.value_after-self-inside.ensures, c.as_slice.ensures, ← c.self.view_is, same) (value_follows c.self.inside.key c.self.inside.value entries c.args.diffs.now (rw (← c.self.view_is) at is))
