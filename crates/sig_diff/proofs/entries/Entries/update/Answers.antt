use Rattle.std.proofs.Common.{rules, ◌≡◌, sym, w64, to_z, of_z}
use Rattle.sig_diff.proofs.Ranks.{rank_within, with_value_known, rising_with_value}
use Rattle.sig_diff.proofs.entries.Entries.update.Goals as goal

pub index_mut-requires : goal.index_mut-requires
index_mut-requires g c =
    let same : to_z w64 (of_z w64 c.args.key) ≡ c.args.key = search rules in
    let at = rw (same, ← c.self.view_is) at c.in-Ok.ensures.place in
    let within = rank_within c.args.key c.self.inside.entries.items c.self.invariant (rw c.self.view_is c.requires) in
    search rules

pub invariant_of-self : goal.invariant_of-self
invariant_of-self g c =
    let same : to_z w64 (of_z w64 c.args.key) ≡ c.args.key = search rules in
    let at = rw (same, ← c.self.view_is) at c.in-Ok.ensures.place in
    let is = with_value_known c.args.key c.args.value c.self.inside.entries.items c.self.invariant (rw c.self.view_is c.requires) in
    rw (same, at, ← is) (rising_with_value c.args.key c.args.value c.self.inside.entries.items c.self.invariant)

pub returns : goal.returns
returns g c =
    let same : to_z w64 (of_z w64 c.args.key) ≡ c.args.key = search rules in
    let at = rw (same, ← c.self.view_is) at c.in-Ok.ensures.place in
    let is = with_value_known c.args.key c.args.value c.self.inside.entries.items c.self.invariant (rw c.self.view_is c.requires) in
    rw (same, at, ← c.self.view_is) (sym is)
