use Rattle.std.proofs.Common.{rules, ◌≡◌, sym, w64, to_z, of_z}
use Rattle.sig_diff.proofs.Ranks.{rank_within, value_at_rank}
use Rattle.sig_diff.proofs.entries.Entries.get.Goals as goal

pub index-requires : goal.index-requires
index-requires g c =
    let same : to_z w64 (of_z w64 c.args.key) ≡ c.args.key = search rules in
    let at = rw (same, ← c.self.view_is) at c.in-Ok.ensures.place in
    let has = rw (same, ← c.self.view_is) at c.in-Ok.ensures.found in
    let within = rank_within c.args.key c.self.inside.entries.items c.self.invariant (sym has) in
    search rules

pub returns-in-Ok : goal.returns-in-Ok
returns-in-Ok g c =
    let same : to_z w64 (of_z w64 c.args.key) ≡ c.args.key = search rules in
    let at = rw (same, ← c.self.view_is) at c.in-Ok.ensures.place in
    let has = rw (same, ← c.self.view_is) at c.in-Ok.ensures.found in
    let value = value_at_rank c.args.key c.self.inside.entries.items c.self.invariant (sym has) c.index.result.now in
    rw (← c.self.view_is) (let read = rw at at c.index.ensures in cc)
