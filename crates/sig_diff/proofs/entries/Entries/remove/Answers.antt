use Rattle.std.proofs.Common.{rules, ◌≡◌, sym, w64, to_z, of_z}
use Rattle.sig_diff.proofs.Ranks.{rank_within, value_at_rank, without_known, rising_without}
use Rattle.sig_diff.proofs.entries.Entries.remove.Goals as goal

pub remove-requires : goal.remove-requires
remove-requires g c =
    let same : to_z w64 (of_z w64 c.args.key) ≡ c.args.key = search rules in
    let at = rw (same, ← c.self.view_is) at c.in-Ok.ensures.place in
    let within = rank_within c.args.key c.self.inside.entries.items c.self.invariant (rw c.self.view_is c.requires) in
    search rules

pub invariant_of-self : goal.invariant_of-self
invariant_of-self g c =
    let same : to_z w64 (of_z w64 c.args.key) ≡ c.args.key = search rules in
    let at = rw (same, ← c.self.view_is) at c.in-Ok.ensures.place in
    let is = without_known c.args.key c.self.inside.entries.items c.self.invariant (rw c.self.view_is c.requires) in
    rw (c.remove.ensures.items, at, ← is) (rising_without c.args.key c.self.inside.entries.items c.self.invariant)

pub returns-clause-value : goal.returns-clause-value
returns-clause-value g c =
    let same : to_z w64 (of_z w64 c.args.key) ≡ c.args.key = search rules in
    let at = rw (same, ← c.self.view_is) at c.in-Ok.ensures.place in
    let value = value_at_rank c.args.key c.self.inside.entries.items c.self.invariant (rw c.self.view_is c.requires) c.remove.result in
    rw (← c.self.view_is) (let read = rw at at c.remove.ensures.value in cc)

pub returns-clause-rest : goal.returns-clause-rest
returns-clause-rest g c =
    let same : to_z w64 (of_z w64 c.args.key) ≡ c.args.key = search rules in
    let at = rw (same, ← c.self.view_is) at c.in-Ok.ensures.place in
    let is = without_known c.args.key c.self.inside.entries.items c.self.invariant (rw c.self.view_is c.requires) in
    rw (c.remove.ensures.items, at, ← c.self.view_is) (sym is)
