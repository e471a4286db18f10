use Rattle.std.proofs.Common.{rules, ◌≡◌, sym, w64, to_z, of_z}
use Rattle.sig_diff.proofs.Ranks.{with_value_new, rising_with_value}
use Rattle.sig_diff.proofs.entries.Entries.insert.Goals as goal

pub invariant_of-self-in-Err : goal.invariant_of-self-in-Err
invariant_of-self-in-Err g c =
    let same : to_z w64 (of_z w64 c.args.key) ≡ c.args.key = search rules in
    let at = rw (same, ← c.self.view_is) at c.in-Err.ensures.place in
    let items = rw same at c.in_ok-insert-in-Err.ensures.items in
    let is = with_value_new c.args.key c.args.value c.self.inside.entries.items c.self.invariant (rw c.self.view_is c.requires) in
    rw (items, at, ← is) (rising_with_value c.args.key c.args.value c.self.inside.entries.items c.self.invariant)

pub returns-clause-ok : goal.returns-clause-ok
returns-clause-ok g c =
    let same : to_z w64 (of_z w64 c.args.key) ≡ c.args.key = search rules in
    let at = rw (same, ← c.self.view_is) at c.in-Err.ensures.place in
    let items = rw same at c.in_ok-insert-in-Err.ensures.items in
    let is = with_value_new c.args.key c.args.value c.self.inside.entries.items c.self.invariant (rw c.self.view_is c.requires) in
    rw (items, at, ← c.self.view_is) (sym is)
