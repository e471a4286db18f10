use Rattle.std.proofs.Common.{rules, ◌≡◌, w64, to_z, of_z}
use Rattle.std.proofs.lemmas.List.Sorted.{answers_always}
use Rattle.sig_diff.proofs.Ranks.{searched}
use Rattle.sig_diff.proofs.entries.Entries.search.Goals as goal

-- the closure gives an entry's key, and the slice is the map's entries
pub returns : goal.returns
returns g c =
    let same : to_z w64 (of_z w64 c.args.key) ≡ c.args.key = search rules in
    let facts = c.binary_search_by_key.ensures in
    let by_key = facts.position (λ entry. entry.0) (answers_always _ _ _ (λ f a r after called. search rules)) in
    let told = searched (to_z w64 (of_z w64 c.args.key)) c.deref.result.now c.binary_search_by_key.result (rw c.deref.ensures.value c.self.invariant) facts.bound by_key in
    rw (← c.self.view_is, ← c.deref.ensures.value, ← same) (record { place = told.place; found = told.found })
