use Rattle.std.proofs.Common.{rules, ◌∙◌, ap}
use Rattle.std.proofs.lemmas.Fn.{always_returns_same}
use Rattle.sig_diff.specs.Sorting.{by_key, in_order}
use Rattle.sig_diff.proofs.Sorting.{in_order_unique, in_order_by_key, by_key_total, by_key_antisymmetric}
use Rattle.sig_diff.proofs.orders.in_order.Goals as goal

-- the closure gives a number's image and then the number, so a sort by it is one by the order of keys
pub returns : goal.returns
returns g c =
    let image = g.M.Mapper.maps c.args.key.now in
    let sorts = c.sort_unstable_by_key.ensures in
    let sorted = sorts.sorted (λ number. (image number, number)) (always_returns_same _ _ _ (λ a r after called. search rules)) in
    let unique = in_order_unique (by_key_total image) (by_key_antisymmetric image) c.into_vec-numbers.result.items c.sort_unstable_by_key.new.self.items sorts.permutation sorted in
    let numbers = c.from_vec.ensures ∙ unique ∙ ap (in_order (by_key image)) c.into_vec-numbers.ensures in
    record { numbers = numbers; sorted = in_order_by_key image c.args.items _ numbers }
