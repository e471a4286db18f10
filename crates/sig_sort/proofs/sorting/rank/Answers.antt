use Rattle.std.proofs.Common.{rules, ◌≡◌, ◌∙◌, pos, w64, to_z, of_z, get_or}
use Rattle.sig_diff.specs.Sorting.{by_key, below}
use Rattle.sig_sort.proofs.Points.{rank_below}
use Rattle.sig_sort.proofs.sorting.rank.Goals as goal

pub returns-clause-within : goal.returns-clause-within
returns-clause-within g c =
    let key = g.M.Mapper.maps c.args.mapper.now in
    let number : to_z w64 (of_z w64 (get_or c.args.items.now c.args.index (pos 0))) ≡ get_or c.args.items.now c.args.index (pos 0) = search rules in
    rank_below key c.args.items.now c.args.numbers.now c.requires.in_order c.args.index c.below.result c.requires.index
    (c.below.ensures ∙ (λ i. below (by_key key) (number i) c.args.numbers.now))
