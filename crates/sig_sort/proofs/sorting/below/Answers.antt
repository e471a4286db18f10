use Rattle.std.proofs.Common.{rules, is_lt}
use Rattle.std.proofs.lemmas.Fn.{always_returns_same}
use Rattle.sig_diff.specs.Sorting.{by_key}
use Rattle.sig_diff.proofs.Sorting.{by_key_total}
use Rattle.sig_sort.proofs.Points.{count_at_point, parted_below}
use Rattle.sig_sort.proofs.sorting.below.Goals as goal

pub returns : goal.returns
returns g c =
    let key = g.M.Mapper.maps c.args.mapper.now in
    let parted = parted_below (by_key_total key) c.args.numbers.now c.args.value c.requires.ascend in
    let point = c.partition_point.ensures.partitioned (λ y. is_lt (by_key key y c.args.value)) (always_returns_same _ _ _ (λ a r after called. search rules)) parted in
    count_at_point (λ y. is_lt (by_key key y c.args.value)) c.args.numbers.now c.partition_point.result c.partition_point.ensures.bound point
