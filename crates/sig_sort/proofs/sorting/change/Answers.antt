use Rattle.std.proofs.Common.{rules, ◌≡◌, ◌++◌, OnOk, subst, w64, to_z, of_z}
use Rattle.sig_diff.specs.Replaying.{replayed}
use Rattle.sig_sort.proofs.Points.{changes_is}
use Rattle.sig_sort.proofs.sorting.change.Goals as goal

pub returns-clause-given : goal.returns-clause-given
returns-clause-given g c =
    let same : to_z w64 (of_z w64 c.args.value) ≡ c.args.value = search rules in
    let changed = changes_is (g.M.Mapper.maps c.args.mapper.now) c.args.numbers.now c.args.value (to_z w64 (of_z w64 c.args.value)) same c.as_slice.result.now c.args.index c.not_above_without-place.result c.as_slice.ensures c.not_above_without-place.ensures.place in
    subst (λ diffs. OnOk c.exchange.result (c.exchange.new.given ≡ c.args.given.now ++ diffs)) changed c.exchange.ensures.given

pub returns-clause-numbers : goal.returns-clause-numbers
returns-clause-numbers g c =
    let same : to_z w64 (of_z w64 c.args.value) ≡ c.args.value = search rules in
    let changed = changes_is (g.M.Mapper.maps c.args.mapper.now) c.args.numbers.now c.args.value (to_z w64 (of_z w64 c.args.value)) same c.as_slice.result.now c.args.index c.not_above_without-place.result c.as_slice.ensures c.not_above_without-place.ensures.place in
    subst (λ diffs. OnOk c.exchange.result (c.exchange.new.numbers ≡ replayed c.args.numbers.now diffs)) changed c.exchange.ensures.numbers
