use Rattle.std.proofs.Common.{rules, ◌≡◌, ◌++◌, OnOk, subst, w64, to_z, of_z}
use Rattle.sig_diff.specs.Replaying.{replayed}
use Rattle.sig_sort.proofs.Points.{updates_is}
use Rattle.sig_sort.proofs.sorting.update.Goals as goal

pub returns-clause-given : goal.returns-clause-given
returns-clause-given g c =
    let same : to_z w64 (of_z w64 c.args.value) ≡ c.args.value = search rules in
    let updated = updates_is (g.M.Mapper.maps c.args.mapper.now) c.args.numbers.now c.args.value (to_z w64 (of_z w64 c.args.value)) same c.args.items.now c.as_slice.result.now c.args.index c.rank-place.result c.as_slice.ensures c.rank-place.ensures.place in
    subst (λ diffs. OnOk c.change.result (c.change.new.given ≡ c.args.given.now ++ diffs)) updated c.change.ensures.given

pub returns-clause-numbers : goal.returns-clause-numbers
returns-clause-numbers g c =
    let same : to_z w64 (of_z w64 c.args.value) ≡ c.args.value = search rules in
    let updated = updates_is (g.M.Mapper.maps c.args.mapper.now) c.args.numbers.now c.args.value (to_z w64 (of_z w64 c.args.value)) same c.args.items.now c.as_slice.result.now c.args.index c.rank-place.result c.as_slice.ensures c.rank-place.ensures.place in
    subst (λ diffs. OnOk c.change.result (c.change.new.numbers ≡ replayed c.args.numbers.now diffs)) updated c.change.ensures.numbers
