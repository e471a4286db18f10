use Rattle.std.proofs.Common.{rules, ◌≡◌, ◌++◌, OnOk, subst, w64, to_z, of_z}
use Rattle.sig_diff.specs.Replaying.{replayed}
use Rattle.sig_sort.proofs.Points.{update_arm}
use Rattle.sig_sort.proofs.sorting.sorted.Goals as goal

pub returns-in-UpdateAt-clause-given : goal.returns-in-UpdateAt-clause-given
returns-in-UpdateAt-clause-given g c =
    let same : to_z w64 (of_z w64 c.in-UpdateAt.value) ≡ c.in-UpdateAt.value = search rules in
    let arm = update_arm (g.M.Mapper.maps c.args.mapper.now) c.args.numbers.now c.in-UpdateAt.value (to_z w64 (of_z w64 c.in-UpdateAt.value)) same c.args.items.now c.args.diff.now c.in-UpdateAt.index c.in-UpdateAt.is in
    subst (λ diffs. OnOk c.update.result (c.update.new.given ≡ c.args.given.now ++ diffs)) arm c.update.ensures.given

pub returns-in-UpdateAt-clause-numbers : goal.returns-in-UpdateAt-clause-numbers
returns-in-UpdateAt-clause-numbers g c =
    let same : to_z w64 (of_z w64 c.in-UpdateAt.value) ≡ c.in-UpdateAt.value = search rules in
    let arm = update_arm (g.M.Mapper.maps c.args.mapper.now) c.args.numbers.now c.in-UpdateAt.value (to_z w64 (of_z w64 c.in-UpdateAt.value)) same c.args.items.now c.args.diff.now c.in-UpdateAt.index c.in-UpdateAt.is in
    subst (λ diffs. OnOk c.update.result (c.update.new.numbers ≡ replayed c.args.numbers.now diffs)) arm c.update.ensures.numbers
