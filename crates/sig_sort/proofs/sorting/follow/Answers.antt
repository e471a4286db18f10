use Rattle.std.proofs.Common.{◌∙◌, ℤ, List, ap}
use Rattle.std.proofs.lemmas.Result.{on_ok_weaker}
use Rattle.sig_diff.specs.Replaying.{replayed}
use Rattle.sig_sort.specs.Sorting.{sorted_by}
use Rattle.sig_sort.proofs.Points.{ascends, in_order_next, stays_short}
use Rattle.sig_sort.proofs.sorting.follow.Goals as goal

pub sorted-requires-clause-short : goal.sorted-requires-clause-short
sorted-requires-clause-short g c =
    stays_short (g.M.Mapper.maps c.args.mapper.now) c.args.items.now c.args.numbers.now c.requires.in_order c.requires.short

pub sorted-requires-clause-ascend : goal.sorted-requires-clause-ascend
sorted-requires-clause-ascend g c =
    ascends (g.M.Mapper.maps c.args.mapper.now) c.args.items.now c.args.numbers.now c.requires.in_order

pub returns-clause-in_order : goal.returns-clause-in_order
returns-clause-in_order g c =
    let key = g.M.Mapper.maps c.args.mapper.now in
    let items = c.args.items.now in
    let numbers = c.args.numbers.now in
    let diff = c.args.diff.now in
    let next = in_order_next key items numbers c.requires.in_order diff c.requires.lawful in
    let table = λ (xs : List ℤ). replayed numbers (sorted_by key xs numbers diff) in
    let taken = c.in_ok-sorted.ensures.numbers ∙ ap table c.as_slice.ensures in
    on_ok_weaker c.apply.result (λ is. rw is (taken ∙ next)) c.apply.ensures.ok
