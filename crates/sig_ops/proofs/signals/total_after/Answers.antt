use Rattle.std.proofs.Common.{rules, arith, ◌-◌, ◌<◌, length, pos, [], ◌∷◌, slice_index_or, FitsSigned, w64}
use Rattle.std.proofs.lemmas.Bool.Decides.{nat_tests}
use Rattle.std.proofs.lemmas.Int.{ints}
use Rattle.sig_diff.proofs.Numbers.{total_append, total_insert}
use Rattle.sig_ops.specs.Kept.{all_moved, all_remove}
use Rattle.sig_ops.proofs.Totals.{total_moved, total_remove_at, total_set_at, total_take_last, total_within_79_bits}
use Rattle.sig_ops.proofs.signals.total_after.Goals as goal

pub overflow_add-result : goal.overflow_add-result
overflow_add-result c =
    let within = total_within_79_bits c.args.items.now c.requires.fit c.requires.short_before in
    let new : FitsSigned w64 c.in-InsertAt.value = search rules in
    omega (arith, ints)

pub overflow_sub-result : goal.overflow_sub-result
overflow_sub-result c =
    let within = total_within_79_bits c.args.items.now c.requires.fit c.requires.short_before in
    let old : FitsSigned w64 (slice_index_or c.args.items.now c.in-UpdateAt.index (pos 0)) = search rules in
    omega (arith, ints)

pub overflow_add-result-in-UpdateAt : goal.overflow_add-result-in-UpdateAt
overflow_add-result-in-UpdateAt c =
    let within = total_within_79_bits c.args.items.now c.requires.fit c.requires.short_before in
    let old : FitsSigned w64 (slice_index_or c.args.items.now c.in-UpdateAt.index (pos 0)) = search rules in
    let new : FitsSigned w64 c.in-UpdateAt.value = search rules in
    omega (arith, ints)

pub overflow_sub-result-in-RemoveAt : goal.overflow_sub-result-in-RemoveAt
overflow_sub-result-in-RemoveAt c =
    let within = total_within_79_bits c.args.items.now c.requires.fit c.requires.short_before in
    let old : FitsSigned w64 (slice_index_or c.args.items.now c.in-RemoveAt.index (pos 0)) = search rules in
    omega (arith, ints)

pub overflow_add-result-in-Push : goal.overflow_add-result-in-Push
overflow_add-result-in-Push c =
    let within = total_within_79_bits c.args.items.now c.requires.fit c.requires.short_before in
    let new : FitsSigned w64 c.in-Push.value = search rules in
    omega (arith, ints)

pub overflow_sub-result-in-Pop-2 : goal.overflow_sub-result-in-Pop-2
overflow_sub-result-in-Pop-2 c =
    let within = total_within_79_bits c.args.items.now c.requires.fit c.requires.short_before in
    let old : FitsSigned w64 (slice_index_or c.args.items.now (length c.args.items.now - 1) (pos 0)) = search rules in
    omega (arith, ints)

pub returns-in-InsertAt-clause-total : goal.returns-in-InsertAt-clause-total
returns-in-InsertAt-clause-total c =
    let within = total_within_79_bits c.args.items.now c.requires.fit c.requires.short_before in
    let new : FitsSigned w64 c.in-InsertAt.value = search rules in
    let after = total_insert c.args.items.now c.in-InsertAt.index c.in-InsertAt.value in
    rw c.in-InsertAt.is (omega (arith, ints))

pub returns-in-UpdateAt-clause-total : goal.returns-in-UpdateAt-clause-total
returns-in-UpdateAt-clause-total c =
    let within = total_within_79_bits c.args.items.now c.requires.fit c.requires.short_before in
    let old : FitsSigned w64 (slice_index_or c.args.items.now c.in-UpdateAt.index (pos 0)) = search rules in
    let new : FitsSigned w64 c.in-UpdateAt.value = search rules in
    let after = total_set_at c.args.items.now c.in-UpdateAt.index c.in-UpdateAt.value (search rules) in
    rw c.in-UpdateAt.is (omega (arith, ints))

pub returns-in-RemoveAt-clause-total : goal.returns-in-RemoveAt-clause-total
returns-in-RemoveAt-clause-total c =
    let within = total_within_79_bits c.args.items.now c.requires.fit c.requires.short_before in
    let old : FitsSigned w64 (slice_index_or c.args.items.now c.in-RemoveAt.index (pos 0)) = search rules in
    let after = total_remove_at c.args.items.now c.in-RemoveAt.index (search rules) in
    rw c.in-RemoveAt.is (omega (arith, ints))

pub returns-in-RemoveAt-clause-fit : goal.returns-in-RemoveAt-clause-fit
returns-in-RemoveAt-clause-fit c = rw c.in-RemoveAt.is (all_remove (FitsSigned w64) c.args.items.now c.in-RemoveAt.index c.requires.fit)

pub returns-in-Move-clause-total : goal.returns-in-Move-clause-total
returns-in-Move-clause-total c =
    let lawful = rw c.in-Move.is at c.requires.lawful in
    let inside : c.in-Move.old_index < length c.args.items.now = grind (arith, nat_tests) in
    let after = total_moved c.args.items.now c.in-Move.old_index c.in-Move.new_index inside in
    rw c.in-Move.is (omega (arith, ints))

pub returns-in-Move-clause-fit : goal.returns-in-Move-clause-fit
returns-in-Move-clause-fit c =
    let lawful = rw c.in-Move.is at c.requires.lawful in
    let inside : c.in-Move.old_index < length c.args.items.now = grind (arith, nat_tests) in
    rw c.in-Move.is (all_moved (FitsSigned w64) c.args.items.now c.in-Move.old_index c.in-Move.new_index inside c.requires.fit)

pub returns-in-Push-clause-total : goal.returns-in-Push-clause-total
returns-in-Push-clause-total c =
    let within = total_within_79_bits c.args.items.now c.requires.fit c.requires.short_before in
    let new : FitsSigned w64 c.in-Push.value = search rules in
    let after = total_append c.args.items.now (c.in-Push.value ∷ []) in
    rw c.in-Push.is (omega (arith, ints))

pub returns-in-Pop-clause-total : goal.returns-in-Pop-clause-total
returns-in-Pop-clause-total c =
    let within = total_within_79_bits c.args.items.now c.requires.fit c.requires.short_before in
    let old : FitsSigned w64 (slice_index_or c.args.items.now (length c.args.items.now - 1) (pos 0)) = search rules in
    let after = total_take_last c.args.items.now (search rules) in
    rw c.in-Pop.is (omega (arith, ints))
