use Rattle.std.proofs.Common.{rules, arith, slice_index_or, pos, FitsSigned, w64, take}
use Rattle.std.proofs.lemmas.Int.{ints}
use Rattle.std.proofs.lemmas.List.{length-take-le}
use Rattle.std.proofs.lemmas.List.Elements.{All-more}
use Rattle.sig_ops.proofs.Totals.{total_more, total_within_79_bits}
use Rattle.sig_ops.proofs.signals.exact_total.Goals as goal

pub overflow_add-total : goal.overflow_add-total
overflow_add-total c =
    let item : FitsSigned w64 (slice_index_or c.args.items.now c.items.item-index (pos 0)) = search rules in
    let long = length-take-le c.items.item-index c.args.items.now c.items.auto.item-index-end in
    let within = total_within_79_bits (take c.items.item-index c.args.items.now) c.items.invariant.fit (omega arith) in
    omega (arith, ints)

pub items-preserved : goal.items-preserved
items-preserved c =
    let item : FitsSigned w64 (slice_index_or c.args.items.now c.items.item-index (pos 0)) = search rules in
    let long = length-take-le c.items.item-index c.args.items.now c.items.auto.item-index-end in
    let within = total_within_79_bits (take c.items.item-index c.args.items.now) c.items.invariant.fit (omega arith) in
    let more = total_more c.args.items.now c.items.item-index c.items-test.true in
    record { total = omega (arith, ints); fit = All-more (FitsSigned w64) c.args.items.now c.items.item-index (pos 0) c.items-test.true c.items.invariant.fit item }
