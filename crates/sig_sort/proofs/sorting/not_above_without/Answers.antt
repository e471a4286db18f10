use Rattle.std.proofs.Common.{rules, ◌≡◌, ◌∙◌, pos, w64, to_z, of_z, true, false, is_le, get_or, remove, sym, ap, arith}
use Rattle.sig_diff.specs.Sorting.{by_key, not_above}
use Rattle.sig_diff.proofs.Sorting.{not_above_within}
use Rattle.sig_sort.proofs.Points.{count_without_one, count_without_other}
use Rattle.sig_sort.proofs.sorting.not_above_without.Goals as goal

pub returns-then-is_le-clause-place : goal.returns-then-is_le-clause-place
returns-then-is_le-clause-place g c =
    let key = g.M.Mapper.maps c.args.mapper.now in
    let number : to_z w64 (of_z w64 (get_or c.args.numbers.now c.args.index (pos 0))) ≡ get_or c.args.numbers.now c.args.index (pos 0) = search rules in
    let value : to_z w64 (of_z w64 c.args.value) ≡ c.args.value = search rules in
    let all : c.not_above-place.result ≡ not_above (by_key key) c.args.value c.args.numbers.now = c.not_above-place.ensures.place ∙ (λ i. not_above (by_key key) (value i) c.args.numbers.now) in
    let passes : is_le (by_key key (get_or c.args.numbers.now c.args.index (pos 0)) c.args.value) ≡ true =
    sym (c.is_le.ensures ∙ ap is_le c.order.ensures ∙ (λ i. is_le (by_key key (number i) (value i)))) ∙ c.if-is_le.true in
    omega (arith, all, count_without_one (λ y. is_le (by_key key y c.args.value)) c.args.numbers.now c.args.index (pos 0) c.requires.index passes)

pub returns-then-is_le-clause-within : goal.returns-then-is_le-clause-within
returns-then-is_le-clause-within g c =
    rw (returns-then-is_le-clause-place g c) (not_above_within (by_key (g.M.Mapper.maps c.args.mapper.now)) c.args.value (remove c.args.numbers.now c.args.index))

pub returns-else-is_le-clause-place : goal.returns-else-is_le-clause-place
returns-else-is_le-clause-place g c =
    let key = g.M.Mapper.maps c.args.mapper.now in
    let number : to_z w64 (of_z w64 (get_or c.args.numbers.now c.args.index (pos 0))) ≡ get_or c.args.numbers.now c.args.index (pos 0) = search rules in
    let value : to_z w64 (of_z w64 c.args.value) ≡ c.args.value = search rules in
    let all : c.not_above-place.result ≡ not_above (by_key key) c.args.value c.args.numbers.now = c.not_above-place.ensures.place ∙ (λ i. not_above (by_key key) (value i) c.args.numbers.now) in
    let fails : is_le (by_key key (get_or c.args.numbers.now c.args.index (pos 0)) c.args.value) ≡ false =
    sym (c.is_le.ensures ∙ ap is_le c.order.ensures ∙ (λ i. is_le (by_key key (number i) (value i)))) ∙ c.if-is_le.false in
    all ∙ sym (count_without_other (λ y. is_le (by_key key y c.args.value)) c.args.numbers.now c.args.index (pos 0) c.requires.index fails)

pub returns-else-is_le-clause-within : goal.returns-else-is_le-clause-within
returns-else-is_le-clause-within g c =
    rw (returns-else-is_le-clause-place g c) (not_above_within (by_key (g.M.Mapper.maps c.args.mapper.now)) c.args.value (remove c.args.numbers.now c.args.index))
