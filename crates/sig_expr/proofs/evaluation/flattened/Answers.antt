use Rattle.std.proofs.Common.{rules, ◌≡◌, ◌∙◌, ℕ, zero, suc, ◌<◌, ℤ, pos, List, [], ◌∷◌, ◌++◌, length, drop, get_or, append_assoc, add-one, arith, w64, to_z, of_z}
use Rattle.std.specs.List.{flat_map}
use Rattle.sig_diff.specs.Choosing.{list_for}
use Rattle.sig_expr.proofs.evaluation.flattened.Goals as goal

-- the next number's list, and then those of the numbers after it
step : (f : ℤ → List ℤ) (numbers : List ℤ) (index : ℕ) (all : List ℤ) → index < length numbers →
    (all ++ f (get_or numbers index (pos 0))) ++ flat_map f (drop (suc index) numbers) ≡ all ++ flat_map f (drop index numbers)
step f [] index all within = absurd (omega arith)
step f (x ∷ numbers) zero all within = append_assoc all (f x) (flat_map f numbers)
step f (x ∷ numbers) (suc index) all within = step f numbers index all (omega arith)

pub numbers-preserved : goal.numbers-preserved
numbers-preserved c =
    let number = get_or c.args.numbers.now c.numbers.number-index (pos 0) in
    let same : to_z w64 (of_z w64 number) ≡ number = search rules in
    let pushed = rw same at c.in_ok-push_list.ensures in
    rw (pushed, add-one) (step (list_for c.args.lists.now) c.args.numbers.now c.numbers.number-index c.numbers.all.items c.numbers-test.true ∙ c.numbers.invariant)
