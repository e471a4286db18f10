-- How many elements pass before a place that is behind another one.
use Rattle.std.proofs.Common.{◌≡◌, ◌∙◌, ℕ, suc, ◌+◌, ◌-◌, ◌<◌, ◌≤◌, Bool, List, ◌++◌, length, take, drop, remove, count_by, cond, ap, subst, add-one, arith}
use Rattle.std.proofs.lemmas.Grind.{common_steps}
use Rattle.std.proofs.lemmas.List.Sums.{sum_by-append}
use Rattle.std.proofs.Math.Seq.{take-add, take-append-add}
use Rattle.sig_diff.specs.Passing.{passing_before}

module _ {T : Type 0} (test : T → Bool) (xs : List T) where
  -- those before the first place, and those from there on
  pub passing_before_behind : (from index : ℕ) → from ≤ index → passing_before test xs index ≡ passing_before test xs from + passing_before test (drop from xs) (index - from)
  passing_before_behind from index behind =
      let sum : from + (index - from) ≡ index = omega arith in
      let cut : take index xs ≡ take from xs ++ take (index - from) (drop from xs) = subst (λ (n : ℕ). take n xs ≡ take from xs ++ take (index - from) (drop from xs)) sum (take-add from (index - from) xs) in
      ap (count_by test) cut ∙ sum_by-append (λ x. cond (test x) 1 0) (take from xs) (take (index - from) (drop from xs))

  -- a place before the element that is left out
  pub passing_before_left_out : (left_out index : ℕ) → left_out < length xs → index ≤ left_out → passing_before test (remove xs left_out) index ≡ passing_before test xs index
  passing_before_left_out left_out index within before = grind (arith, common_steps)

  -- a place behind the element that is left out
  pub passing_behind_left_out : (left_out index : ℕ) → left_out < length xs → left_out < index →
      passing_before test (remove xs left_out) index ≡ passing_before test xs left_out + passing_before test (drop (left_out + 1) xs) (index - left_out)
  passing_behind_left_out left_out index within behind =
      let front : length (take left_out xs) + (index - left_out) ≡ index = grind (arith, common_steps) in
      let cut : take index (remove xs left_out) ≡ take left_out xs ++ take (index - left_out) (drop (suc left_out) xs) =
      subst (λ (n : ℕ). take n (remove xs left_out) ≡ take left_out xs ++ take (index - left_out) (drop (suc left_out) xs)) front
      (take-append-add (take left_out xs) (drop (suc left_out) xs) (index - left_out)) in
      rw add-one (ap (count_by test) cut ∙ sum_by-append (λ x. cond (test x) 1 0) (take left_out xs) (take (index - left_out) (drop (suc left_out) xs)))
