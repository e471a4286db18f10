-- Totals after edits and how large they can get, classes, and clamped numbers.
use Rattle.std.proofs.Common.{◌≡◌, ◌∙◌, ℕ, zero, suc, ◌+◌, ◌*◌, ◌^◌, ◌<◌, ℤ, pos, negsuc, ◌+ℤ◌, List, [], ◌∷◌, ◌++◌, length, insert, remove, slice_get, slice_set, Some, arith}
use Rattle.std.proofs.Math.Nat.{suc-mul}
use Rattle.std.proofs.lemmas.Int.{ints}
use Rattle.std.proofs.lemmas.List.Elements.{All-head, All-tail, All-weaker}
use Rattle.std.proofs.lemmas.List.Sums.{fold-append}
use Rattle.std.specs.Int.RustNames.{FitsSigned}
use Rattle.std.specs.List.{fold, All}
use Rattle.std.specs.Prelude.{neg_ℤ, ◌≤ℤ◌, ◌<ℤ◌}
use mir.Syntax.{w64}
use Rattle.sig_diff.specs.Numbers.{clamped, total, class_of}

-- ---- totals

total_from : (start : ℤ) (xs : List ℤ) → fold ◌+ℤ◌ start xs ≡ start +ℤ total xs
total_from start [] = omega (arith, ints)
total_from start (x ∷ xs) = total_from (start +ℤ x) xs ∙ (let next : total (x ∷ xs) ≡ (pos 0 +ℤ x) +ℤ total xs = total_from (pos 0 +ℤ x) xs in omega (arith, ints))

-- the total with one more number at the front
pub total_cons : (x : ℤ) (xs : List ℤ) → total (x ∷ xs) ≡ x +ℤ total xs
total_cons x xs = let next : total (x ∷ xs) ≡ (pos 0 +ℤ x) +ℤ total xs = total_from (pos 0 +ℤ x) xs in omega (arith, ints)

-- the total of two lists is the sum of theirs
pub total_append : (xs ys : List ℤ) → total (xs ++ ys) ≡ total xs +ℤ total ys
total_append xs ys = fold-append ◌+ℤ◌ (pos 0) xs ys ∙ total_from (total xs) ys

-- the total with one more number
pub total_insert : (xs : List ℤ) (index : ℕ) (x : ℤ) → total (insert xs index x) ≡ total xs +ℤ x
total_insert xs zero x = let front = total_cons x xs in omega (arith, ints)
total_insert [] (suc index) x = omega (arith, ints)
total_insert (y ∷ xs) (suc index) x =
    let front = total_cons y xs in let edited = total_cons y (insert xs index x) in let rest = total_insert xs index x in omega (arith, ints)

-- the total with one number less
pub total_remove : (xs : List ℤ) (index : ℕ) (x : ℤ) → slice_get xs index ≡ Some x → total (remove xs index) +ℤ x ≡ total xs
total_remove [] index x is = cc
total_remove (y ∷ xs) zero x is = let same : y ≡ x = cc in let front = total_cons y xs in omega (arith, ints)
total_remove (y ∷ xs) (suc index) x is =
    let front = total_cons y xs in let edited = total_cons y (remove xs index) in let rest = total_remove xs index x is in omega (arith, ints)

-- the total with one number changed
pub total_slice_set : (xs : List ℤ) (index : ℕ) (x y : ℤ) → slice_get xs index ≡ Some x → total (slice_set xs index y) +ℤ x ≡ total xs +ℤ y
total_slice_set [] index x y is = cc
total_slice_set (z ∷ xs) zero x y is =
    let same : z ≡ x = cc in let front = total_cons z xs in let edited = total_cons y xs in omega (arith, ints)
total_slice_set (z ∷ xs) (suc index) x y is =
    let front = total_cons z xs in let edited = total_cons z (slice_set xs index y) in let rest = total_slice_set xs index x y is in omega (arith, ints)

-- ---- how large a total can get

-- from -bound to bound
pub record IsWithin (bound : ℕ) (x : ℤ) : Type 0 where
  pub above : neg_ℤ (pos bound) ≤ℤ x
  pub below : x ≤ℤ pos bound

within_sum : (a b : ℕ) (x y : ℤ) → IsWithin a x → IsWithin b y → IsWithin (a + b) (x +ℤ y)
within_sum a b x y first second = record { above = omega (arith, ints); below = omega (arith, ints) }

-- where each number is at most `bound` in size, the total is at most `bound` for each of them
pub total_within : (bound : ℕ) (xs : List ℤ) → All (IsWithin bound) xs → IsWithin (length xs * bound) (total xs)
total_within bound [] within = record { above = omega (arith, ints); below = omega (arith, ints) }
total_within bound (x ∷ xs) within =
    let more : suc (length xs) * bound ≡ bound + length xs * bound = omega (arith, suc-mul (length xs) bound) in
    rw (total_cons x xs, more)
    (within_sum bound (length xs * bound) x (total xs) (All-head (IsWithin bound) x xs within) (total_within bound xs (All-tail (IsWithin bound) x xs within)))

within_from_fits : (x : ℤ) → FitsSigned w64 x → IsWithin (2 ^ 63) x
within_from_fits x fits = record { above = omega (arith, ints); below = omega (arith, ints) }

-- the same where each number is from -2 ^ 63 to 2 ^ 63 - 1
pub total_of_fitting : (xs : List ℤ) → All (FitsSigned w64) xs → IsWithin (length xs * 2 ^ 63) (total xs)
total_of_fitting xs fit = total_within (2 ^ 63) xs (All-weaker (FitsSigned w64) (IsWithin (2 ^ 63)) within_from_fits xs fit)

-- ---- classes

-- a class is below the number of classes
pub class_of_below : (count : ℕ) (x : ℤ) → 0 < count → class_of count x < count
class_of_below count (pos n) some = omega arith
class_of_below count (negsuc n) some = omega arith

-- ---- clamped numbers

-- a clamped number fits 64 bits
pub clamped_fits : (x : ℤ) → FitsSigned w64 (clamped x)
clamped_fits (pos n) = omega (arith, ints)
clamped_fits (negsuc n) = omega (arith, ints)

-- the same as bounds
pub clamped_bounds : (x : ℤ) → (neg_ℤ (pos (2 ^ 63)) ≤ℤ clamped x) × (clamped x <ℤ pos (2 ^ 63))
clamped_bounds x = let fits = clamped_fits x in (omega (arith, ints), omega (arith, ints))

-- a number within the bounds stays as it is
pub clamped_same : (x : ℤ) → neg_ℤ (pos (2 ^ 63)) ≤ℤ x → x <ℤ pos (2 ^ 63) → clamped x ≡ x
clamped_same (pos n) above below = grind (arith, ints)
clamped_same (negsuc n) above below = grind (arith, ints)
