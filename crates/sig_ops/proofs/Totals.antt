-- Totals as a list is edited, and that totals fit 128 bits.
use Rattle.std.proofs.Common.{◌≡◌, ◌∙◌, ℕ, pos, ◌+◌, ◌-◌, ◌*◌, ◌^◌, ◌<◌, ◌≤◌, ℤ, ◌+ℤ◌, List, length, take, remove, get_or, slice_set, sym, ap, arith}
use Rattle.std.proofs.lemmas.Int.{ints}
use Rattle.std.proofs.lemmas.List.Sums.{fold_more}
use Rattle.std.proofs.lemmas.Option.{slice_get-get_or}
use Rattle.std.specs.Int.RustNames.{FitsSigned}
use Rattle.std.specs.List.{All}
use mir.Syntax.{w64}
use Rattle.sig_diff.specs.Differences.{inserted, moved}
use Rattle.sig_diff.specs.Numbers.{total}
use Rattle.sig_diff.proofs.Filtered.{remove_last}
use Rattle.sig_diff.proofs.Numbers.{total_insert, total_remove, total_slice_set, total_of_fitting, IsWithin}

-- the total with the number at an index less
pub total_remove_at : (xs : List ℤ) (index : ℕ) → index < length xs → total (remove xs index) +ℤ get_or xs index (pos 0) ≡ total xs
total_remove_at xs index within = total_remove xs index (get_or xs index (pos 0)) (slice_get-get_or xs index (pos 0) within)

-- the total with the number at an index changed
pub total_set_at : (xs : List ℤ) (index : ℕ) (x : ℤ) → index < length xs → total (slice_set xs index x) +ℤ get_or xs index (pos 0) ≡ total xs +ℤ x
total_set_at xs index x within = total_slice_set xs index (get_or xs index (pos 0)) x (slice_get-get_or xs index (pos 0) within)

-- the total with a number moved
pub total_moved : (xs : List ℤ) (old_index new_index : ℕ) → old_index < length xs → total (moved xs old_index new_index) ≡ total xs
total_moved xs old_index new_index within =
    ap (λ item. total (inserted (remove xs old_index) new_index item)) (slice_get-get_or xs old_index (pos 0) within) ∙ total_insert (remove xs old_index) new_index (get_or xs old_index (pos 0)) ∙ total_remove_at xs old_index within

-- the total with the last number less
pub total_take_last : (xs : List ℤ) → 0 < length xs → total (take (length xs - 1) xs) +ℤ get_or xs (length xs - 1) (pos 0) ≡ total xs
total_take_last xs some = ap (λ ys. total ys +ℤ get_or xs (length xs - 1) (pos 0)) (sym (remove_last xs)) ∙ total_remove_at xs (length xs - 1) (omega arith)

-- the total of the first numbers and the next
pub total_more : (xs : List ℤ) (index : ℕ) → index < length xs → total (take (index + 1) xs) ≡ total (take index xs) +ℤ get_or xs index (pos 0)
total_more xs index within = fold_more ◌+ℤ◌ (pos 0) xs index (pos 0) within

-- the total of at most 65536 numbers of 64 bits is at most 2 ^ 79 in size
pub total_within_79_bits : (xs : List ℤ) → All (FitsSigned w64) xs → length xs ≤ 65536 → IsWithin (2 ^ 79) (total xs)
total_within_79_bits xs fit short =
    let within = total_of_fitting xs fit in
    let most : length xs * 2 ^ 63 ≤ 2 ^ 79 = omega arith in
    record { above = omega (arith, ints); below = omega (arith, ints) }
