-- An item that moves is a rotation of the items between its two places.
use Rattle.std.proofs.Common.{◌≡◌, ℕ, zero, suc, ◌+◌, ◌<◌, List, [], ◌∷◌, ◌++◌, length, take, drop, remove, slice_get, Option, None, Some, refl, ap, append_assoc, arith}
use borrow.Rule.Slice.PartMut.{mid_of, put_mid}
use Rattle.sig_diff.specs.Differences.{inserted, moved}

-- an item that comes in behind a first one
pub inserted_behind : {T : Type 0} (y : T) (ys : List T) (index : ℕ) (item : Option T) → inserted (y ∷ ys) (suc index) item ≡ y ∷ inserted ys index item
inserted_behind y ys index None = refl
inserted_behind y ys index (Some x) = refl

moved_behind : {T : Type 0} (y : T) (ys : List T) (old_index new_index : ℕ) → moved (y ∷ ys) (suc old_index) (suc new_index) ≡ y ∷ moved ys old_index new_index
moved_behind y ys old_index new_index = inserted_behind y (remove ys old_index) new_index (slice_get ys old_index)

-- to a later place: those between come before it
pub moved_later : {T : Type 0} (xs : List T) (index count : ℕ) → index + count < length xs →
    put_mid index (suc count) xs (drop 1 (mid_of index (suc count) xs) ++ take 1 (mid_of index (suc count) xs)) ≡ moved xs index (index + count)
moved_later [] index count within = absurd (omega arith)
moved_later (x ∷ xs) zero count within =
    let start : 0 + count ≡ count = omega arith in
    rw start (append_assoc (take count xs) (x ∷ []) (drop count xs))
moved_later (y ∷ xs) (suc index) count within =
    let place : suc index + count ≡ suc (index + count) = omega arith in
    rw (place, moved_behind y xs index (index + count)) (ap (λ ys. y ∷ ys) (moved_later xs index count (omega arith)))

last_of : {T : Type 0} (xs : List T) (count : ℕ) (x : T) → slice_get xs count ≡ Some x → drop count (take (suc count) xs) ≡ x ∷ []
last_of [] count x found = cc
last_of (y ∷ xs) zero x found = cc
last_of (y ∷ xs) (suc count) x found = last_of xs count x found

first_of : {T : Type 0} (xs : List T) (count : ℕ) → take count (take (suc count) xs) ≡ take count xs
first_of [] zero = refl
first_of [] (suc count) = refl
first_of (y ∷ xs) zero = refl
first_of (y ∷ xs) (suc count) = ap (λ ys. y ∷ ys) (first_of xs count)

moved_first : {T : Type 0} (xs : List T) (count : ℕ) (item : Option T) → slice_get xs count ≡ item → count < length xs →
    (drop count (take (suc count) xs) ++ take count (take (suc count) xs)) ++ drop (suc count) xs ≡ inserted (remove xs count) 0 item
moved_first [] count None found within = absurd (omega arith)
moved_first (y ∷ xs) zero None found within = cc
moved_first (y ∷ xs) (suc count) None found within = absurd (none_within xs count found (omega arith))
  where
    none_within : {T : Type 0} (xs : List T) (count : ℕ) → slice_get xs count ≡ None → count < length xs → ⊥
    none_within [] count found within = absurd (omega arith)
    none_within (y ∷ xs) zero found within = cc
    none_within (y ∷ xs) (suc count) found within = none_within xs count found (omega arith)
moved_first xs count (Some x) found within = rw (last_of xs count x found, first_of xs count) refl

-- to an earlier place: those between come behind it
pub moved_earlier : {T : Type 0} (xs : List T) (index count : ℕ) → index + count < length xs →
    put_mid index (suc count) xs (drop count (mid_of index (suc count) xs) ++ take count (mid_of index (suc count) xs)) ≡ moved xs (index + count) index
moved_earlier xs zero count within =
    let start : 0 + count ≡ count = omega arith in
    rw start (moved_first xs count (slice_get xs count) refl (omega arith))
moved_earlier [] (suc index) count within = absurd (omega arith)
moved_earlier (y ∷ xs) (suc index) count within =
    let place : suc index + count ≡ suc (index + count) = omega arith in
    rw (place, moved_behind y xs (index + count) index) (ap (λ ys. y ∷ ys) (moved_earlier xs index count (omega arith)))
