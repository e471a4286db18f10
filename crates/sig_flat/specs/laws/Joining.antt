-- What two lists, one behind the other, give for a difference of one of them leads from the two to the two after it.
use Rattle.std.specs.Prelude.{◌≡◌, ℕ, suc, ◌+◌, ◌-◌, ◌<◌, ◌==◌, ℤ, List, [], ◌∷◌, ◌++◌, length, remove, slice_get, get_or, Bool, true, false, if◌then◌else◌, refl}
use Rattle.std.proofs.Common.{◌∙◌, ap, append_assoc, arith, subst, zero-add}
use Rattle.std.proofs.lemmas.Bool.{eqb-true}
use Rattle.std.proofs.lemmas.Bool.Decides.{nat_tests}
use Rattle.std.proofs.lemmas.Grind.{common_steps}
use Rattle.std.proofs.lemmas.List.{append-nil, get_or_append_left, length-append, nil_from_length, set-append_left, set-append_right}
use Rattle.std.proofs.lemmas.List.Edits.{insert-append_left, insert-append_right, length-remove, remove-append_left, remove-append_right}
use Rattle.std.proofs.lemmas.Option.{slice_get-get_or}
use Rattle.std.proofs.Math.Seq.{take-append-add}
use Rattle.sig_diff.proofs.Filtered.{remove_last}
use Rattle.sig_diff.proofs.Rotated.{inserted_behind}
use Rattle.sig_diff.specs.Differences.{IsLawful, applied, moved}
use Rattle.sig_diff.specs.declared.differences.VecDiff.{VecDiff}
use Rattle.sig_diff.specs.declared.differences.VecDiff.TheVariants.{Replace, InsertAt, UpdateAt, RemoveAt, Move, Push, Pop, Clear}
use Rattle.sig_flat.specs.Joining.{Halves, left_gives, right_gives}
use Rattle.sig_flat.specs.Runs.{inserts, pops, pushes, removes}
use Rattle.sig_flat.specs.laws.Runs.{inserts_lead, one_comes, pops_lead, pushes_lead, removes_lead}
use Rattle.sig_ops.specs.Leading.{LeadsTo}
use Rattle.sig_ops.specs.laws.Leading.{leads_append, leads_one}

module _ {T : Type 0} where
  -- ---- an element moves in one of two lists

  pub moved_left : (left right : List T) (old_index new_index : ℕ) → old_index < length left → new_index < length left →
      moved (left ++ right) old_index new_index ≡ moved left old_index new_index ++ right
  moved_left [] right old_index new_index old new = absurd (omega arith)
  moved_left (x ∷ left) right old_index new_index old new =
      let rest = length-remove (x ∷ left) old_index old in
      let within : old_index < length (x ∷ left ++ right) = omega (arith, old, length-append (x ∷ left) right) in
      rw (slice_get-get_or (x ∷ left) old_index x old, slice_get-get_or (x ∷ left ++ right) old_index x within, get_or_append_left (x ∷ left) right x old_index old, remove-append_left (x ∷ left) right old_index old)
      (insert-append_left (remove (x ∷ left) old_index) right new_index (get_or (x ∷ left) old_index x) (omega (arith, rest, new)))

  pub moved_right : (left right : List T) (old_index new_index : ℕ) → moved (left ++ right) (length left + old_index) (length left + new_index) ≡ left ++ moved right old_index new_index
  moved_right [] right old_index new_index = rw (zero-add old_index, zero-add new_index) refl
  moved_right (x ∷ left) right old_index new_index =
      let old : length (x ∷ left) + old_index ≡ suc (length left + old_index) = omega arith in
      let new : length (x ∷ left) + new_index ≡ suc (length left + new_index) = omega arith in
      let found = slice_get (left ++ right) (length left + old_index) in
      rw (old, new) (inserted_behind x (remove (left ++ right) (length left + old_index)) (length left + new_index) found ∙ ap (λ ys. x ∷ ys) (moved_right left right old_index new_index))

  -- ---- one difference, or others where a list is in the way

  edited : (xs : List T) (diff : VecDiff T) (ys : List T) → applied xs diff ≡ ys → IsLawful diff (length xs) → LeadsTo xs (diff ∷ []) ys
  edited xs diff ys is lawful = rw (← is) (leads_one xs diff lawful)

  one_or : (xs ys : List T) (diff : VecDiff T) (others : List (VecDiff T)) (one : Bool) → (one ≡ true → LeadsTo xs (diff ∷ []) ys) → LeadsTo xs others ys → LeadsTo xs (if one then diff ∷ [] else others) ys
  one_or xs ys diff others true first second = first refl
  one_or xs ys diff others false first second = second

  left_alone : (left right : List T) (diff : VecDiff T) (others : List (VecDiff T)) → IsLawful diff (length left) → LeadsTo (left ++ right) others (applied left diff ++ right) →
      LeadsTo (left ++ right) (if length right == 0 then diff ∷ [] else others) (applied left diff ++ right)
  left_alone left right diff others lawful =
      one_or (left ++ right) (applied left diff ++ right) diff others (length right == 0)
      (λ none. rw (nil_from_length right (eqb-true (length right) 0 none), append-nil left, append-nil (applied left diff)) (leads_one left diff lawful))

  right_alone : (left right : List T) (diff : VecDiff T) (others : List (VecDiff T)) → IsLawful diff (length right) → LeadsTo (left ++ right) others (left ++ applied right diff) →
      LeadsTo (left ++ right) (if length left == 0 then diff ∷ [] else others) (left ++ applied right diff)
  right_alone left right diff others lawful =
      one_or (left ++ right) (left ++ applied right diff) diff others (length left == 0)
      (λ none. rw (nil_from_length left (eqb-true (length left) 0 none)) (leads_one right diff lawful))

  -- ---- lists that become others

  left_becomes : (left right values : List T) → LeadsTo (left ++ right) (removes (length left) 0 ++ inserts 0 values) (values ++ right)
  left_becomes left right values =
      leads_append (left ++ right) (removes (length left) 0) right (inserts 0 values) (values ++ right) (removes_lead [] left right) (inserts_lead [] values right)
      (omega (arith, length-append left right))

  right_becomes : (left right values : List T) → LeadsTo (left ++ right) (pops (length right) ++ pushes values) (left ++ values)
  right_becomes left right values =
      leads_append (left ++ right) (pops (length right)) left (pushes values) (left ++ values) (pops_lead left right) (pushes_lead left values)
      (omega (arith, length-append left right))

-- ---- the two lists

place_behind : (left index : ℕ) → left + index - left ≡ index
place_behind left index = omega arith

abbrev lengths : List ℤ → List ℤ → Halves
lengths left right = record { left = length left; right = length right }

left_at : (left right : List ℤ) (diff : VecDiff ℤ) → IsLawful diff (length left) → LeadsTo (left ++ right) (left_gives (lengths left right) diff) (applied left diff ++ right)
left_at left right (Replace values) lawful = left_alone left right (Replace values) _ lawful (left_becomes left right values)
left_at left right (InsertAt index value) lawful =
    edited (left ++ right) (InsertAt index value) _ (insert-append_left left right index value (grind (arith, nat_tests))) (grind (arith, common_steps, nat_tests))
left_at left right (UpdateAt index value) lawful =
    edited (left ++ right) (UpdateAt index value) _ (set-append_left left right index value (grind (arith, nat_tests))) (grind (arith, common_steps, nat_tests))
left_at left right (RemoveAt index) lawful =
    edited (left ++ right) (RemoveAt index) _ (remove-append_left left right index (grind (arith, nat_tests))) (grind (arith, common_steps, nat_tests))
left_at left right (Move old_index new_index) lawful =
    edited (left ++ right) (Move old_index new_index) _ (moved_left left right old_index new_index (grind (arith, nat_tests)) (grind (arith, nat_tests))) (grind (arith, common_steps, nat_tests))
left_at left right (Push value) lawful =
    left_alone left right (Push value) _ lawful (rw (append_assoc left (value ∷ []) right) (one_comes left value right))
left_at left right Pop lawful =
    let some : 0 < length left = grind (arith, nat_tests) in
    left_alone left right Pop _ lawful
    (edited (left ++ right) (RemoveAt (length left - 1)) _ (remove-append_left left right (length left - 1) (omega (arith, some)) ∙ ap (λ xs. xs ++ right) (remove_last left)) (grind (arith, common_steps, nat_tests)))
left_at left right Clear lawful = left_alone left right Clear _ lawful (removes_lead [] left right)

right_at : (left right : List ℤ) (diff : VecDiff ℤ) → IsLawful diff (length right) → LeadsTo (left ++ right) (right_gives (lengths left right) diff) (left ++ applied right diff)
right_at left right (Replace values) lawful = right_alone left right (Replace values) _ lawful (right_becomes left right values)
right_at left right (InsertAt index value) lawful =
    edited (left ++ right) (InsertAt (length left + index) value) _ (rw (place_behind (length left) index) at (insert-append_right left right (length left) (length left + index) value refl (omega arith))) (grind (arith, common_steps, nat_tests))
right_at left right (UpdateAt index value) lawful =
    edited (left ++ right) (UpdateAt (length left + index) value) _ (rw (place_behind (length left) index) at (set-append_right left right (length left) (length left + index) value refl (omega arith))) (grind (arith, common_steps, nat_tests))
right_at left right (RemoveAt index) lawful =
    edited (left ++ right) (RemoveAt (length left + index)) _ (rw (place_behind (length left) index) at (remove-append_right left right (length left) (length left + index) refl (omega arith))) (grind (arith, common_steps, nat_tests))
right_at left right (Move old_index new_index) lawful =
    edited (left ++ right) (Move (length left + old_index) (length left + new_index)) _ (moved_right left right old_index new_index) (grind (arith, common_steps, nat_tests))
right_at left right (Push value) lawful = edited (left ++ right) (Push value) _ (append_assoc left right (value ∷ [])) refl
right_at left right Pop lawful =
    let some : 0 < length right = grind (arith, nat_tests) in
    let last : length (left ++ right) - 1 ≡ length left + (length right - 1) = omega (arith, some, length-append left right) in
    edited (left ++ right) Pop _ (rw last (take-append-add left right (length right - 1))) (grind (arith, common_steps, nat_tests))
right_at left right Clear lawful = right_alone left right Clear _ lawful (rw (append-nil left) (pops_lead left right))

module _ (op : Halves) (left right : List ℤ) (diff : VecDiff ℤ) (left_is : length left ≡ op.left) (right_is : length right ≡ op.right) where
  they_are : lengths left right ≡ op
  they_are = λ i. record { left = left_is i; right = right_is i }

  -- the left list takes a difference
  pub left_leads : IsLawful diff op.left → LeadsTo (left ++ right) (left_gives op diff) (applied left diff ++ right)
  left_leads lawful =
      subst (λ halves. LeadsTo (left ++ right) (left_gives halves diff) (applied left diff ++ right)) they_are (left_at left right diff (rw left_is lawful))

  -- the right list takes a difference
  pub right_leads : IsLawful diff op.right → LeadsTo (left ++ right) (right_gives op diff) (left ++ applied right diff)
  right_leads lawful =
      subst (λ halves. LeadsTo (left ++ right) (right_gives halves diff) (left ++ applied right diff)) they_are (right_at left right diff (rw right_is lawful))
