-- How long a list is after differences, as its length tells.
use Rattle.std.proofs.Common.{◌≡◌, ◌∙◌, ℕ, ◌<◌, ◌≤◌, List, [], ◌∷◌, length, get_or, remove, refl, ap, subst, arith}
use Rattle.std.proofs.lemmas.Bool.Decides.{nat_tests}
use Rattle.std.proofs.lemmas.Grind.{common_steps}
use Rattle.std.proofs.lemmas.List.Edits.{length-insert, length-remove}
use Rattle.std.proofs.lemmas.Option.{slice_get-get_or}
use Rattle.sig_diff.specs.declared.differences.VecDiff.{VecDiff}
use Rattle.sig_diff.specs.declared.differences.VecDiff.TheVariants.{Replace, InsertAt, UpdateAt, RemoveAt, Move, Push, Pop, Clear}
use Rattle.sig_diff.specs.Differences.{IsLawful, applied, moved}
use Rattle.sig_diff.specs.Replaying.{AreLawful, StaysShort, replayed}
use Rattle.sig_ops.specs.Sizes.{resized, all_resized, AreLawfulFor, SizesStayWithin}

module _ {T : Type 0} where
  length_moved : (xs : List T) (old_index new_index : ℕ) → old_index < length xs → new_index < length xs → length (moved xs old_index new_index) ≡ length xs
  length_moved [] old_index new_index old new = absurd (omega arith)
  length_moved (x ∷ xs) old_index new_index old new =
      let left = length-remove (x ∷ xs) old_index old in
      rw (slice_get-get_or (x ∷ xs) old_index x old) (length-insert (remove (x ∷ xs) old_index) new_index (get_or (x ∷ xs) old_index x) (omega arith) ∙ left)

  -- a list that takes a difference is as long after it as its length tells
  pub length_applied : (xs : List T) (diff : VecDiff T) → IsLawful diff (length xs) → length (applied xs diff) ≡ resized (length xs) diff
  length_applied xs (Replace values) lawful = refl
  length_applied xs (InsertAt index value) lawful = grind (arith, common_steps, nat_tests)
  length_applied xs (UpdateAt index value) lawful = grind (arith, common_steps, nat_tests)
  length_applied xs (RemoveAt index) lawful = grind (arith, common_steps, nat_tests)
  length_applied xs (Move old_index new_index) lawful = length_moved xs old_index new_index (grind (arith, nat_tests)) (grind (arith, nat_tests))
  length_applied xs (Push value) lawful = grind (arith, common_steps, nat_tests)
  length_applied xs Pop lawful = grind (arith, common_steps, nat_tests)
  length_applied xs Clear lawful = refl

  -- differences that a list takes are lawful for its length
  pub are_lawful_for_length : (xs : List T) (diffs : List (VecDiff T)) → AreLawful xs diffs → AreLawfulFor (length xs) diffs
  are_lawful_for_length xs [] lawful = tt
  are_lawful_for_length xs (diff ∷ diffs) lawful =
      (lawful.0, subst (λ n. AreLawfulFor n diffs) (length_applied xs diff lawful.0) (are_lawful_for_length (applied xs diff) diffs lawful.1))

  -- after differences that it takes a list is as long as its length tells
  pub length_replayed : (xs : List T) (diffs : List (VecDiff T)) → AreLawful xs diffs → length (replayed xs diffs) ≡ all_resized (length xs) diffs
  length_replayed xs [] lawful = refl
  length_replayed xs (diff ∷ diffs) lawful = length_replayed (applied xs diff) diffs lawful.1 ∙ ap (λ n. all_resized n diffs) (length_applied xs diff lawful.0)

  -- where the lists on the way are short, so are their lengths
  pub sizes_stay_within : (most : ℕ) (xs : List T) (diffs : List (VecDiff T)) → StaysShort most xs diffs → AreLawful xs diffs → SizesStayWithin most (length xs) diffs
  sizes_stay_within most xs [] short lawful = tt
  sizes_stay_within most xs (diff ∷ diffs) short lawful =
      let rest = short lawful.0 in
      let is = length_applied xs diff lawful.0 in
      let later = sizes_stay_within most (applied xs diff) diffs rest.1 lawful.1 in
      λ _. (subst (λ n. n ≤ most) is rest.0, subst (λ n. SizesStayWithin most n diffs) is later)
