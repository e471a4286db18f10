-- From the laws of one step to those of many.
use Rattle.std.proofs.Common.{◌∙◌, ℕ, ◌+◌, ◌*◌, ◌<◌, ◌≤◌, List, [], ◌∷◌, length, refl, arith}
use Rattle.std.proofs.lemmas.List.Sums.{fold-append}
use Rattle.sig_diff.specs.declared.differences.VecDiff.{VecDiff}
use Rattle.sig_diff.specs.Differences.{IsLawful, applied}
use Rattle.sig_diff.specs.Replaying.{AreLawful, StaysShort, list_takes}
use Rattle.sig_diff.proofs.Following.{are_taken_append}
use Rattle.sig_ops.specs.Leading.{LeadsTo}
use Rattle.sig_ops.specs.laws.Leading.{stays_append}
use Rattle.sig_ops.specs.Following.{after_all, all_given, CanFollow, Follows}

module _ {Op T : Type 0} (stands_for : Op → List T → Type 0) (next : Op → VecDiff T → Op)
    (stands_after : (op : Op) (xs : List T) (diff : VecDiff T) → stands_for op xs → IsLawful diff (length xs) → stands_for (next op diff) (applied xs diff)) where
  -- the law of many steps, from the laws of one
  pub follows : {U : Type 0} (view : Op → List T → List U) (gives : Op → VecDiff T → List (VecDiff U)) →
      ((op : Op) (xs : List T) (diff : VecDiff T) → stands_for op xs → IsLawful diff (length xs) → LeadsTo (view op xs) (gives op diff) (view (next op diff) (applied xs diff))) →
      ((op : Op) (xs : List T) → stands_for op xs → length (view op xs) ≤ length xs) →
      (op : Op) (xs : List T) (diffs : List (VecDiff T)) → stands_for op xs → AreLawful xs diffs → Follows stands_for view op xs diffs (after_all next op diffs) (all_given next gives op diffs)
  follows view gives leads view_is_short op xs [] stands lawful = record { stands = stands; lawful = tt; replay = refl; short = λ most within stays. tt }
  follows view gives leads view_is_short op xs (diff ∷ diffs) stands lawful =
      let lead = leads op xs diff stands lawful.0 in
      let there = stands_after op xs diff stands lawful.0 in
      let rest = follows view gives leads view_is_short (next op diff) (applied xs diff) diffs there lawful.1 in
      record {
        stands = rest.stands;
        lawful = are_taken_append list_takes applied (view op xs) (gives op diff) (all_given next gives (next op diff) diffs) lead.lawful (rw lead.replay rest.lawful);
        replay = fold-append applied (view op xs) (gives op diff) (all_given next gives (next op diff) diffs) ∙ rw lead.replay rest.replay;
        short = λ most within stays.
            let kept = stays lawful.0 in
            let before : length (view op xs) ≤ most = omega (arith, view_is_short op xs stands, within) in
            let after : length (view (next op diff) (applied xs diff)) ≤ most = omega (arith, view_is_short (next op diff) (applied xs diff) there, kept.0) in
            stays_append most (view op xs) (gives op diff) (all_given next gives (next op diff) diffs) (lead.short most before after) (rw lead.replay (rest.short most kept.0 kept.1));
      }

  -- an operator that stands for a list can go along differences of it that are lawful and leave few items, while there are tags
  pub can_follow : (tags : Op → ℕ) (can_step : Op → VecDiff T → Type 0) (most enough : ℕ) →
      ((op : Op) (xs : List T) (diff : VecDiff T) → stands_for op xs → IsLawful diff (length xs) → length xs ≤ most → length (applied xs diff) ≤ most → tags op + most < enough → can_step op diff) →
      ((op : Op) (xs : List T) (diff : VecDiff T) → stands_for op xs → IsLawful diff (length xs) → length (applied xs diff) ≤ most → tags (next op diff) ≤ tags op + most) →
      (op : Op) (xs : List T) (diffs : List (VecDiff T)) → stands_for op xs → AreLawful xs diffs → length xs ≤ most → StaysShort most xs diffs → tags op + most * length diffs < enough → CanFollow next can_step op diffs
  can_follow tags can_step most enough steps few_tags op xs [] stands lawful within stays few = tt
  can_follow tags can_step most enough steps few_tags op xs (diff ∷ diffs) stands lawful within stays few =
      let kept = stays lawful.0 in
      let more = few_tags op xs diff stands lawful.0 kept.0 in (
        steps op xs diff stands lawful.0 within kept.0 (grind (arith, few)),
        can_follow tags can_step most enough steps few_tags (next op diff) (applied xs diff) diffs (stands_after op xs diff stands lawful.0) lawful.1 kept.0 kept.1 (grind (arith, few, more)),
      )
