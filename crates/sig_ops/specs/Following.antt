-- An operator that goes along differences one after another, by what a step needs, gives and leaves.
use Rattle.std.specs.Prelude.{◌≡◌, ℕ, ◌≤◌, List, [], ◌∷◌, ◌++◌, length}
use Rattle.std.specs.List.{fold}
use Rattle.sig_diff.specs.declared.differences.VecDiff.{VecDiff}
use Rattle.sig_diff.specs.Replaying.{AreLawful, StaysShort, replayed}

module _ {Op T : Type 0} (next : Op → VecDiff T → Op) where
  -- what the operator is after all of them
  abbrev pub after_all : Op → List (VecDiff T) → Op
  after_all op diffs = fold next op diffs

  -- it can go each step
  abbrev pub CanFollow : (Op → VecDiff T → Type 0) → Op → List (VecDiff T) → Type 0
  CanFollow can_step op [] = Unit {0}
  CanFollow can_step op (diff ∷ diffs) = can_step op diff × CanFollow can_step (next op diff) diffs

  -- what it gives for all of them
  abbrev pub all_given : {U : Type 0} → (Op → VecDiff T → List (VecDiff U)) → Op → List (VecDiff T) → List (VecDiff U)
  all_given gives op [] = []
  all_given gives op (diff ∷ diffs) = gives op diff ++ all_given gives (next op diff) diffs

-- from an operator on a list to the operator after differences of it: that one stands for the list after them, and what was given
-- leads from the one view to the other; where no list on the way has more than `most` items, no view on the way has
pub record Follows {Op T U : Type 0} (stands_for : Op → List T → Type 0) (view : Op → List T → List U) (op : Op) (xs : List T) (diffs : List (VecDiff T)) (after : Op) (given : List (VecDiff U)) : Type 0 where
  pub stands : stands_for after (replayed xs diffs)
  pub lawful : AreLawful (view op xs) given
  pub replay : replayed (view op xs) given ≡ view after (replayed xs diffs)
  pub short : (most : ℕ) → length xs ≤ most → StaysShort most xs diffs → StaysShort most (view op xs) given
