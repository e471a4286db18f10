-- What the parts of a bank gave, without those that gave nothing, and what operators give for that.
use Rattle.std.specs.Prelude.{◌≡◌, ℕ, ◌+◌, ℤ, List, [], ◌∷◌, Option, None, Some}
use Rattle.sig_bank.specs.Banks.{BySignals, signals_next}
use Rattle.sig_diff.specs.declared.differences.VecDiff.{VecDiff}
use Rattle.sig_flat.specs.Flattening.{Blocks}
use Rattle.sig_rows.specs.Flow.{after_part, part_flow}
use Rattle.sig_rows.specs.Joins.{MayFlatten, MayTakeParts}
use Rattle.sig_nodes.specs.declared.banks.Given.{Given}
use Rattle.sig_nodes.specs.declared.banks.GivenList.{GivenList}

-- the values among what each signal gives, from this place on; and the differences among what each list gives
abbrev pub values_given : ℕ → List (Option ℤ) → List Given
values_given place [] = []
values_given place (None ∷ values) = values_given (place + 1) values
values_given place (Some value ∷ values) = record { place = place; value = value } ∷ values_given (place + 1) values

abbrev pub lists_given : ℕ → List (List (VecDiff ℤ)) → List GivenList
lists_given place [] = []
lists_given place ([] ∷ lists) = lists_given (place + 1) lists
lists_given place ((diff ∷ diffs) ∷ lists) = record { place = place; diffs = diff ∷ diffs } ∷ lists_given (place + 1) lists

-- an operator on a list by signals, for a value that was given
abbrev pub gives_by : (BySignals → ℕ → ℤ → List (VecDiff ℤ)) → BySignals → Given → List (VecDiff ℤ)
gives_by gives op given = gives op given.place given.value

abbrev pub next_by : BySignals → Given → BySignals
next_by op given = signals_next op given.place given.value

-- blocks, for differences that were given
abbrev pub blocks_give : Blocks → GivenList → List (VecDiff ℤ)
blocks_give op given = part_flow given.place op given.diffs

abbrev pub blocks_next : Blocks → GivenList → Blocks
blocks_next op given = after_part given.place op given.diffs

-- blocks take the differences of the outer list, and then those that were given among the bank's
pub record MayFlattenGiven (op : Blocks) (diffs : List (VecDiff ℤ)) (given : List GivenList) : Type 0 where
  pub lists : List (List (VecDiff ℤ))
  pub given_is : given ≡ lists_given 0 lists
  pub may : MayFlatten op diffs lists

pub record MayTakeGiven (op : Blocks) (given : List GivenList) : Type 0 where
  pub place : ℕ
  pub lists : List (List (VecDiff ℤ))
  pub given_is : given ≡ lists_given place lists
  pub may : MayTakeParts place op lists
