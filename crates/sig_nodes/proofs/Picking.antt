-- A pick along the differences of its chosen list.
use Rattle.std.proofs.Common.{◌≡◌, ◌∙◌, ℕ, ◌+◌, ◌<◌, ℤ, List, [], ◌∷◌, ◌++◌, length, drop, get_or, refl, sym, ap, add-one, append_assoc, get_or-set_same}
use Rattle.std.proofs.Math.Seq.{drop-cons}
use Rattle.std.proofs.lemmas.List.{length-set, set-set}
use Rattle.sig_bank.specs.Banks.{Choice, bank_next, list_at}
use Rattle.sig_diff.specs.Differences.{applied}
use Rattle.sig_diff.specs.Replaying.{AreLawful, replayed}
use Rattle.sig_diff.specs.declared.differences.VecDiff.{VecDiff}
use Rattle.sig_nodes.specs.Choices.{after_picked}

module _ (op : Choice (List ℤ)) (place : ℕ) (within : place < length op.parts) where
  pub list_after : (diff : VecDiff ℤ) → list_at (bank_next op place diff) place ≡ applied (list_at op place) diff
  list_after diff = get_or-set_same op.parts place (applied (list_at op place) diff) [] within

  pub after_one : (diff : VecDiff ℤ) (diffs : List (VecDiff ℤ)) → after_picked (bank_next op place diff) place diffs ≡ after_picked op place (diff ∷ diffs)
  after_one diff diffs = rw (list_after diff, set-set op.parts place (applied (list_at op place) diff) (replayed (applied (list_at op place) diff) diffs)) refl

  pub as_many : (diff : VecDiff ℤ) → length (bank_next op place diff).parts ≡ length op.parts
  as_many diff = length-set op.parts place (applied (list_at op place) diff)

-- what holds while the differences are passed on: those up to a place were given, and the chosen list takes the others
pub record Passing (op initial : Choice (List ℤ)) (place index : ℕ) (diffs given before : List (VecDiff ℤ)) : Type 0 where
  pub given_is : given ++ drop index diffs ≡ before ++ diffs
  pub op_is : after_picked op place (drop index diffs) ≡ after_picked initial place diffs
  pub lawful : AreLawful (list_at op place) (drop index diffs)
  pub parts : length op.parts ≡ length initial.parts
  pub chooser : op.chooser ≡ initial.chooser

pub one_passed : (op initial next : Choice (List ℤ)) (place index : ℕ) (diffs given before all : List (VecDiff ℤ)) (diff : VecDiff ℤ) → Passing op initial place index diffs given before → place < length initial.parts → index < length diffs →
    diff ≡ get_or diffs index diff → next ≡ bank_next op place diff → all ≡ given ++ diff ∷ [] → Passing next initial place (index + 1) diffs all before
one_passed op initial next place index diffs given before all diff passing within below is next_is all_is =
    let split : drop index diffs ≡ diff ∷ drop (index + 1) diffs = drop-cons diffs index diff below ∙ rw (← is, add-one) refl in
    let there : place < length op.parts = rw passing.parts within in
    record {
      given_is = rw all_is (append_assoc given (diff ∷ []) (drop (index + 1) diffs) ∙ ap (λ (rest : List (VecDiff ℤ)). given ++ rest) (sym split) ∙ passing.given_is);
      op_is = rw next_is (after_one op place there diff (drop (index + 1) diffs) ∙ ap (after_picked op place) (sym split) ∙ passing.op_is);
      lawful = rw (next_is, list_after op place there diff) (rw split at passing.lawful).1;
      parts = rw next_is (as_many op place there diff ∙ passing.parts);
      chooser = rw next_is passing.chooser;
    }
