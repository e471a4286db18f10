-- What an operator with a state gives for differences of one list, where the state goes by that list.
use Rattle.std.proofs.Common.{◌≡◌, ◌∙◌, ℕ, ◌+◌, ◌<◌, ◌≤◌, ℤ, List, [], ◌∷◌, ◌++◌, length, drop, get_or, refl, sym, ap, add-one, append_assoc, le_trans}
use Rattle.std.proofs.Math.Seq.{drop-cons}
use Rattle.std.specs.List.{fold}
use Rattle.sig_diff.specs.Differences.{IsLawful, applied}
use Rattle.sig_diff.specs.Replaying.{StaysShort}
use Rattle.sig_diff.specs.declared.differences.VecDiff.{VecDiff}
use Rattle.sig_ops.specs.Leading.{LeadsTo}
use Rattle.sig_ops.specs.laws.Leading.{stays_append}
use Rattle.sig_rows.proofs.Entered.{Reaches, reaches_append, leads_reach}
use Rattle.sig_rows.specs.Flow.{given_along}
use Rattle.sig_rows.specs.Joins.{Goes}

-- a list is short, and stays so with each of its differences
pub record GoesShort {T : Type 0} (most : ℕ) (xs : List T) (diffs : List (VecDiff T)) : Type 0 where
  pub before : length xs ≤ most
  pub stays : StaysShort most xs diffs

module _ {T : Type 0} (most : ℕ) where
  pub stays_for_more : (more : ℕ) → most ≤ more → (xs : List T) (diffs : List (VecDiff T)) → StaysShort most xs diffs → StaysShort more xs diffs
  stays_for_more more larger xs [] short = tt
  stays_for_more more larger xs (diff ∷ diffs) short = λ taken. (le_trans (short taken).0 larger, stays_for_more more larger (applied xs diff) diffs (short taken).1)

  pub short_for_more : (more : ℕ) → most ≤ more → (xs : List T) (diffs : List (VecDiff T)) → GoesShort most xs diffs → GoesShort more xs diffs
  short_for_more more larger xs diffs short = record { before = le_trans short.before larger; stays = stays_for_more more larger xs diffs short.stays }

  pub short_after : (xs : List T) (diffs : List (VecDiff T)) (ys : List T) → Reaches xs diffs ys → GoesShort most xs diffs → length ys ≤ most
  short_after xs [] ys reaches short = rw (← reaches.replay) short.before
  short_after xs (diff ∷ diffs) ys reaches short =
      let kept = short.stays reaches.lawful.0 in
      short_after (applied xs diff) diffs ys (record { lawful = reaches.lawful.1; replay = reaches.replay }) (record { before = kept.0; stays = kept.1 })

-- a list that takes differences, and one difference less
pub goes : (most : ℕ) {xs ys : List ℤ} {diffs : List (VecDiff ℤ)} → Reaches xs diffs ys → GoesShort most xs diffs → Goes most xs diffs
goes most reaches short = record { within = short.before; lawful = reaches.lawful; short = short.stays }

pub goes_later : (most : ℕ) (xs : List ℤ) (diff : VecDiff ℤ) (diffs : List (VecDiff ℤ)) → Goes most xs (diff ∷ diffs) → Goes most (applied xs diff) diffs
goes_later most xs diff diffs go = let next = go.short go.lawful.0 in record { within = next.0; lawful = go.lawful.1; short = next.1 }

-- and in a loop over the differences
module _ (most : ℕ) (xs : List ℤ) (index : ℕ) (diffs : List (VecDiff ℤ)) (diff : VecDiff ℤ) (below : index < length diffs) (is : diff ≡ get_or diffs index diff) (go : Goes most xs (drop index diffs)) where
  pub goes_next : Goes most (applied xs diff) (drop (index + 1) diffs)
  goes_next =
      let rest : drop index diffs ≡ diff ∷ drop (index + 1) diffs = drop-cons diffs index diff below ∙ rw (← is, add-one) refl in
      goes_later most xs diff (drop (index + 1) diffs) (rw rest at go)

  pub few_next : length (applied xs diff) ≤ most
  few_next = goes_next.within

pub few_now : (most : ℕ) (xs : List ℤ) (diffs : List (VecDiff ℤ)) → Goes most xs diffs → length xs ≤ most
few_now most xs diffs go = go.within

-- ---- the law of one step

-- the state is `op xs` where the list is xs: what is given for a difference of the list turns the view of it into the view after that
pub record GoesAlong {O : Type 0} (gives : O → VecDiff ℤ → List (VecDiff ℤ)) (next : O → VecDiff ℤ → O) (op : List ℤ → O) (view : List ℤ → List ℤ) : Type 0 where
  pub leads : (xs : List ℤ) (diff : VecDiff ℤ) → IsLawful diff (length xs) → LeadsTo (view xs) (gives (op xs) diff) (view (applied xs diff))
  pub next_is : (xs : List ℤ) (diff : VecDiff ℤ) → IsLawful diff (length xs) → next (op xs) diff ≡ op (applied xs diff)

module _ {O : Type 0} {gives : O → VecDiff ℤ → List (VecDiff ℤ)} {next : O → VecDiff ℤ → O} {op : List ℤ → O} {view : List ℤ → List ℤ} (along : GoesAlong gives next op view) where
  pub along_reaches : (xs : List ℤ) (diffs : List (VecDiff ℤ)) (ys : List ℤ) → Reaches xs diffs ys → Reaches (view xs) (given_along gives next (op xs) diffs) (view ys)
  along_reaches xs [] ys reaches = record { lawful = tt; replay = ap view reaches.replay }
  along_reaches xs (diff ∷ diffs) ys reaches =
      rw (along.next_is xs diff reaches.lawful.0)
      (reaches_append (view xs) (view (applied xs diff)) (view ys) (gives (op xs) diff) _ (leads_reach (view xs) (view (applied xs diff)) _ (along.leads xs diff reaches.lawful.0))
      (along_reaches (applied xs diff) diffs ys (record { lawful = reaches.lawful.1; replay = reaches.replay })))

  pub along_after : (xs : List ℤ) (diffs : List (VecDiff ℤ)) (ys : List ℤ) → Reaches xs diffs ys → fold next (op xs) diffs ≡ op ys
  along_after xs [] ys reaches = ap op reaches.replay
  along_after xs (diff ∷ diffs) ys reaches =
      ap (λ (state : O). fold next state diffs) (along.next_is xs diff reaches.lawful.0) ∙ along_after (applied xs diff) diffs ys (record { lawful = reaches.lawful.1; replay = reaches.replay })

  -- no view on the way is longer than so many, where none of a list that is short enough is
  pub along_stays : (below most : ℕ) → ((xs : List ℤ) → length xs ≤ below → length (view xs) ≤ most) → (xs : List ℤ) (diffs : List (VecDiff ℤ)) → Goes below xs diffs → StaysShort most (view xs) (given_along gives next (op xs) diffs)
  along_stays below most few xs [] go = tt
  along_stays below most few xs (diff ∷ diffs) go =
      let later = goes_later below xs diff diffs go in
      let lead = along.leads xs diff go.lawful.0 in
      rw (along.next_is xs diff go.lawful.0)
      (stays_append most (view xs) (gives (op xs) diff) _ (lead.short most (few xs go.within) (few (applied xs diff) later.within)) (rw lead.replay (along_stays below most few (applied xs diff) diffs later)))

-- ---- the code

-- what holds while differences are taken one after another: those up to a place were, and the state may take the others
pub record Taking {O D U : Type 0} (gives : O → D → List U) (next : O → D → O) (May : O → List D → Type 0) (op first : O) (index : ℕ) (diffs : List D) (given before : List U) : Type 0 where
  pub given_is : given ++ given_along gives next op (drop index diffs) ≡ before ++ given_along gives next first diffs
  pub op_is : fold next op (drop index diffs) ≡ fold next first diffs
  pub may : May op (drop index diffs)

module _ {O D U : Type 0} {gives : O → D → List U} {next : O → D → O} {May : O → List D → Type 0} {op first : O} {index : ℕ} {diffs : List D} {given before : List U} (taking : Taking gives next May op first index diffs given before)
    (diff : D) (below : index < length diffs) (is : diff ≡ get_or diffs index diff) where
  split : drop index diffs ≡ diff ∷ drop (index + 1) diffs
  split = drop-cons diffs index diff below ∙ rw (← is, add-one) refl

  pub may_take : May op (diff ∷ drop (index + 1) diffs)
  may_take = rw split at taking.may

  pub one_taken : (after : O) (all : List U) → after ≡ next op diff → all ≡ given ++ gives op diff → May (next op diff) (drop (index + 1) diffs) → Taking gives next May after first (index + 1) diffs all before
  one_taken after all after_is all_is may = record {
    given_is = rw (after_is, all_is) (append_assoc given (gives op diff) _ ∙ ap (λ (rest : List D). given ++ given_along gives next op rest) (sym split) ∙ taking.given_is);
    op_is = rw after_is (ap (fold next op) (sym split) ∙ taking.op_is);
    may = rw after_is may;
  }
