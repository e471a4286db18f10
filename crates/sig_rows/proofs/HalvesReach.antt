-- What two lists, one behind the other, give as they go on leads from the two to the two after that.
use Rattle.std.proofs.Common.{◌≡◌, ◌∙◌, ℕ, ◌+◌, ◌≤◌, ◌==◌, ℤ, List, ◌∷◌, ◌++◌, length, if◌then◌else◌, Bool, true, false, refl, sym, ap, arith}
use Rattle.std.proofs.lemmas.List.{length-append}
use Rattle.std.specs.List.{fold}
use Rattle.sig_diff.specs.Differences.{applied}
use Rattle.sig_diff.specs.Replaying.{replayed}
use Rattle.sig_diff.specs.declared.differences.VecDiff.{VecDiff}
use Rattle.sig_flat.specs.Joining.{Halves, half, joined_gives, joined_next}
use Rattle.sig_flat.specs.laws.Joining.{left_leads, right_leads}
use Rattle.sig_ops.proofs.Sizing.{length_applied}
use Rattle.sig_ops.specs.Sizes.{resized}
use Rattle.sig_ops.specs.laws.Leading.{stays_append}
use Rattle.sig_rows.proofs.GoingAlong.{GoesAlong, GoesShort, along_after, along_reaches, along_stays, goes, goes_later, short_after}
use Rattle.sig_rows.proofs.Entered.{Reaches, reaches_append}
use Rattle.sig_rows.specs.Flow.{half_flow}
use Rattle.sig_rows.specs.Joins.{MayJoin, MayTakeHalf}

abbrev pub lengths : List ℤ → List ℤ → Halves
lengths left right = record { left = length left; right = length right }

left_along : (right : List ℤ) → GoesAlong (λ (op : Halves). joined_gives op 0) (λ (op : Halves). joined_next op 0) (λ (xs : List ℤ). lengths xs right) (λ (xs : List ℤ). xs ++ right)
left_along right = record {
  leads = λ xs diff lawful. left_leads (lengths xs right) xs right diff refl refl lawful;
  next_is = λ xs diff lawful. ap (λ (long : ℕ). record { left = long; right = length right }) (sym (length_applied xs diff lawful));
}

right_along : (left : List ℤ) → GoesAlong (λ (op : Halves). joined_gives op 1) (λ (op : Halves). joined_next op 1) (λ (xs : List ℤ). lengths left xs) (λ (xs : List ℤ). left ++ xs)
right_along left = record {
  leads = λ xs diff lawful. right_leads (lengths left xs) left xs diff refl refl lawful;
  next_is = λ xs diff lawful. ap (λ (long : ℕ). record { left = length left; right = long }) (sym (length_applied xs diff lawful));
}

module _ (xs : List ℤ) (diffs : List (VecDiff ℤ)) (ys zs : List ℤ) (others : List (VecDiff ℤ)) (ws : List ℤ) (left : Reaches xs diffs ys) (right : Reaches zs others ws) where
  pub halves_reach : Reaches (xs ++ zs) (half_flow 0 (lengths xs zs) diffs ++ half_flow 1 (lengths ys zs) others) (ys ++ ws)
  halves_reach = reaches_append (xs ++ zs) (ys ++ zs) (ys ++ ws) _ _ (along_reaches (left_along zs) xs diffs ys left) (along_reaches (right_along ys) zs others ws right)

  pub left_after : fold (λ (op : Halves). joined_next op 0) (lengths xs zs) diffs ≡ lengths ys zs
  left_after = along_after (left_along zs) xs diffs ys left

  pub right_after : fold (λ (op : Halves). joined_next op 1) (lengths ys zs) others ≡ lengths ys ws
  right_after = along_after (right_along ys) zs others ws right

  module _ (most_left most_right most : ℕ) (few : most_left + most_right ≤ most) (left_short : GoesShort most_left xs diffs) (right_short : GoesShort most_right zs others) where
    pub halves_short : GoesShort most (xs ++ zs) (half_flow 0 (lengths xs zs) diffs ++ half_flow 1 (lengths ys zs) others)
    halves_short = record {
      before = omega (arith, few, left_short.before, right_short.before, length-append xs zs);
      stays = stays_append most (xs ++ zs) (half_flow 0 (lengths xs zs) diffs) (half_flow 1 (lengths ys zs) others)
          (along_stays (left_along zs) most_left most (λ (ls : List ℤ) within. omega (arith, few, within, right_short.before, length-append ls zs)) xs diffs (goes most_left left left_short))
          (rw (along_reaches (left_along zs) xs diffs ys left).replay
          (along_stays (right_along ys) most_right most (λ (rs : List ℤ) within. omega (arith, few, within, short_after most_left xs diffs ys left left_short, length-append ys rs)) zs others (goes most_right right right_short)));
    }

-- ---- the code

half_next : (first : Bool) (op : Halves) (diff : VecDiff ℤ) → let next : Halves = if first then record op { left = resized op.left diff } else record op { right = resized op.right diff } in
    (if first then next.left else next.right) ≡ resized (if first then op.left else op.right) diff
half_next true op diff = refl
half_next false op diff = refl

still_few : (first : Bool) (op : Halves) (diff : VecDiff ℤ) (most : ℕ) → op.left + op.right + most ≤ 65536 + (if first then op.left else op.right) →
    let next : Halves = if first then record op { left = resized op.left diff } else record op { right = resized op.right diff } in
    next.left + next.right + most ≤ 65536 + (if first then next.left else next.right)
still_few true op diff most few = omega (arith, few)
still_few false op diff most few = omega (arith, few)

module _ (child : ℕ) (op : Halves) (diff : VecDiff ℤ) (diffs : List (VecDiff ℤ)) (may : MayTakeHalf child op (diff ∷ diffs)) where
  resized_is : length (applied may.items diff) ≡ resized (half op child) diff
  resized_is = length_applied may.items diff may.goes.lawful.0 ∙ ap (λ (long : ℕ). resized long diff) may.items_are

  pub half_later : MayTakeHalf child (joined_next op child diff) diffs
  half_later = record {
    items = applied may.items diff;
    items_are = resized_is ∙ sym (half_next (child == 0) op diff);
    most = may.most;
    few = still_few (child == 0) op diff may.most may.few;
    goes = goes_later may.most may.items diff diffs may.goes;
  }

module _ (op : Halves) (lefts rights : List (VecDiff ℤ)) (may : MayJoin op lefts rights) where
  pub may_take_left : MayTakeHalf 0 op lefts
  may_take_left = record {
    items = may.left;
    items_are = may.left_is;
    most = may.most_left;
    few = omega (arith, may.few, may.right_goes.within, may.right_is);
    goes = may.left_goes;
  }

  pub may_take_right : MayTakeHalf 1 (fold (λ (op : Halves). joined_next op 0) op lefts) rights
  may_take_right =
      let reaches : Reaches may.left lefts (replayed may.left lefts) = record { lawful = may.left_goes.lawful; replay = refl } in
      let same : lengths may.left may.right ≡ op = λ i. record { left = may.left_is i; right = may.right_is i } in
      rw (← same, left_after may.left lefts (replayed may.left lefts) may.right rights (replayed may.right rights) reaches (record { lawful = may.right_goes.lawful; replay = refl })) (record {
        items = may.right;
        items_are = refl;
        most = may.most_right;
        few = omega (arith, may.few, short_after may.most_left may.left lefts (replayed may.left lefts) reaches (record { before = may.left_goes.within; stays = may.left_goes.short }));
        goes = may.right_goes;
      })
