-- Going over what the parts of a bank gave is the same as going over what each of them gives.
use Rattle.std.proofs.Common.{◌≡◌, ℕ, suc, ◌+◌, ◌<◌, ◌≤◌, ℤ, List, [], ◌∷◌, ◌++◌, length, drop, get_or, pos, Option, None, Some, All, refl, ap, arith}
use Rattle.std.proofs.lemmas.List.{get_or_default, length-set}
use Rattle.std.proofs.lemmas.List.Elements.{All-cons, All-nil}
use Rattle.std.specs.List.{fold}
use Rattle.sig_bank.specs.Banks.{BySignals, signals_next}
use Rattle.sig_diff.specs.declared.differences.VecDiff.{VecDiff}
use Rattle.sig_flat.specs.Flattening.{Blocks, outer_next}
use Rattle.sig_rows.proofs.BlocksReach.{may_take_outer, may_take_parts, parts_later, parts_part}
use Rattle.sig_rows.proofs.GoingAlong.{Taking, may_take, one_taken}
use Rattle.sig_rows.specs.Flow.{after_part, after_parts, after_signals, by_signals, given_along, part_flow, parts_flow}
use Rattle.sig_rows.specs.Joins.{MayTakeOuter, MayTakePart, MayTakeParts}
use Rattle.sig_nodes.specs.Banks.{MayFlattenGiven, MayTakeGiven, blocks_give, blocks_next, gives_by, lists_given, next_by, values_given}
use Rattle.sig_nodes.specs.declared.banks.Given.{Given}
use Rattle.sig_nodes.specs.declared.banks.GivenList.{GivenList}

-- ---- values

pub over_values : (gives : BySignals → ℕ → ℤ → List (VecDiff ℤ)) (op : BySignals) (place : ℕ) (values : List (Option ℤ)) → given_along (gives_by gives) next_by op (values_given place values) ≡ by_signals gives op place values
over_values gives op place [] = refl
over_values gives op place (None ∷ values) = over_values gives op (place + 1) values
over_values gives op place (Some value ∷ values) = ap (λ (rest : List (VecDiff ℤ)). gives op place value ++ rest) (over_values gives (signals_next op place value) (place + 1) values)

pub after_values : (op : BySignals) (place : ℕ) (values : List (Option ℤ)) → fold next_by op (values_given place values) ≡ after_signals op place values
after_values op place [] = refl
after_values op place (None ∷ values) = after_values op (place + 1) values
after_values op place (Some value ∷ values) = after_values (signals_next op place value) (place + 1) values

-- one more in front
pub value_first : (place : ℕ) (value : Option ℤ) (values : List (Option ℤ)) → values_given place (value ∷ values) ≡ values_given place (value ∷ []) ++ values_given (place + 1) values
value_first place None values = refl
value_first place (Some value) values = refl

-- their places are those of the bank
pub values_below : (count place : ℕ) (values : List (Option ℤ)) → place + length values ≤ count → All (λ (value : Given). value.place < count) (values_given place values)
values_below count place [] few = All-nil (λ (value : Given). value.place < count)
values_below count place (None ∷ values) few = values_below count (place + 1) values (omega (arith, few))
values_below count place (Some value ∷ values) few =
    All-cons (λ (value : Given). value.place < count) (record { place = place; value = value }) (values_given (place + 1) values) (omega (arith, few)) (values_below count (place + 1) values (omega (arith, few)))

-- what an operator needs for them
pub record MayTakeValues (op : BySignals) (values : List Given) : Type 0 where
  pub short : length op.items ≤ 65536
  pub each : All (λ (value : Given). value.place < length op.signals) values

-- the value at a place of a list of them
abbrev value_there : List Given → ℕ → Given
value_there values index = get_or values index (record { place = 0; value = pos 0 })

module _ (gives : BySignals → ℕ → ℤ → List (VecDiff ℤ)) {op first : BySignals} {index : ℕ} {values : List Given} {given before : List (VecDiff ℤ)}
    (taking : Taking (gives_by gives) next_by MayTakeValues op first index values given before) (below : index < length values) where
  is_there : value_there values index ≡ get_or values index (value_there values index)
  is_there = get_or_default values index _ _ below

  may : MayTakeValues op (value_there values index ∷ drop (index + 1) values)
  may = may_take taking (value_there values index) below is_there

  pub value_within : (value_there values index).place < length op.signals
  value_within = may.each 0 (value_there values index) (omega arith)

  pub one_value_taken : (after : BySignals) (all : List (VecDiff ℤ)) → after ≡ next_by op (value_there values index) → all ≡ given ++ gives_by gives op (value_there values index) →
      Taking (gives_by gives) next_by MayTakeValues after first (index + 1) values all before
  one_value_taken after all after_is all_is = one_taken taking (value_there values index) below is_there after all after_is all_is (record {
    short = may.short;
    each = rw (length-set op.signals (value_there values index).place (value_there values index).value) (λ k default within. may.each (suc k) default (omega (arith, within)));
  })

-- ---- lists

pub over_lists : (op : Blocks) (place : ℕ) (lists : List (List (VecDiff ℤ))) → given_along blocks_give blocks_next op (lists_given place lists) ≡ parts_flow place op lists
over_lists op place [] = refl
over_lists op place ([] ∷ lists) = over_lists op (place + 1) lists
over_lists op place ((diff ∷ diffs) ∷ lists) = ap (λ (rest : List (VecDiff ℤ)). part_flow place op (diff ∷ diffs) ++ rest) (over_lists (after_part place op (diff ∷ diffs)) (place + 1) lists)

pub after_lists : (op : Blocks) (place : ℕ) (lists : List (List (VecDiff ℤ))) → fold blocks_next op (lists_given place lists) ≡ after_parts place op lists
after_lists op place [] = refl
after_lists op place ([] ∷ lists) = after_lists op (place + 1) lists
after_lists op place ((diff ∷ diffs) ∷ lists) = after_lists (after_part place op (diff ∷ diffs)) (place + 1) lists

pub list_first : (place : ℕ) (diffs : List (VecDiff ℤ)) (lists : List (List (VecDiff ℤ))) → lists_given place (diffs ∷ lists) ≡ lists_given place (diffs ∷ []) ++ lists_given (place + 1) lists
list_first place [] lists = refl
list_first place (diff ∷ diffs) lists = refl

-- ---- what blocks need

pub may_give_outer : {op : Blocks} {diffs : List (VecDiff ℤ)} {given : List GivenList} → MayFlattenGiven op diffs given → MayTakeOuter op diffs
may_give_outer {op} {diffs} may = may_take_outer op diffs may.lists may.may

pub may_give_lists : {op : Blocks} {diffs : List (VecDiff ℤ)} {given : List GivenList} → MayFlattenGiven op diffs given → MayTakeGiven (fold outer_next op diffs) given
may_give_lists {op} {diffs} may = record { place = 0; lists = may.lists; given_is = may.given_is; may = may_take_parts op diffs may.lists may.may }

-- the next list, and the others after it
pub record NextGiven (op : Blocks) (list : GivenList) (given : List GivenList) : Type 0 where
  pub takes : MayTakePart list.place op list.diffs
  pub later : MayTakeGiven (blocks_next op list) given

next_by_lists : (op : Blocks) (place : ℕ) (lists : List (List (VecDiff ℤ))) (list : GivenList) (given : List GivenList) → list ∷ given ≡ lists_given place lists → MayTakeParts place op lists → NextGiven op list given
next_by_lists op place [] list given is may = cc
next_by_lists op place ([] ∷ lists) list given is may = next_by_lists op (place + 1) lists list given is (parts_later place op [] lists may)
next_by_lists op place ((diff ∷ diffs) ∷ lists) list given is may =
    let first : list ≡ record { place = place; diffs = diff ∷ diffs } = cc in
    let rest : given ≡ lists_given (place + 1) lists = cc in
    rw first (record {
      takes = parts_part place op (diff ∷ diffs) lists may;
      later = record { place = place + 1; lists = lists; given_is = rest; may = parts_later place op (diff ∷ diffs) lists may };
    })

pub next_given : (op : Blocks) (list : GivenList) (given : List GivenList) → MayTakeGiven op (list ∷ given) → NextGiven op list given
next_given op list given may = next_by_lists op may.place may.lists list given may.given_is may.may

-- ---- places

-- the others' places, where a bank has one more part in front
pub one_more_place : (place count end : ℕ) → place + suc count ≡ end → place + 1 + count ≡ end
one_more_place place count end is = omega (arith, is)
