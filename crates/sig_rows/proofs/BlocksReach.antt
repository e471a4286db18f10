-- What a flattened list gives as its outer list goes on, and then the lists of its bank, leads from the joined blocks to those after that.
use Rattle.std.proofs.Common.{◌≡◌, ◌∙◌, ℕ, suc, ◌+◌, ◌*◌, ◌<◌, ◌≤◌, ℤ, List, [], ◌∷◌, ◌++◌, length, drop, get_or, slice_set, nat_lt, Bool, true, false, All, refl, sym, ap, add-one, append_assoc, arith, le_trans, get_or-set_same}
use Rattle.std.proofs.Math.Seq.{drop-cons, get_or-append_seam, set-append_seam}
use Rattle.std.proofs.lemmas.Bool.{ltb-true, ltb-false}
use Rattle.std.proofs.lemmas.List.{drop-set-lt, drop_all, get_or_past, length-append, length-set}
use Rattle.std.proofs.lemmas.List.Elements.{All-append, All-cons, All-get_or, All-nil, All-set}
use Rattle.std.specs.List.{fold}
use Rattle.sig_diff.specs.Choosing.{list_for}
use Rattle.sig_diff.specs.Differences.{applied}
use Rattle.sig_diff.specs.Replaying.{StaysShort, replayed}
use Rattle.sig_diff.specs.declared.differences.VecDiff.{VecDiff}
use Rattle.sig_expr.proofs.Bounded.{length_flat_map_within}
use Rattle.sig_flat.specs.Flattening.{Blocks, bank_gives, bank_next, flattened, outer_gives, outer_next, part_at}
use Rattle.sig_flat.specs.laws.Flattening.{bank_leads, outer_leads}
use Rattle.sig_ops.specs.laws.Leading.{stays_append}
use Rattle.sig_rows.proofs.ByClass.{EachGoes, no_part, one_part}
use Rattle.sig_rows.proofs.GoingAlong.{GoesAlong, GoesShort, along_after, along_reaches, along_stays, goes, goes_later, short_after}
use Rattle.sig_rows.proofs.Entered.{Reaches, reaches_append}
use Rattle.sig_rows.specs.Flow.{after_part, after_parts, given_along, part_flow, parts_flow}
use Rattle.sig_rows.specs.Joins.{AllGo, AreFewBlocks, MayFlatten, MayTakeOuter, MayTakePart, MayTakeParts}

-- ---- how long the joined blocks are

abbrev pub AreWithin : ℕ → List (List ℤ) → Type 0
AreWithin most parts = All (λ (items : List ℤ). length items ≤ most) parts

part_by : (most : ℕ) (parts : List (List ℤ)) (index : ℕ) (below : Bool) → nat_lt index (length parts) ≡ below → AreWithin most parts → length (get_or parts index []) ≤ most
part_by most parts index true is within = All-get_or (λ (items : List ℤ). length items ≤ most) parts index [] (ltb-true index (length parts) is) within
part_by most parts index false is within = rw (get_or_past parts index [] (omega (arith, ltb-false index (length parts) is))) (omega arith)

pub few_joined : (most_outer most_part : ℕ) (op : Blocks) → length op.outer ≤ most_outer → AreWithin most_part op.parts → length (flattened op) ≤ most_outer * most_part
few_joined most_outer most_part op few within = length_flat_map_within (list_for op.parts) op.outer most_outer most_part few (λ x. part_by most_part op.parts _ _ refl within)

-- ---- the outer list

outer_along : (parts : List (List ℤ)) → GoesAlong outer_gives outer_next (λ (xs : List ℤ). record { outer = xs; parts = parts }) (λ (xs : List ℤ). flattened (record { outer = xs; parts = parts }))
outer_along parts = record { leads = λ xs diff lawful. outer_leads (record { outer = xs; parts = parts }) diff lawful; next_is = λ xs diff lawful. refl }

pub outer_after : (parts : List (List ℤ)) (xs : List ℤ) (diffs : List (VecDiff ℤ)) (ys : List ℤ) → Reaches xs diffs ys → fold outer_next (record { outer = xs; parts = parts }) diffs ≡ record { outer = ys; parts = parts }
outer_after parts = along_after (outer_along parts)

-- ---- the lists of the bank

-- a list of a bank goes on, and is never longer than so many
pub record PartShort (most : ℕ) (xs : List ℤ) (diffs : List (VecDiff ℤ)) (ys : List ℤ) : Type 0 where
  pub reaches : Reaches xs diffs ys
  pub short : GoesShort most xs diffs

module _ (outer : List ℤ) where
  abbrev with : List (List ℤ) → Blocks
  with parts = record { outer = outer; parts = parts }

  part_next : (front : List (List ℤ)) (xs : List ℤ) (others : List (List ℤ)) (diff : VecDiff ℤ) → bank_next (with (front ++ xs ∷ others)) (length front) diff ≡ with (front ++ applied xs diff ∷ others)
  part_next front xs others diff =
      ap (λ (part : List ℤ). with (slice_set (front ++ xs ∷ others) (length front) (applied part diff))) (get_or-append_seam front xs others []) ∙ ap with (set-append_seam front xs others (applied xs diff))

  part_along : (front others : List (List ℤ)) →
      GoesAlong (λ (op : Blocks). bank_gives op (length front)) (λ (op : Blocks). bank_next op (length front)) (λ (xs : List ℤ). with (front ++ xs ∷ others)) (λ (xs : List ℤ). flattened (with (front ++ xs ∷ others)))
  part_along front others = record {
    leads = λ xs diff lawful.
        rw (← part_next front xs others diff)
        (bank_leads (with (front ++ xs ∷ others)) (length front) diff (omega (arith, length-append front (xs ∷ others))) (rw (get_or-append_seam front xs others []) lawful));
    next_is = λ xs diff lawful. part_next front xs others diff;
  }

  -- the lists behind the first ones go on in turn
  pub record RestLeads (front olds : List (List ℤ)) (flows : List (List (VecDiff ℤ))) (news : List (List ℤ)) : Type 0 where
    pub reaches : Reaches (flattened (with (front ++ olds))) (parts_flow (length front) (with (front ++ olds)) flows) (flattened (with (front ++ news)))
    pub after : after_parts (length front) (with (front ++ olds)) flows ≡ with (front ++ news)

  -- behind one more
  behind_one : (front : List (List ℤ)) (x : List ℤ) (olds : List (List ℤ)) (flows : List (List (VecDiff ℤ))) (news : List (List ℤ)) → RestLeads (front ++ x ∷ []) olds flows news → let place : ℕ = length front + 1 in
      Reaches (flattened (with (front ++ x ∷ olds))) (parts_flow place (with (front ++ x ∷ olds)) flows) (flattened (with (front ++ x ∷ news)))
      × (after_parts place (with (front ++ x ∷ olds)) flows ≡ with (front ++ x ∷ news))
  behind_one front x olds flows news rest = (
    rw (append_assoc front (x ∷ []) olds, append_assoc front (x ∷ []) news, length-append front (x ∷ [])) at rest.reaches,
    rw (append_assoc front (x ∷ []) olds, append_assoc front (x ∷ []) news, length-append front (x ∷ [])) at rest.after,
  )

  rest_reach : {olds news : List (List ℤ)} {flows : List (List (VecDiff ℤ))} (front : List (List ℤ)) → EachGoes (Reaches {T = ℤ}) olds flows news → RestLeads front olds flows news
  rest_reach front no_part = record { reaches = record { lawful = tt; replay = refl }; after = refl }
  rest_reach front (one_part {olds = olds} {news = news} {each = flows} was given is goes more) =
      let behind = behind_one front is olds flows news (rest_reach (front ++ is ∷ []) more) in
      let reached : after_part (length front) (with (front ++ was ∷ olds)) given ≡ with (front ++ is ∷ olds) = along_after (part_along front olds) was given is goes in
      record {
        reaches = reaches_append (flattened (with (front ++ was ∷ olds))) (flattened (with (front ++ is ∷ olds))) (flattened (with (front ++ is ∷ news))) _ _ (along_reaches (part_along front olds) was given is goes) (rw reached behind.0);
        after = rw reached behind.1;
      }

  module _ (most_outer most_part : ℕ) (few : length outer ≤ most_outer) where
    behind_one_stays : (front : List (List ℤ)) (x : List ℤ) (olds : List (List ℤ)) (flows : List (List (VecDiff ℤ))) →
        StaysShort (most_outer * most_part) (flattened (with ((front ++ x ∷ []) ++ olds))) (parts_flow (length (front ++ x ∷ [])) (with ((front ++ x ∷ []) ++ olds)) flows) →
        StaysShort (most_outer * most_part) (flattened (with (front ++ x ∷ olds))) (parts_flow (length front + 1) (with (front ++ x ∷ olds)) flows)
    behind_one_stays front x olds flows stays = rw (append_assoc front (x ∷ []) olds, length-append front (x ∷ [])) at stays

    pub olds_within : {olds news : List (List ℤ)} {flows : List (List (VecDiff ℤ))} → EachGoes (PartShort most_part) olds flows news → AreWithin most_part olds
    olds_within no_part = All-nil (λ (items : List ℤ). length items ≤ most_part)
    olds_within (one_part was given is goes more) = All-cons (λ (items : List ℤ). length items ≤ most_part) was _ goes.short.before (olds_within more)

    around : (front : List (List ℤ)) (xs : List ℤ) (others : List (List ℤ)) → AreWithin most_part front → length xs ≤ most_part → AreWithin most_part others → AreWithin most_part (front ++ xs ∷ others)
    around front xs others before here behind = All-append (λ (items : List ℤ). length items ≤ most_part) front (xs ∷ others) before (All-cons (λ (items : List ℤ). length items ≤ most_part) xs others here behind)

    rest_stays : {olds news : List (List ℤ)} {flows : List (List (VecDiff ℤ))} (front : List (List ℤ)) → AreWithin most_part front → EachGoes (PartShort most_part) olds flows news →
        StaysShort (most_outer * most_part) (flattened (with (front ++ olds))) (parts_flow (length front) (with (front ++ olds)) flows)
    rest_stays front within no_part = tt
    rest_stays front within (one_part {olds = olds} {news = news} {each = flows} was given is part more) =
        let nothing : AreWithin most_part [] = All-nil (λ (items : List ℤ). length items ≤ most_part) in
        let behind = behind_one_stays front is olds flows (rest_stays (front ++ is ∷ []) (around front is [] within (short_after most_part was given is part.reaches part.short) nothing) more) in
        let reached : after_part (length front) (with (front ++ was ∷ olds)) given ≡ with (front ++ is ∷ olds) = along_after (part_along front olds) was given is part.reaches in
        stays_append (most_outer * most_part) (flattened (with (front ++ was ∷ olds))) _ _
        (along_stays (part_along front olds) most_part (most_outer * most_part) (λ (xs : List ℤ) short. few_joined most_outer most_part (with (front ++ xs ∷ olds)) few (around front xs olds within short (olds_within more))) was given (goes most_part part.reaches part.short))
        (rw ((along_reaches (part_along front olds) was given is part.reaches).replay, reached) behind)

-- ---- both

module _ (xs : List ℤ) (diffs : List (VecDiff ℤ)) (ys : List ℤ) (outer : Reaches xs diffs ys) (olds : List (List ℤ)) (flows : List (List (VecDiff ℤ))) (news : List (List ℤ)) where
  pub blocks_reach : EachGoes (Reaches {T = ℤ}) olds flows news →
      Reaches (flattened (record { outer = xs; parts = olds })) (given_along outer_gives outer_next (record { outer = xs; parts = olds }) diffs ++ parts_flow 0 (record { outer = ys; parts = olds }) flows) (flattened (record { outer = ys; parts = news }))
  blocks_reach each = reaches_append _ (flattened (record { outer = ys; parts = olds })) _ _ _ (along_reaches (outer_along olds) xs diffs ys outer) (rest_reach ys [] each).reaches

  pub parts_after : EachGoes (Reaches {T = ℤ}) olds flows news → after_parts 0 (record { outer = ys; parts = olds }) flows ≡ record { outer = ys; parts = news }
  parts_after each = (rest_reach ys [] each).after

  pub blocks_short : (most_outer most_part : ℕ) → GoesShort most_outer xs diffs → EachGoes (PartShort most_part) olds flows news →
      GoesShort (most_outer * most_part) (flattened (record { outer = xs; parts = olds })) (given_along outer_gives outer_next (record { outer = xs; parts = olds }) diffs ++ parts_flow 0 (record { outer = ys; parts = olds }) flows)
  blocks_short most_outer most_part short each =
      let within : AreWithin most_part olds = olds_within xs most_outer most_part short.before each in
      record {
        before = few_joined most_outer most_part (record { outer = xs; parts = olds }) short.before within;
        stays = stays_append (most_outer * most_part) (flattened (record { outer = xs; parts = olds })) (given_along outer_gives outer_next (record { outer = xs; parts = olds }) diffs) _
            (along_stays (outer_along olds) most_outer (most_outer * most_part) (λ (zs : List ℤ) few. few_joined most_outer most_part (record { outer = zs; parts = olds }) few within) xs diffs (goes most_outer outer short))
            (rw (along_reaches (outer_along olds) xs diffs ys outer).replay
            (rest_stays ys most_outer most_part (short_after most_outer xs diffs ys outer short) [] (All-nil (λ (items : List ℤ). length items ≤ most_part)) each));
      }

pub all_go : (most : ℕ) {olds news : List (List ℤ)} {flows : List (List (VecDiff ℤ))} → EachGoes (PartShort most) olds flows news → AllGo most olds flows
all_go most no_part = tt
all_go most (one_part was given is part more) = (goes most part.reaches part.short, all_go most more)

-- ---- the code

all_within : (most : ℕ) (parts : List (List ℤ)) (lists : List (List (VecDiff ℤ))) → AllGo most parts lists → AreWithin most parts
all_within most [] lists go = All-nil (λ (items : List ℤ). length items ≤ most)
all_within most (items ∷ parts) (diffs ∷ lists) go = All-cons (λ (items : List ℤ). length items ≤ most) items parts go.0.within (all_within most parts lists go.1)
all_within most (items ∷ parts) [] go = absurd go

pub few_blocks : (most most_part : ℕ) (op : Blocks) → AreFewBlocks most most_part op → length (flattened op) ≤ 65536
few_blocks most most_part op blocks = le_trans (few_joined most most_part op blocks.outer blocks.parts) blocks.few

module _ (op : Blocks) (diff : VecDiff ℤ) (diffs : List (VecDiff ℤ)) (may : MayTakeOuter op (diff ∷ diffs)) where
  pub outer_few : length (flattened op) ≤ 65536
  outer_few = few_blocks may.most may.most_part op may.blocks

  pub outer_later : MayTakeOuter (outer_next op diff) diffs
  outer_later =
      let later = goes_later may.most op.outer diff diffs may.goes in
      record {
        most = may.most;
        most_part = may.most_part;
        few_outer = may.few_outer;
        blocks = record { few = may.blocks.few; few_part = may.blocks.few_part; outer = later.within; parts = may.blocks.parts };
        goes = later;
      }

  -- the outer list itself is short, too, before the difference and after it
  pub outer_list_few : length op.outer ≤ 65536
  outer_list_few = le_trans may.goes.within may.few_outer

  pub outer_list_few_after : length (applied op.outer diff) ≤ 65536
  outer_list_few_after = le_trans (goes_later may.most op.outer diff diffs may.goes).within may.few_outer

  pub outer_few_after : length (flattened (outer_next op diff)) ≤ 65536
  unfolding outer_later
  outer_few_after = few_blocks may.most may.most_part (outer_next op diff) outer_later.blocks

module _ (place : ℕ) (op : Blocks) (diff : VecDiff ℤ) (diffs : List (VecDiff ℤ)) (may : MayTakePart place op (diff ∷ diffs)) where
  pub part_few : length (flattened op) ≤ 65536
  part_few = few_blocks may.most may.most_part op may.blocks

  pub part_later : MayTakePart place (bank_next op place diff) diffs
  part_later =
      let later = goes_later may.most_part (part_at op place) diff diffs may.goes in
      record {
        most = may.most;
        most_part = may.most_part;
        blocks = record {
          few = may.blocks.few;
          few_part = may.blocks.few_part;
          outer = may.blocks.outer;
          parts = All-set (λ (items : List ℤ). length items ≤ may.most_part) op.parts place (applied (part_at op place) diff) later.within may.blocks.parts;
        };
        within = rw (length-set op.parts place (applied (part_at op place) diff)) may.within;
        goes = rw (get_or-set_same op.parts place (applied (part_at op place) diff) [] may.within) later;
      }

  pub part_few_after : length (flattened (bank_next op place diff)) ≤ 65536
  unfolding part_later
  part_few_after = few_blocks may.most may.most_part (bank_next op place diff) part_later.blocks

-- after all of them the blocks are few again, and the lists behind that one are as they were
pub record PartTaken (most most_part place : ℕ) (op after : Blocks) : Type 0 where
  pub blocks : AreFewBlocks most most_part after
  pub others : drop (suc place) after.parts ≡ drop (suc place) op.parts

part_taken : (place : ℕ) (op : Blocks) (diffs : List (VecDiff ℤ)) (may : MayTakePart place op diffs) → PartTaken may.most may.most_part place op (after_part place op diffs)
unfolding part_later
part_taken place op [] may = record { blocks = may.blocks; others = refl }
part_taken place op (diff ∷ diffs) may =
    let later = part_taken place (bank_next op place diff) diffs (part_later place op diff diffs may) in
    record { blocks = later.blocks; others = later.others ∙ drop-set-lt (suc place) op.parts place (applied (part_at op place) diff) (omega arith) }

module _ (place : ℕ) (op : Blocks) (diffs : List (VecDiff ℤ)) (lists : List (List (VecDiff ℤ))) (may : MayTakeParts place op (diffs ∷ lists)) where
  there : (below : Bool) → nat_lt place (length op.parts) ≡ below → place < length op.parts
  there true is = ltb-true place (length op.parts) is
  there false is = absurd (rw (drop_all place op.parts (omega (arith, ltb-false place (length op.parts) is))) at may.go)

  here : place < length op.parts
  here = there _ refl

  go : AllGo may.most_part (part_at op place ∷ drop (suc place) op.parts) (diffs ∷ lists)
  go = rw (drop-cons op.parts place [] here) at may.go

  pub parts_part : MayTakePart place op diffs
  parts_part = record { most = may.most; most_part = may.most_part; blocks = may.blocks; within = here; goes = go.0 }

  pub parts_later : MayTakeParts (place + 1) (after_part place op diffs) lists
  unfolding parts_part
  parts_later =
      let taken = part_taken place op diffs parts_part in
      record { most = may.most; most_part = may.most_part; blocks = taken.blocks; go = rw (add-one, taken.others) go.1 }

-- what holds while the lists are taken one after another: those before a place were, and the blocks may take the others
pub record TakingParts (op first : Blocks) (place : ℕ) (lists : List (List (VecDiff ℤ))) (given before : List (VecDiff ℤ)) : Type 0 where
  pub given_is : given ++ parts_flow place op (drop place lists) ≡ before ++ parts_flow 0 first lists
  pub op_is : after_parts place op (drop place lists) ≡ after_parts 0 first lists
  pub may : MayTakeParts place op (drop place lists)

module _ {op first : Blocks} {place : ℕ} {lists : List (List (VecDiff ℤ))} {given before : List (VecDiff ℤ)} (taking : TakingParts op first place lists given before)
    (diffs : List (VecDiff ℤ)) (below : place < length lists) (is : diffs ≡ get_or lists place diffs) where
  split : drop place lists ≡ diffs ∷ drop (place + 1) lists
  split = drop-cons lists place diffs below ∙ rw (← is, add-one) refl

  may_take : MayTakeParts place op (diffs ∷ drop (place + 1) lists)
  may_take = rw split at taking.may

  pub one_part_taken : (after : Blocks) (all : List (VecDiff ℤ)) → after ≡ after_part place op diffs → all ≡ given ++ part_flow place op diffs → TakingParts after first (place + 1) lists all before
  one_part_taken after all after_is all_is = record {
    given_is = rw (after_is, all_is) (append_assoc given (part_flow place op diffs) _ ∙ ap (λ (rest : List (List (VecDiff ℤ))). given ++ parts_flow place op rest) (sym split) ∙ taking.given_is);
    op_is = rw after_is (ap (after_parts place op) (sym split) ∙ taking.op_is);
    may = rw after_is (parts_later place op diffs (drop (place + 1) lists) may_take);
  }

module _ (op : Blocks) (diffs : List (VecDiff ℤ)) (lists : List (List (VecDiff ℤ))) (may : MayFlatten op diffs lists) where
  blocks : AreFewBlocks may.most may.most_part op
  blocks = record { few = may.few; few_part = may.few_part; outer = may.outer_goes.within; parts = all_within may.most_part op.parts lists may.parts_go }

  pub may_take_outer : MayTakeOuter op diffs
  may_take_outer = record { most = may.most; most_part = may.most_part; few_outer = may.few_outer; blocks = blocks; goes = may.outer_goes }

  pub may_take_parts : MayTakeParts 0 (fold outer_next op diffs) lists
  may_take_parts =
      let reaches : Reaches op.outer diffs (replayed op.outer diffs) = record { lawful = may.outer_goes.lawful; replay = refl } in
      rw (outer_after op.parts op.outer diffs (replayed op.outer diffs) reaches) (record {
        most = may.most;
        most_part = may.most_part;
        blocks = record {
          few = may.few;
          few_part = may.few_part;
          outer = short_after may.most op.outer diffs (replayed op.outer diffs) reaches (record { before = may.outer_goes.within; stays = may.outer_goes.short });
          parts = blocks.parts;
        };
        go = may.parts_go;
      })
