-- What the list with tags gives for a difference leads from its elements to those after the difference.
use Rattle.std.specs.Prelude.{◌≡◌, ℕ, suc, ◌+◌, ◌-◌, ◌*◌, ◌^◌, ◌<◌, ◌≤◌, nat_lt, ◌&&◌, ℤ, List, [], ◌∷◌, length, remove, slice_get, All, Bool, true, None, Some, refl}
use Rattle.std.proofs.Common.{◌∙◌, sym, ap, arith}
use Rattle.std.proofs.lemmas.Bool.{ltb-true, leb-true, ne_eqb}
use Rattle.std.proofs.lemmas.List.{length-map, map-append}
use Rattle.std.proofs.lemmas.List.Edits.{insert_end, length-remove}
use Rattle.std.proofs.lemmas.List.Elements.{All-cons, All-get_or, All-head, All-nil, All-set, All-tail, All-take, All-weaker}
use Rattle.std.proofs.lemmas.Option.{slice_get-get_or}
use Rattle.sig_diff.specs.declared.contents.Tagged.{Tagged}
use Rattle.sig_diff.specs.declared.differences.VecDiff.{VecDiff}
use Rattle.sig_diff.specs.declared.differences.VecDiff.TheVariants.{Replace, InsertAt, UpdateAt, RemoveAt, Move, Push, Pop, Clear}
use Rattle.sig_diff.specs.Differences.{IsLawful, applied, moved}
use Rattle.sig_diff.specs.Replaying.{AreLawful, StaysShort, replayed}
use Rattle.sig_diff.proofs.Filtered.{remove_last}
use Rattle.sig_diff.proofs.Images.{map_insert, map_remove, map_slice_set, map_take_last, map_moved}
use Rattle.sig_ops.specs.Leading.{LeadsTo}
use Rattle.sig_ops.specs.laws.Leading.{leads_one}
use Rattle.sig_ops.specs.Following.{after_all, all_given, CanFollow, Follows}
use Rattle.sig_ops.specs.laws.Following.{can_follow, follows}
use Rattle.sig_ops.specs.Enumerating.{Enumeration, IsEnumeration, AreDistinct, enumerate_gives, enumeration_next, enumeration_of, made, place_of, tag_at, tagged_from, values_of}
use Rattle.sig_ops.specs.Kept.{all_insert, all_remove, all_moved}
use Rattle.sig_ops.specs.laws.TagPlaces.{distinct_from, distinct_insert, distinct_remove, distinct_set, left_without}

-- the operator can go a step by the difference: it is lawful, and places and tags fit
pub record EnumerateStep (op : Enumeration) (diff : VecDiff ℤ) : Type 0 where
  pub lawful : IsLawful diff (length op.elements)
  pub short : length (enumeration_next op diff).elements ≤ 65536
  pub tags : op.next + 65536 < 2 ^ 128

-- ---- values

pub values_from : (first : ℕ) (values : List ℤ) → values_of (tagged_from first values) ≡ values
values_from first [] = refl
values_from first (value ∷ values) = ap (λ rest. value ∷ rest) (values_from (first + 1) values)

-- the values after the difference are those of the list after it
pub values_next : (op : Enumeration) (diff : VecDiff ℤ) → values_of (enumeration_next op diff).elements ≡ applied (values_of op.elements) diff
values_next op (Replace values) = values_from op.next values
values_next op (InsertAt index value) = map_insert (λ (element : Tagged). element.value) op.elements index (record { tag = op.next; value = value })
values_next op (UpdateAt index value) = map_slice_set (λ (element : Tagged). element.value) op.elements index (record { tag = tag_at op.elements index; value = value })
values_next op (RemoveAt index) = map_remove (λ (element : Tagged). element.value) op.elements index
values_next op (Move old_index new_index) = map_moved (λ (element : Tagged). element.value) op.elements old_index new_index
values_next op (Push value) = map-append (λ (element : Tagged). element.value) op.elements (record { tag = op.next; value = value } ∷ [])
values_next op Pop = map_take_last (λ (element : Tagged). element.value) op.elements
values_next op Clear = refl

-- ---- tags

abbrev IsBelow : ℕ → Tagged → Type 0
IsBelow next element = element.tag < next

-- a tag that wasn't given out isn't in the list
pub not_given_out : (elements : List Tagged) (next tag : ℕ) → All (IsBelow next) elements → next ≤ tag → place_of elements tag ≡ None
not_given_out [] next tag below new = refl
not_given_out (element ∷ elements) next tag below new =
    let first = All-head (IsBelow next) element elements below in
    rw (ne_eqb element.tag tag (λ same. omega arith), not_given_out elements next tag (All-tail (IsBelow next) element elements below) new) refl

pub below_from : (first : ℕ) (values : List ℤ) → All (IsBelow (first + length values)) (tagged_from first values)
below_from first [] = All-nil (IsBelow (first + 0))
below_from first (value ∷ values) =
    let next : first + 1 + length values ≡ first + suc (length values) = omega arith in
    All-cons (IsBelow (first + suc (length values))) (record { tag = first; value = value }) (tagged_from (first + 1) values) (omega arith) (rw next at (below_from (first + 1) values))

pub element_at : (elements : List Tagged) (index : ℕ) → index < length elements → (element : Tagged) × (slice_get elements index ≡ Some element)
element_at [] index within = absurd (omega arith)
element_at (element ∷ elements) index within = (_, slice_get-get_or (element ∷ elements) index element within)

pub both_lawful : (a b : Bool) → (a && b) ≡ true → (a ≡ true) × (b ≡ true)
both_lawful true b is = (refl, is)
both_lawful Bool.false b is = cc

tag_below : (elements : List Tagged) (next index : ℕ) → All (IsBelow next) elements → index < length elements → tag_at elements index < next
tag_below [] next index below within = absurd (omega arith)
tag_below (element ∷ elements) next index below within =
    rw (slice_get-get_or (element ∷ elements) index element within) (All-get_or (IsBelow next) (element ∷ elements) index element within below)

module _ (op : Enumeration) (below : All (IsBelow op.next) op.elements) where
  more : (count : ℕ) → All (IsBelow (op.next + count)) op.elements
  more count = All-weaker (IsBelow op.next) (IsBelow (op.next + count)) (λ element is. omega arith) op.elements below

  -- those after the difference are below the next one
  pub given_out_next : (diff : VecDiff ℤ) → IsLawful diff (length op.elements) → All (IsBelow (op.next + made diff)) (enumeration_next op diff).elements
  given_out_next (Replace values) lawful = below_from op.next values
  given_out_next (InsertAt index value) lawful = all_insert (IsBelow (op.next + 1)) op.elements index (record { tag = op.next; value = value }) (omega arith) (more 1)
  given_out_next (UpdateAt index value) lawful =
      All-set (IsBelow (op.next + 0)) op.elements index (record { tag = tag_at op.elements index; value = value }) (omega (arith, tag_below op.elements op.next index below (ltb-true index (length op.elements) lawful))) (more 0)
  given_out_next (RemoveAt index) lawful = all_remove (IsBelow (op.next + 0)) op.elements index (more 0)
  given_out_next (Move old_index new_index) lawful =
      all_moved (IsBelow (op.next + 0)) op.elements old_index new_index (ltb-true old_index (length op.elements) (both_lawful (nat_lt old_index (length op.elements)) (nat_lt new_index (length op.elements)) lawful).0) (more 0)
  given_out_next (Push value) lawful =
      rw (← insert_end op.elements (record { tag = op.next; value = value }))
      (all_insert (IsBelow (op.next + 1)) op.elements (length op.elements) (record { tag = op.next; value = value }) (omega arith) (more 1))
  given_out_next Pop lawful = All-take (IsBelow (op.next + 0)) (length op.elements - 1) op.elements (more 0)
  given_out_next Clear lawful = All-nil (IsBelow (op.next + 0))

  module _ (distinct : AreDistinct op.elements) where
    distinct_moved : (old_index new_index : ℕ) → old_index < length op.elements → new_index < length op.elements → AreDistinct (moved op.elements old_index new_index)
    distinct_moved old_index new_index old_within new_within =
        let at = element_at op.elements old_index old_within in
        let left = length-remove op.elements old_index old_within in
        rw at.1
        (distinct_insert (remove op.elements old_index) new_index at.0 (omega (arith, left)) (left_without op.elements old_index new_index at.0 distinct at.1 new_within) (distinct_remove op.elements old_index old_within distinct))

    -- the tags after the difference differ
    pub distinct_next : (diff : VecDiff ℤ) → IsLawful diff (length op.elements) → AreDistinct (enumeration_next op diff).elements
    distinct_next (Replace values) lawful = distinct_from op.next values
    distinct_next (InsertAt index value) lawful =
        distinct_insert op.elements index (record { tag = op.next; value = value }) (leb-true index (length op.elements) lawful) (not_given_out op.elements op.next op.next below (omega arith)) distinct
    distinct_next (UpdateAt index value) lawful = distinct_set op.elements index (record { tag = tag_at op.elements index; value = value }) (ltb-true index (length op.elements) lawful) refl distinct
    distinct_next (RemoveAt index) lawful = distinct_remove op.elements index (ltb-true index (length op.elements) lawful) distinct
    distinct_next (Move old_index new_index) lawful =
        let within = both_lawful (nat_lt old_index (length op.elements)) (nat_lt new_index (length op.elements)) lawful in
        distinct_moved old_index new_index (ltb-true old_index (length op.elements) within.0) (ltb-true new_index (length op.elements) within.1)
    distinct_next (Push value) lawful =
        rw (← insert_end op.elements (record { tag = op.next; value = value }))
        (distinct_insert op.elements (length op.elements) (record { tag = op.next; value = value }) (omega arith) (not_given_out op.elements op.next op.next below (omega arith)) distinct)
    distinct_next Pop lawful =
        let some = ltb-true 0 (length op.elements) lawful in
        rw (← remove_last op.elements) (distinct_remove op.elements (length op.elements - 1) (omega (arith, some)) distinct)
    distinct_next Clear lawful = tt

-- ---- the laws of the operator

-- the list after a start has its tags
pub enumeration_stands : (xs : List ℤ) → IsEnumeration (enumeration_of xs) xs
enumeration_stands xs =
    let start : 0 + length xs ≡ length xs = omega arith in
    record { values = values_from 0 xs; distinct = distinct_from 0 xs; given_out = rw start at (below_from 0 xs) }

given_leads : (op : Enumeration) (diff : VecDiff ℤ) → IsLawful diff (length op.elements) → LeadsTo op.elements (enumerate_gives op diff) (enumeration_next op diff).elements
given_leads op (Replace values) lawful = leads_one op.elements (Replace (tagged_from op.next values)) refl
given_leads op (InsertAt index value) lawful = leads_one op.elements (InsertAt index (record { tag = op.next; value = value })) lawful
given_leads op (UpdateAt index value) lawful = leads_one op.elements (UpdateAt index (record { tag = tag_at op.elements index; value = value })) lawful
given_leads op (RemoveAt index) lawful = leads_one op.elements (RemoveAt index) lawful
given_leads op (Move old_index new_index) lawful = leads_one op.elements (Move old_index new_index) lawful
given_leads op (Push value) lawful = leads_one op.elements (Push (record { tag = op.next; value = value })) refl
given_leads op Pop lawful = leads_one op.elements Pop lawful
given_leads op Clear lawful = leads_one op.elements Clear refl

same_length : (op : Enumeration) (xs : List ℤ) → IsEnumeration op xs → length op.elements ≡ length xs
same_length op xs stands = sym (length-map op.elements (λ (element : Tagged). element.value)) ∙ ap length stands.values

-- the elements are no more than the list's
pub no_longer : (op : Enumeration) (xs : List ℤ) → IsEnumeration op xs → length op.elements ≤ length xs
no_longer op xs stands = omega (arith, same_length op xs stands)

module _ (op : Enumeration) (xs : List ℤ) (diff : VecDiff ℤ) (stands : IsEnumeration op xs) where
  lawful_here : IsLawful diff (length xs) → IsLawful diff (length op.elements)
  lawful_here lawful = rw (same_length op xs stands) lawful

  -- the operator stands for the list after the difference
  pub stands_next : IsLawful diff (length xs) → IsEnumeration (enumeration_next op diff) (applied xs diff)
  stands_next lawful = record {
    values = values_next op diff ∙ ap (λ values. applied values diff) stands.values;
    distinct = distinct_next op stands.given_out stands.distinct diff (lawful_here lawful);
    given_out = given_out_next op stands.given_out diff (lawful_here lawful);
  }

  -- what is given leads from the elements to those after the difference
  pub enumerate_leads : IsLawful diff (length xs) → LeadsTo op.elements (enumerate_gives op diff) (enumeration_next op diff).elements
  enumerate_leads lawful = given_leads op diff (lawful_here lawful)

  -- the operator can go a step by a lawful difference that leaves few items, while there are tags
  pub may_step : IsLawful diff (length xs) → length (applied xs diff) ≤ 65536 → op.next + 65536 < 2 ^ 128 → EnumerateStep op diff
  may_step lawful short few = record { lawful = lawful_here lawful; short = rw (same_length (enumeration_next op diff) (applied xs diff) (stands_next lawful)) short; tags = few }

-- a difference that leaves few items makes few
pub few_made : (xs : List ℤ) (diff : VecDiff ℤ) → length (applied xs diff) ≤ 65536 → made diff ≤ 65536
few_made xs (Replace values) short = short
few_made xs (InsertAt index value) short = omega arith
few_made xs (UpdateAt index value) short = omega arith
few_made xs (RemoveAt index) short = omega arith
few_made xs (Move old_index new_index) short = omega arith
few_made xs (Push value) short = omega arith
few_made xs Pop short = omega arith
few_made xs Clear short = omega arith

pub few_tags : (op : Enumeration) (xs : List ℤ) (diff : VecDiff ℤ) → length (applied xs diff) ≤ 65536 → op.next + made diff ≤ op.next + 65536
few_tags op xs diff short = omega (arith, few_made xs diff short)

pub few_made_by_step : (op : Enumeration) (diff : VecDiff ℤ) → EnumerateStep op diff → made diff ≤ 65536
few_made_by_step op diff step =
    let after : length (applied (values_of op.elements) diff) ≡ length (enumeration_next op diff).elements =
    ap length (sym (values_next op diff)) ∙ length-map (enumeration_next op diff).elements (λ (element : Tagged). element.value) in
    few_made (values_of op.elements) diff (rw after step.short)

-- ---- many steps

module _ (op : Enumeration) (xs : List ℤ) (diffs : List (VecDiff ℤ)) (stands : IsEnumeration op xs) (lawful : AreLawful xs diffs) where
  -- the operator can follow differences that are lawful for its list and keep lists short, while there are tags
  pub enumerate_can_follow : length xs ≤ 65536 → StaysShort 65536 xs diffs → op.next + 65536 * length diffs < 2 ^ 128 → CanFollow enumeration_next EnumerateStep op diffs
  enumerate_can_follow short stays few =
      can_follow IsEnumeration enumeration_next stands_next (λ op. op.next) EnumerateStep 65536 (2 ^ 128)
      (λ op xs diff stands lawful short short_after few. may_step op xs diff stands lawful short_after few) (λ op xs diff stands lawful short. few_tags op xs diff short)
      op xs diffs stands lawful short stays few

  -- after differences the operator stands for the list after them, and what was given leads from the elements to those after them
  pub enumerate_follows : Follows IsEnumeration (λ op xs. op.elements) op xs diffs (after_all enumeration_next op diffs) (all_given enumeration_next enumerate_gives op diffs)
  enumerate_follows = follows IsEnumeration enumeration_next stands_next (λ op xs. op.elements) enumerate_gives enumerate_leads no_longer op xs diffs stands lawful

  pub enumerate_after_all : values_of (after_all enumeration_next op diffs).elements ≡ replayed xs diffs
  enumerate_after_all = enumerate_follows.stands.values

  pub enumerate_all_given : AreLawful op.elements (all_given enumeration_next enumerate_gives op diffs)
      × (replayed op.elements (all_given enumeration_next enumerate_gives op diffs) ≡ (after_all enumeration_next op diffs).elements)
  enumerate_all_given = (enumerate_follows.lawful, enumerate_follows.replay)
