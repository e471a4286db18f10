-- The index of a list with tags: what a step makes of it, and what a search in it finds.
use Rattle.std.proofs.Common.{◌≡◌, ◌∙◌, ℕ, zero, suc, ◌+◌, ◌-◌, ◌<◌, ◌≤◌, ◌==◌, nat_lt, ℤ, List, [], ◌∷◌, ◌++◌, length, get_or, map, filter, insert, remove, cond, not, Bool, true, false, if◌then◌else◌, Option, None, Some, Err, Less, Equal, Greater, refl, sym, subst, ap, ap₂, add-one, arith}
use Rattle.std.specs.Option.{option_map}
use Rattle.std.proofs.lemmas.Bool.{eqb-true, eqb-false, ltb-true, ltb-false, leb-true, ne_eqb}
use Rattle.std.proofs.lemmas.List.{append-nil, map-append}
use Rattle.std.proofs.lemmas.List.Edits.{insert_end}
use Rattle.std.proofs.lemmas.List.Elements.{All-append, All-cons, All-contains, All-get_or, All-nil, All-weaker, Contains-append_left, Contains-push, filter-append}
use Rattle.std.proofs.lemmas.List.Kept.{IsSortedBy-push}
use Rattle.std.proofs.lemmas.List.Sorted.{searchable_from_sorted}
use Rattle.std.proofs.lemmas.Cmp.{nat_cmp_total}
use Rattle.std.specs.Cmp.{nat_cmp_is}
use Rattle.std.specs.FinMap.{nat_cmp-IsAntisymmetric}
use Rattle.std.specs.List.{All, Contains}
use Rattle.std.specs.List.Retain.{RetainsInTurn}
use Rattle.std.specs.List.Sorted.{IsBinarySearchResult, IsPartitionPoint, IsSortedBy}
use Rattle.std.specs.Ordering.{nat_cmp, is_lt}
use Rattle.sig_diff.specs.declared.contents.Tagged.{Tagged}
use Rattle.sig_diff.specs.Differences.{applied}
use Rattle.sig_diff.specs.Replaying.{replayed}
use Rattle.sig_diff.specs.declared.differences.VecDiff.{VecDiff}
use Rattle.sig_diff.specs.declared.differences.VecDiff.TheVariants.{Replace, InsertAt, UpdateAt, RemoveAt, Move, Push, Pop, Clear}
use Rattle.sig_diff.proofs.Filtered.{remove_last}
use Rattle.sig_ops.specs.declared.enumerating.TagPlace.{TagPlace}
use Rattle.sig_ops.specs.Enumerating.{Enumeration, enumerate_gives, enumeration_next, enumeration_of, has_tag, made, place_of, tag_at, tagged_from}
use Rattle.sig_ops.specs.laws.Enumerating.{EnumerateStep, both_lawful, distinct_next, element_at, enumeration_stands, given_out_next, no_longer, not_given_out}
use Rattle.sig_ops.specs.TagIndex.{IsIndexed, entry_of, entry_shifted, indexed, is_elsewhere, numbered, reindexed, shifted}
use Rattle.sig_ops.specs.laws.TagPlaces.{no_place_before, others, place_from, place_insert_new, place_insert_other, place_moved, place_remove, place_set, place_within, same_within, shifted_end}

-- a pass by a closure that stays as it is and captures
module _ {X F : Type 0} (calls : F → X → Bool → F → X → Type 0) (test : X → Bool) (change : X → X) (f : F)
    (answers : (x : X) (stays : Bool) (g : F) (y : X) → calls f x stays g y → (stays ≡ test x) × (g ≡ f) × (y ≡ change x)) where
  stays_first : (stays : Bool) (x : X) (xs : List X) → cond stays (change x ∷ map change xs) (map change xs) ≡ map change (cond stays (x ∷ xs) xs)
  stays_first true x xs = refl
  stays_first false x xs = refl

  pub retained : (xs ys : List X) → RetainsInTurn calls f xs ys → ys ≡ map change (filter test xs)
  retained [] ys leads = leads
  retained (x ∷ xs) ys leads =
      let one = answers x leads.0 leads.1 leads.2 leads.3 in
      let rest = retained xs leads.4 (subst (λ g. RetainsInTurn calls g xs leads.4) one.1 leads.5) in
      leads.6 ∙ (λ i. cond (one.0 i) (one.2 i ∷ rest i) (rest i)) ∙ stays_first (test x) x (filter test xs)

-- ---- an index by the places of tags

shifted_entry : (from to tag : ℕ) (found : Option ℕ) → map (entry_shifted from to) (entry_of tag found) ≡ entry_of tag (option_map (shifted from to) found)
shifted_entry from to tag None = refl
shifted_entry from to tag (Some place) = refl

kept_entry : (here : Bool) (tag place : ℕ) → cond (not here) (record { tag = tag; place = place } ∷ []) [] ≡ entry_of tag (if here then None else Some place)
kept_entry true tag place = refl
kept_entry false tag place = refl

other_entry : (index tag : ℕ) (found : Option ℕ) → filter (is_elsewhere index) (entry_of tag found) ≡ entry_of tag (others index found)
other_entry index tag None = refl
other_entry index tag (Some place) = kept_entry (place == index) tag place

module _ (places : ℕ → Option ℕ) where
  indexed_shifted : (from to next : ℕ) → map (entry_shifted from to) (indexed places next) ≡ indexed (λ tag. option_map (shifted from to) (places tag)) next
  indexed_shifted from to zero = refl
  indexed_shifted from to (suc tag) =
      map-append (entry_shifted from to) (indexed places tag) (entry_of tag (places tag)) ∙ ap₂ ◌++◌ (indexed_shifted from to tag) (shifted_entry from to tag (places tag))

  indexed_others : (index next : ℕ) → filter (is_elsewhere index) (indexed places next) ≡ indexed (λ tag. others index (places tag)) next
  indexed_others index zero = refl
  indexed_others index (suc tag) =
      filter-append (is_elsewhere index) (indexed places tag) (entry_of tag (places tag)) ∙ ap₂ ◌++◌ (indexed_others index tag) (other_entry index tag (places tag))

  indexed_none : (next : ℕ) → ((tag : ℕ) → tag < next → places tag ≡ None) → indexed places next ≡ []
  indexed_none zero none = refl
  indexed_none (suc tag) none = rw (indexed_none tag (λ other below. none other (omega arith)), none tag (omega arith)) refl

  module _ (after : ℕ → Option ℕ) where
    indexed_same : (next : ℕ) → ((tag : ℕ) → tag < next → places tag ≡ after tag) → indexed places next ≡ indexed after next
    indexed_same zero same = refl
    indexed_same (suc tag) same = ap₂ ◌++◌ (indexed_same tag (λ other below. same other (omega arith))) (ap (entry_of tag) (same tag (omega arith)))

    -- no tag was given out
    stayed : (next : ℕ) → ((tag : ℕ) → tag < next → places tag ≡ after tag) → indexed places next ≡ indexed after (next + 0)
    stayed next same =
        let none : next + 0 ≡ next = omega arith in
        rw none (indexed_same next same)

    -- the next tag was given out
    came : (next place : ℕ) → ((tag : ℕ) → tag < next → places tag ≡ after tag) → after next ≡ Some place → indexed places next ++ record { tag = next; place = place } ∷ [] ≡ indexed after (next + 1)
    came next place same comes = rw (add-one next, comes) (ap (λ entries. entries ++ record { tag = next; place = place } ∷ []) (indexed_same next same))

-- the index of a list with new tags
pub numbered_is : (first : ℕ) (values : List ℤ) (count : ℕ) → count ≤ length values → numbered first count ≡ indexed (place_of (tagged_from first values)) (first + count)
numbered_is first values zero within =
    let none : first + 0 ≡ first = omega arith in
    rw none (sym (indexed_none (place_of (tagged_from first values)) first (no_place_before first values)))
numbered_is first values (suc count) within =
    let next : first + suc count ≡ suc (first + count) = omega arith in
    rw (next, place_from first values count (omega arith)) (ap (λ entries. entries ++ record { tag = first + count; place = count } ∷ []) (numbered_is first values count (omega arith)))

-- ---- a step

mapped_same : (found : Option ℕ) → option_map (λ place. place) found ≡ found
mapped_same None = refl
mapped_same (Some place) = refl

module _ (op : Enumeration) (index : List TagPlace) (whole : IsIndexed op.elements op.next index) where
  abbrev len : ℕ
  len = length op.elements

  new : place_of op.elements op.next ≡ None
  new = not_given_out op.elements op.next op.next whole.given_out (omega arith)

  came_at : (place : ℕ) (value : ℤ) → place ≤ len → indexed (λ tag. option_map (shifted len place) (place_of op.elements tag)) op.next ++ record { tag = op.next; place = place } ∷ [] ≡ indexed (place_of (insert op.elements place (record { tag = op.next; value = value }))) (op.next + 1)
  came_at place value within =
      came _ (place_of (insert op.elements place (record { tag = op.next; value = value }))) op.next place
      (λ tag below. sym (place_insert_other op.elements place (record { tag = op.next; value = value }) tag within (ne_eqb op.next tag (λ same. omega arith))))
      (place_insert_new op.elements place (record { tag = op.next; value = value }) op.next within refl new)

  at_end : (tag : ℕ) → place_of op.elements tag ≡ option_map (shifted len len) (place_of op.elements tag)
  at_end tag = sym (same_within (shifted len len) (λ place. place) len (place_of op.elements tag) (place_within op.elements tag) (shifted_end len) ∙ mapped_same (place_of op.elements tag))

  moves : (old_place new_place : ℕ) → old_place < len → new_place < len → indexed (λ tag. option_map (shifted old_place new_place) (place_of op.elements tag)) op.next ≡ indexed (place_of (enumeration_next op (Move old_place new_place)).elements) (op.next + 0)
  moves old_place new_place old_within new_within =
      let at = element_at op.elements old_place old_within in
      rw at.1 (stayed _ (place_of (insert (remove op.elements old_place) new_place at.0)) op.next (λ tag below. sym (place_moved op.elements old_place new_place at.0 whole.distinct at.1 new_within tag (has_tag tag at.0) refl)))

  goes : (place : ℕ) → place < len → indexed (λ tag. option_map (shifted place len) (others place (place_of op.elements tag))) op.next ≡ indexed (place_of (remove op.elements place)) (op.next + 0)
  goes place within = stayed _ (place_of (remove op.elements place)) op.next (λ tag below. sym (place_remove op.elements place tag whole.distinct within))

  index_next : (diff : VecDiff ℤ) → EnumerateStep op diff → reindexed op.next len diff index ≡ indexed (place_of (enumeration_next op diff).elements) (op.next + made diff)
  index_next (Replace values) step = numbered_is op.next values (length values) (omega arith)
  index_next (InsertAt place value) step = rw (whole.is, indexed_shifted (place_of op.elements) len place op.next) (came_at place value (leb-true place len step.lawful))
  index_next (UpdateAt place value) step =
      rw whole.is (stayed (place_of op.elements) _ op.next (λ tag below. sym (place_set op.elements place tag (record { tag = tag_at op.elements place; value = value }) (ltb-true place len step.lawful) refl)))
  index_next (RemoveAt place) step =
      rw (whole.is, indexed_others (place_of op.elements) place op.next, indexed_shifted (λ tag. others place (place_of op.elements tag)) place len op.next) (goes place (ltb-true place len step.lawful))
  index_next (Move old_place new_place) step =
      let within = both_lawful _ _ step.lawful in
      rw (whole.is, indexed_shifted (place_of op.elements) old_place new_place op.next) (moves old_place new_place (ltb-true old_place len within.0) (ltb-true new_place len within.1))
  index_next (Push value) step =
      rw (whole.is, ← insert_end op.elements (record { tag = op.next; value = value }), indexed_same (place_of op.elements) (λ tag. option_map (shifted len len) (place_of op.elements tag)) op.next (λ tag below. at_end tag))
      (came_at len value (omega arith))
  index_next Pop step =
      let some = ltb-true 0 len step.lawful in
      rw (whole.is, ← remove_last op.elements, indexed_others (place_of op.elements) (len - 1) op.next, indexed_shifted (λ tag. others (len - 1) (place_of op.elements tag)) (len - 1) len op.next)
      (goes (len - 1) (omega (arith, some)))
  index_next Clear step = sym (indexed_none (place_of []) (op.next + 0) (λ tag below. refl))

  -- the index after a step is that of the elements after it
  pub stays_indexed : (diff : VecDiff ℤ) → EnumerateStep op diff → IsIndexed (enumeration_next op diff).elements (op.next + made diff) (reindexed op.next len diff index)
  stays_indexed diff step = record {
    distinct = distinct_next op whole.given_out whole.distinct diff step.lawful;
    given_out = given_out_next op whole.given_out diff step.lawful;
    short = step.short;
    is = index_next diff step;
  }

  -- and so is what the code makes of it
  pub index_taken : (diff : VecDiff ℤ) (given : VecDiff Tagged) (elements : List Tagged) (count size : ℕ) (items : List TagPlace) → EnumerateStep op diff → given ∷ [] ≡ enumerate_gives op diff →
      elements ≡ applied op.elements given → count ≡ made diff → size ≡ len → items ≡ reindexed op.next size diff index → IsIndexed elements (op.next + count) items
  index_taken diff given elements count size items step gives applies makes sized items_is =
      let after : elements ≡ (enumeration_next op diff).elements = applies ∙ ap (replayed op.elements) gives in
      rw (items_is, sized, makes, after) (stays_indexed diff step)

-- the index of a list that was just tagged
pub index_started : (values : List ℤ) (elements : List Tagged) (items : List TagPlace) → length values ≤ 65536 → elements ≡ tagged_from 0 values → items ≡ numbered 0 (length values) → IsIndexed elements (length values) items
index_started values elements items short tags numbers =
    let stands = enumeration_stands values in
    let start : 0 + length values ≡ length values = omega arith in
    let all = rw start at (numbered_is 0 values (length values) (omega arith)) in
    rw tags (record { distinct = stands.distinct; given_out = stands.given_out; short = omega (arith, short, no_longer (enumeration_of values) values stands); is = numbers ∙ all })

-- ---- a search

below_other : (tag last : ℕ) → tag < suc last → (tag ≡ last → ⊥) → tag < last
below_other tag last below apart = grind (arith, below, apart)

module _ (places : ℕ → Option ℕ) where
  -- an entry tells the place of its tag, and the tag is below the next one
  abbrev Tells : ℕ → TagPlace → Type 0
  Tells next entry = (entry.tag < next) × (places entry.tag ≡ Some entry.place)

  tells_entry : (tag : ℕ) (found : Option ℕ) → places tag ≡ found → All (Tells (suc tag)) (entry_of tag found)
  tells_entry tag None is = All-nil (Tells (suc tag))
  tells_entry tag (Some place) is = All-cons (Tells (suc tag)) (record { tag = tag; place = place }) [] (omega arith, is) (All-nil (Tells (suc tag)))

  indexed_tells : (next : ℕ) → All (Tells next) (indexed places next)
  indexed_tells zero = All-nil (Tells 0)
  indexed_tells (suc tag) =
      All-append (Tells (suc tag)) (indexed places tag) (entry_of tag (places tag))
      (All-weaker (Tells tag) (Tells (suc tag)) (λ entry tells. let below = tells.0 in (omega arith, tells.1)) (indexed places tag) (indexed_tells tag)) (tells_entry tag (places tag) refl)

  -- a tag that has a place has an entry
  indexed_has : (next tag place : ℕ) → tag < next → places tag ≡ Some place → Contains (indexed places next) (record { tag = tag; place = place })
  indexed_has zero tag place below is = absurd (omega arith)
  indexed_has (suc last) tag place below is = at (tag == last) refl (λ lower. indexed_has last tag place lower is)
    where
      at : (same : Bool) → (tag == last) ≡ same → (tag < last → Contains (indexed places last) (record { tag = tag; place = place })) → Contains (indexed places (suc last)) (record { tag = tag; place = place })
      at true same earlier =
          let alike : tag ≡ last = eqb-true tag last same in
          let here : places last ≡ Some place = rw alike at is in
          rw (alike, here) (Contains-push (indexed places last) (record { tag = last; place = place }))
      at false same earlier =
          let apart = eqb-false tag last same in
          Contains-append_left (indexed places last) (entry_of last (places last)) (record { tag = tag; place = place }) (earlier (below_other tag last below apart))

  -- the tags rise
  abbrev IsRising : List TagPlace → Type 0
  IsRising entries = IsSortedBy (λ (one other : TagPlace). is_lt (nat_cmp one.tag other.tag)) entries

  rises : (tag : ℕ) (found : Option ℕ) → IsRising (indexed places tag) → IsRising (indexed places tag ++ entry_of tag found)
  rises tag None up = rw (append-nil (indexed places tag)) up
  rises tag (Some place) up =
      IsSortedBy-push (λ (one other : TagPlace). is_lt (nat_cmp one.tag other.tag)) (indexed places tag) (record { tag = tag; place = place }) up
      (λ d some. let below = (All-get_or (Tells tag) (indexed places tag) (length (indexed places tag) - 1) d (omega arith) (indexed_tells tag)).0 in ap is_lt (sym (nat_cmp_is tag _ Greater below)))

  indexed_rises : (next : ℕ) → IsRising (indexed places next)
  indexed_rises zero = λ k d from within. absurd (omega arith)
  indexed_rises (suc tag) = rises tag (places tag) (indexed_rises tag)

module _ (elements : List Tagged) (next : ℕ) (index : List TagPlace) (tag : ℕ) (whole : IsIndexed elements next index) where
  -- a search ends at an entry of the tag
  pub found_place : (at : ℕ) (d : TagPlace) → at < length index → nat_cmp (get_or index at d).tag tag ≡ Equal → Some (get_or index at d).place ≡ place_of elements tag
  found_place at d within equal =
      let tells : All (Tells (place_of elements) next) index = rw whole.is (indexed_tells (place_of elements) next) in
      let has : (get_or index at d).tag ≡ tag = nat_cmp-IsAntisymmetric (get_or index at d).tag tag equal in
      sym (rw has at (All-get_or (Tells (place_of elements) next) index at d within tells).1)

  -- or parts the lower tags from the higher ones, and then no element has it
  none_has : (at : ℕ) → IsPartitionPoint (λ (entry : TagPlace). nat_cmp entry.tag tag ≡ Less) (λ (entry : TagPlace). nat_cmp entry.tag tag ≡ Greater) index at → All (λ (entry : TagPlace). entry.tag ≡ tag → ⊥) index
  none_has at parted = λ k d within same.
      let equal = nat_cmp_is (get_or index k d).tag tag Equal same in
      elim (nat_lt k at) as (λ before. nat_lt k at ≡ before → ⊥) [
        | true ↦ λ before. let less = parted.0 k d (omega arith) (ltb-true k at before) in cc
        | false ↦ λ before. let greater = parted.1 k d (ltb-false k at before) within in cc
      ] refl

  was_given_out : (place : ℕ) → place_of elements tag ≡ Some place → tag < next
  was_given_out place is =
      elim (nat_lt tag next) as (λ before. nat_lt tag next ≡ before → tag < next) [
        | true ↦ λ before. ltb-true tag next before
        | false ↦ λ before. let none = not_given_out elements next tag whole.given_out (ltb-false tag next before) in cc
      ] refl

  missing : (found : Option ℕ) → All (λ (entry : TagPlace). entry.tag ≡ tag → ⊥) index → place_of elements tag ≡ found → None ≡ found
  missing None never is = refl
  missing (Some place) never is =
      let contains : Contains index (record { tag = tag; place = place }) = rw whole.is (indexed_has (place_of elements) next tag place (was_given_out place is) is) in
      absurd (All-contains (λ (entry : TagPlace). entry.tag ≡ tag → ⊥) index (record { tag = tag; place = place }) never contains refl)

  pub no_place : (at : ℕ) → IsBinarySearchResult (λ (entry : TagPlace). nat_cmp entry.tag tag) index (Err at) → None ≡ place_of elements tag
  no_place at ends =
      let up : IsSortedBy (λ (one other : TagPlace). is_lt (nat_cmp one.tag other.tag)) index = rw whole.is (indexed_rises (place_of elements) next) in
      missing (place_of elements tag) (none_has at (ends (searchable_from_sorted nat_cmp_total (λ (entry : TagPlace). entry.tag) index tag up))) refl
