-- Where the element with a tag is after an edit of the list.
use Rattle.std.specs.Prelude.{◌≡◌, ℕ, zero, suc, ◌+◌, ◌-◌, ◌<◌, ◌≤◌, ◌==◌, ℤ, List, [], ◌∷◌, length, insert, remove, slice_get, slice_set, Bool, true, false, if◌then◌else◌, Option, None, Some, refl}
use Rattle.std.specs.Option.{option_map}
use Rattle.std.proofs.Common.{◌∙◌, sym, ap, add-one, arith}
use Rattle.std.proofs.lemmas.Bool.{eqb-true, eqb-false, eq-eqb, ne_eqb}
use Rattle.std.proofs.lemmas.Option.{same_Some, slice_get_within}
use Rattle.std.proofs.lemmas.List.Edits.{length-remove}
use Rattle.std.proofs.lemmas.Bool.Decides.{nat_tests}
use Rattle.std.proofs.lemmas.Grind.{common_steps}
use Rattle.sig_diff.specs.declared.contents.Tagged.{Tagged}
use Rattle.sig_ops.specs.Enumerating.{has_tag, place_of, tag_at, tagged_from, AreDistinct}
use Rattle.sig_ops.specs.TagIndex.{shifted}

-- ---- places shifted

shifted_first : (from to : ℕ) → shifted (suc from) (suc to) 0 ≡ 0
shifted_first from to = grind (arith, nat_tests, common_steps)

shifted_next : (from to place : ℕ) → shifted (suc from) (suc to) (place + 1) ≡ shifted from to place + 1
shifted_next from to place = grind (arith, nat_tests, common_steps)

-- a place that comes in, one that goes, and both
shifted_in : (len place : ℕ) → place < len → shifted len 0 place ≡ place + 1
shifted_in len place within = grind (arith, nat_tests, common_steps)

shifted_out : (len place : ℕ) → place < len → shifted 0 (suc len) (place + 1) ≡ place
shifted_out len place within = grind (arith, nat_tests, common_steps)

shifted_twice : (len from to place : ℕ) → from < len → to < len → place < len → (place == from) ≡ false → shifted (len - 1) to (shifted from len place) ≡ shifted from to place
shifted_twice len from to place from_within to_within within other = grind (arith, nat_tests, common_steps)

pub shifted_end : (len place : ℕ) → place < len → shifted len len place ≡ place
shifted_end len place within = grind (arith, nat_tests, common_steps)

-- ---- where a tag is

-- the place of an element with a first one before it
first_stays : (here : Bool) (found after : Option ℕ) (seen behind : Option ℕ → Option ℕ) → seen (Some 0) ≡ Some 0 → seen (option_map (λ place. place + 1) found) ≡ option_map (λ place. place + 1) (behind found) → after ≡ behind found →
    (if here then Some 0 else option_map (λ place. place + 1) after) ≡ seen (if here then Some 0 else option_map (λ place. place + 1) found)
first_stays true found after seen behind first next is = sym first
first_stays false found after seen behind first next is = ap (option_map (λ place. place + 1)) is ∙ sym next

-- functions that agree on places within the list agree on a place of it
pub same_within : (f g : ℕ → ℕ) (len : ℕ) (found : Option ℕ) → ((place : ℕ) → found ≡ Some place → place < len) → ((place : ℕ) → place < len → f place ≡ g place) → option_map f found ≡ option_map g found
same_within f g len None within same = refl
same_within f g len (Some place) within same = ap Some (same place (within place refl))

one_behind : (here : Bool) (found : Option ℕ) (len place : ℕ) → ((place : ℕ) → found ≡ Some place → place < len) → (if here then Some 0 else option_map (λ place. place + 1) found) ≡ Some place → place < suc len
one_behind true found len zero within is = omega arith
one_behind true found len (suc place) within is = cc
one_behind false None len place within is = cc
one_behind false (Some at) len place within is = let below = within at refl in let there : at + 1 ≡ place = same_Some (at + 1) place is in omega arith

pub place_within : (elements : List Tagged) (tag place : ℕ) → place_of elements tag ≡ Some place → place < length elements
place_within [] tag place is = cc
place_within (element ∷ elements) tag place is = one_behind (has_tag tag element) (place_of elements tag) (length elements) place (place_within elements tag) is

-- an element with another tag comes in
steps_in : (len index : ℕ) (found : Option ℕ) → option_map (shifted (suc len) (suc index)) (option_map (λ place. place + 1) found) ≡ option_map (λ place. place + 1) (option_map (shifted len index) found)
steps_in len index None = refl
steps_in len index (Some place) = ap Some (shifted_next len index place)

pub place_insert_other : (elements : List Tagged) (index : ℕ) (element : Tagged) (tag : ℕ) → index ≤ length elements → has_tag tag element ≡ false →
    place_of (insert elements index element) tag ≡ option_map (shifted (length elements) index) (place_of elements tag)
place_insert_other elements zero element tag within other =
    rw other (same_within (λ place. place + 1) (shifted (length elements) 0) (length elements) (place_of elements tag) (place_within elements tag) (λ place below. sym (shifted_in (length elements) place below)))
place_insert_other [] (suc index) element tag within other = absurd (omega arith)
place_insert_other (first ∷ elements) (suc index) element tag within other =
    first_stays (has_tag tag first) (place_of elements tag) (place_of (insert elements index element) tag)
    (option_map (shifted (suc (length elements)) (suc index))) (option_map (shifted (length elements) index))
    (ap Some (shifted_first (length elements) index)) (steps_in (length elements) index (place_of elements tag)) (place_insert_other elements index element tag (omega arith) other)

-- the element with a new tag is where it comes in
came_behind : (here : Bool) (found : Option ℕ) (after : Option ℕ) (index : ℕ) → (if here then Some 0 else option_map (λ place. place + 1) found) ≡ None → (found ≡ None → after ≡ Some index) →
    (if here then Some 0 else option_map (λ place. place + 1) after) ≡ Some (suc index)
came_behind true found after index none comes = cc
came_behind false None after index none comes = rw (comes refl) (ap Some (add-one index))
came_behind false (Some place) after index none comes = cc

pub place_insert_new : (elements : List Tagged) (index : ℕ) (element : Tagged) (tag : ℕ) → index ≤ length elements → element.tag ≡ tag → place_of elements tag ≡ None → place_of (insert elements index element) tag ≡ Some index
place_insert_new elements zero element tag within has none = rw (eq-eqb element.tag tag has) refl
place_insert_new [] (suc index) element tag within has none = absurd (omega arith)
place_insert_new (first ∷ elements) (suc index) element tag within has none =
    came_behind (has_tag tag first) (place_of elements tag) (place_of (insert elements index element) tag) index none (place_insert_new elements index element tag (omega arith) has)

-- an element goes: the others stay
abbrev pub others : ℕ → Option ℕ → Option ℕ
others index None = None
others index (Some place) = if place == index then None else Some place

gone_first : (here : Bool) (found : Option ℕ) (len : ℕ) → (here ≡ true → found ≡ None) → ((place : ℕ) → found ≡ Some place → place < len) →
    found ≡ option_map (shifted 0 (suc len)) (others 0 (if here then Some 0 else option_map (λ place. place + 1) found))
gone_first true found len none within = none refl
gone_first false None len none within = refl
gone_first false (Some place) len none within =
    let behind : (place + 1 == 0) ≡ false = grind (arith, nat_tests) in
    rw behind (ap Some (sym (shifted_out len place (within place refl))))

steps_out : (len index : ℕ) (found : Option ℕ) → option_map (shifted (suc index) (suc len)) (others (suc index) (option_map (λ place. place + 1) found)) ≡ option_map (λ place. place + 1) (option_map (shifted index len) (others index found))
steps_out len index None = refl
steps_out len index (Some place) = at (place == index) refl
  where
    at : (here : Bool) → (place == index) ≡ here → option_map (shifted (suc index) (suc len)) (others (suc index) (Some (place + 1))) ≡ option_map (λ place. place + 1) (option_map (shifted index len) (others index (Some place)))
    at true is =
        let next : (place + 1 == suc index) ≡ true = grind (arith, nat_tests, is) in
        rw (next, is) refl
    at false is =
        let next : (place + 1 == suc index) ≡ false = grind (arith, nat_tests, is) in
        rw (next, is) (ap Some (shifted_next index len place))

first_out : (len index : ℕ) → option_map (shifted (suc index) (suc len)) (others (suc index) (Some 0)) ≡ Some 0
first_out len index =
    let before : (0 == suc index) ≡ false = grind (arith, nat_tests) in
    rw before (ap Some (shifted_first index len))

pub place_remove : (elements : List Tagged) (index tag : ℕ) → AreDistinct elements → index < length elements →
    place_of (remove elements index) tag ≡ option_map (shifted index (length elements)) (others index (place_of elements tag))
place_remove [] index tag distinct within = absurd (omega arith)
place_remove (first ∷ elements) zero tag distinct within =
    gone_first (has_tag tag first) (place_of elements tag) (length elements) (λ here. rw (← eqb-true first.tag tag here) distinct.0) (place_within elements tag)
place_remove (first ∷ elements) (suc index) tag distinct within =
    first_stays (has_tag tag first) (place_of elements tag) (place_of (remove elements index) tag)
    (λ found. option_map (shifted (suc index) (suc (length elements))) (others (suc index) found)) (λ found. option_map (shifted index (length elements)) (others index found))
    (first_out (length elements) index) (steps_out (length elements) index (place_of elements tag)) (place_remove elements index tag distinct.1 (omega arith))

-- where tags differ, an element's tag is at its place, and the tag at another place is another
here_first : (here : Bool) (found : Option ℕ) (index : ℕ) → found ≡ Some index → (here ≡ true → found ≡ None) → (if here then Some 0 else option_map (λ place. place + 1) found) ≡ Some (suc index)
here_first true found index is none = let never = none refl in cc
here_first false found index is none = rw is (ap Some (add-one index))

pub place_at : (elements : List Tagged) (index : ℕ) (element : Tagged) → AreDistinct elements → slice_get elements index ≡ Some element → place_of elements element.tag ≡ Some index
place_at [] index element distinct found = cc
place_at (first ∷ elements) zero element distinct found = rw (same_Some first element found, eq-eqb element.tag element.tag refl) refl
place_at (first ∷ elements) (suc index) element distinct found =
    here_first (has_tag element.tag first) (place_of elements element.tag) index (place_at elements index element distinct.1 found)
    (λ here. rw (← eqb-true first.tag element.tag here) distinct.0)

there_first : (here : Bool) (found : Option ℕ) (index : ℕ) → (found ≡ Some index → ⊥) → (if here then Some 0 else option_map (λ place. place + 1) found) ≡ Some (suc index) → ⊥
there_first true found index never is = cc
there_first false None index never is = cc
there_first false (Some place) index never is = let there : place + 1 ≡ suc index = same_Some (place + 1) (suc index) is in never (ap Some (omega arith))

place_elsewhere : (elements : List Tagged) (index tag : ℕ) (element : Tagged) → slice_get elements index ≡ Some element → has_tag tag element ≡ false → place_of elements tag ≡ Some index → ⊥
place_elsewhere [] index tag element found other is = cc
place_elsewhere (first ∷ elements) zero tag element found other is = let same : first ≡ element = same_Some first element found in first_elsewhere (has_tag tag first) (place_of elements tag) (rw same other) is
  where
    first_elsewhere : (here : Bool) (found : Option ℕ) → here ≡ false → (if here then Some 0 else option_map (λ place. place + 1) found) ≡ Some 0 → ⊥
    first_elsewhere true found other is = cc
    first_elsewhere false None other is = cc
    first_elsewhere false (Some place) other is = let there : place + 1 ≡ 0 = same_Some (place + 1) 0 is in absurd (omega arith)
place_elsewhere (first ∷ elements) (suc index) tag element found other is =
    there_first (has_tag tag first) (place_of elements tag) index (place_elsewhere elements index tag element found other) is

-- an element goes and comes in at another place
moved_other : (found : Option ℕ) (len from to : ℕ) → from < len → to < len → ((place : ℕ) → found ≡ Some place → place < len) → (found ≡ Some from → ⊥) →
    option_map (shifted (len - 1) to) (option_map (shifted from len) (others from found)) ≡ option_map (shifted from to) found
moved_other None len from to from_within to_within within never = refl
moved_other (Some place) len from to from_within to_within within never = at (place == from) refl
  where
    at : (same : Bool) → (place == from) ≡ same → option_map (shifted (len - 1) to) (option_map (shifted from len) (others from (Some place))) ≡ option_map (shifted from to) (Some place)
    at true is = absurd (never (ap Some (eqb-true place from is)))
    at false is =
        let stays : others from (Some place) ≡ Some place = rw is refl in
        rw stays (ap Some (shifted_twice len from to place from_within to_within (within place refl) is))

gone : (index : ℕ) → others index (Some index) ≡ None
gone index = rw (eq-eqb index index refl) refl

module _ (elements : List Tagged) (from to : ℕ) (element : Tagged) (distinct : AreDistinct elements) (found : slice_get elements from ≡ Some element) (to_within : to < length elements) where
  from_within : from < length elements
  from_within = slice_get_within elements from element found

  left_length : length (remove elements from) ≡ length elements - 1
  left_length = omega (arith, length-remove elements from from_within)

  pub left_without : place_of (remove elements from) element.tag ≡ None
  left_without =
      rw (place_remove elements from element.tag distinct from_within, place_at elements from element distinct found, gone from) refl

  pub place_moved : (tag : ℕ) (same : Bool) → has_tag tag element ≡ same → place_of (insert (remove elements from) to element) tag ≡ option_map (shifted from to) (place_of elements tag)
  place_moved tag true is =
      let has : element.tag ≡ tag = eqb-true element.tag tag is in
      let there : place_of elements tag ≡ Some from = rw (← has) (place_at elements from element distinct found) in
      let moves : shifted from to from ≡ to = rw (eq-eqb from from refl) refl in
      rw (there, moves) (place_insert_new (remove elements from) to element tag (omega (arith, left_length)) has (rw (← has) left_without))
  place_moved tag false is =
      rw (place_insert_other (remove elements from) to element tag (omega (arith, left_length)) is, place_remove elements from tag distinct from_within, left_length)
      (moved_other (place_of elements tag) (length elements) from to from_within to_within (place_within elements tag) (place_elsewhere elements from tag element found is))

-- an element keeps its tag
pub place_set : (elements : List Tagged) (index tag : ℕ) (element : Tagged) → index < length elements → element.tag ≡ tag_at elements index → place_of (slice_set elements index element) tag ≡ place_of elements tag
place_set [] index tag element within keeps = absurd (omega arith)
place_set (first ∷ elements) zero tag element within keeps = rw keeps refl
place_set (first ∷ elements) (suc index) tag element within keeps =
    ap (λ found. if has_tag tag first then Some 0 else option_map (λ place. place + 1) found) (place_set elements index tag element (omega arith) keeps)

-- tags from one on
pub no_place_before : (first : ℕ) (values : List ℤ) (tag : ℕ) → tag < first → place_of (tagged_from first values) tag ≡ None
no_place_before first [] tag before = refl
no_place_before first (value ∷ values) tag before = rw (ne_eqb first tag (λ same. omega arith), no_place_before (first + 1) values tag (omega arith)) refl

pub place_from : (first : ℕ) (values : List ℤ) (place : ℕ) → place < length values → place_of (tagged_from first values) (first + place) ≡ Some place
place_from first [] place within = absurd (omega arith)
place_from first (value ∷ values) zero within = rw (eq-eqb first (first + 0) (omega arith)) refl
place_from first (value ∷ values) (suc place) within =
    let tag : first + suc place ≡ first + 1 + place = omega arith in
    rw (ne_eqb first (first + suc place) (λ same. omega arith), tag, place_from (first + 1) values place (omega arith)) (ap Some (add-one place))

-- ---- tags that differ

none_behind : (here : Bool) (found after : Option ℕ) → (if here then Some 0 else option_map (λ place. place + 1) found) ≡ None → (here ≡ false) × (found ≡ None)
none_behind true found after none = cc
none_behind false None after none = (refl, refl)
none_behind false (Some place) after none = cc

pub distinct_insert : (elements : List Tagged) (index : ℕ) (element : Tagged) → index ≤ length elements → place_of elements element.tag ≡ None → AreDistinct elements → AreDistinct (insert elements index element)
distinct_insert elements zero element within new distinct = (new, distinct)
distinct_insert [] (suc index) element within new distinct = absurd (omega arith)
distinct_insert (first ∷ elements) (suc index) element within new distinct =
    let parts = none_behind (has_tag element.tag first) (place_of elements element.tag) None new in
    let other : has_tag first.tag element ≡ false = ne_eqb element.tag first.tag (λ same. eqb-false first.tag element.tag parts.0 (sym same)) in
    (rw (place_insert_other elements index element first.tag (omega arith) other, distinct.0) refl, distinct_insert elements index element (omega arith) parts.1 distinct.1)

pub distinct_remove : (elements : List Tagged) (index : ℕ) → index < length elements → AreDistinct elements → AreDistinct (remove elements index)
distinct_remove [] index within distinct = absurd (omega arith)
distinct_remove (first ∷ elements) zero within distinct = distinct.1
distinct_remove (first ∷ elements) (suc index) within distinct =
    (rw (place_remove elements index first.tag distinct.1 (omega arith), distinct.0) refl, distinct_remove elements index (omega arith) distinct.1)

pub distinct_set : (elements : List Tagged) (index : ℕ) (element : Tagged) → index < length elements → element.tag ≡ tag_at elements index → AreDistinct elements → AreDistinct (slice_set elements index element)
distinct_set [] index element within keeps distinct = absurd (omega arith)
distinct_set (first ∷ elements) zero element within keeps distinct = (rw keeps distinct.0, distinct.1)
distinct_set (first ∷ elements) (suc index) element within keeps distinct =
    (rw (place_set elements index first.tag element (omega arith) keeps) distinct.0, distinct_set elements index element (omega arith) keeps distinct.1)

pub distinct_from : (first : ℕ) (values : List ℤ) → AreDistinct (tagged_from first values)
distinct_from first [] = tt
distinct_from first (value ∷ values) = (no_place_before (first + 1) values first (omega arith), distinct_from (first + 1) values)
