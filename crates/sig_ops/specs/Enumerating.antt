-- Lists whose elements have tags: an element keeps its tag for as long as it is in the list, and no other element ever has it.
use Rattle.std.specs.Prelude.{◌≡◌, ℕ, ◌+◌, ◌<◌, ◌==◌, ℤ, List, [], ◌∷◌, length, map, slice_get, All, Bool, if◌then◌else◌, Option, None, Some}
use Rattle.std.specs.Option.{option_map, option_map_or}
use Rattle.sig_diff.specs.Replaying.{replayed}
use Rattle.sig_diff.specs.declared.contents.Tagged.{Tagged}
use Rattle.sig_diff.specs.declared.differences.VecDiff.{VecDiff}
use Rattle.sig_diff.specs.declared.differences.VecDiff.TheVariants.{Replace, InsertAt, UpdateAt, RemoveAt, Move, Push, Pop, Clear}

-- what contracts see of the operator: the elements with their tags, and the next tag
pub record Enumeration : Type 0 where
  pub elements : List Tagged
  pub next : ℕ

-- the elements with tags from this one on
abbrev pub tagged_from : ℕ → List ℤ → List Tagged
tagged_from tag [] = []
tagged_from tag (x ∷ xs) = record { tag = tag; value = x } ∷ tagged_from (tag + 1) xs

abbrev pub values_of : List Tagged → List ℤ
values_of elements = map (λ (element : Tagged). element.value) elements

-- the tag at a place
abbrev pub tag_at : List Tagged → ℕ → ℕ
tag_at elements place = option_map_or (λ (element : Tagged). element.tag) (slice_get elements place) 0

-- how many elements a difference makes: each of them has a tag of its own
abbrev pub made : {T : Type 0} → VecDiff T → ℕ
made (Replace values) = length values
made (InsertAt index value) = 1
made (Push value) = 1
made _ = 0

-- the same difference with tags: elements that are made have the next ones, and one that is updated keeps its own
abbrev pub enumerate_gives : Enumeration → VecDiff ℤ → List (VecDiff Tagged)
enumerate_gives op (Replace values) = Replace (tagged_from op.next values) ∷ []
enumerate_gives op (InsertAt index value) = InsertAt index (record { tag = op.next; value = value }) ∷ []
enumerate_gives op (UpdateAt index value) = UpdateAt index (record { tag = tag_at op.elements index; value = value }) ∷ []
enumerate_gives op (RemoveAt index) = RemoveAt index ∷ []
enumerate_gives op (Move old_index new_index) = Move old_index new_index ∷ []
enumerate_gives op (Push value) = Push (record { tag = op.next; value = value }) ∷ []
enumerate_gives op Pop = Pop ∷ []
enumerate_gives op Clear = Clear ∷ []

abbrev pub enumeration_of : List ℤ → Enumeration
enumeration_of xs = record { elements = tagged_from 0 xs; next = length xs }

abbrev pub enumeration_next : Enumeration → VecDiff ℤ → Enumeration
enumeration_next op diff = record { elements = replayed op.elements (enumerate_gives op diff); next = op.next + made diff }

-- whether an element has the tag
abbrev pub has_tag : ℕ → Tagged → Bool
has_tag tag element = element.tag == tag

-- the place of the element with a tag, where there is one
abbrev pub place_of : List Tagged → ℕ → Option ℕ
place_of [] tag = None
place_of (element ∷ elements) tag = if has_tag tag element then Some 0 else option_map (λ place. place + 1) (place_of elements tag)

-- no two elements have the same tag
abbrev pub AreDistinct : List Tagged → Type 0
AreDistinct [] = Unit {0}
AreDistinct (element ∷ elements) = (place_of elements element.tag ≡ None) × AreDistinct elements

-- the enumeration of a list: tags that differ, of those given out so far
pub record IsEnumeration (op : Enumeration) (xs : List ℤ) : Type 0 where
  pub values : values_of op.elements ≡ xs
  pub distinct : AreDistinct op.elements
  pub given_out : All (λ (element : Tagged). element.tag < op.next) op.elements
