-- An index of a list with tags: by rising tags, the place of each element.
use Rattle.std.specs.Prelude.{◌≡◌, ℕ, zero, suc, ◌+◌, ◌-◌, ◌<◌, ◌≤◌, ◌==◌, nat_lt, nat_le, ℤ, List, [], ◌∷◌, ◌++◌, length, map, filter, All, Bool, not, ◌&&◌, if◌then◌else◌, Option, None, Some}
use Rattle.sig_diff.specs.declared.contents.Tagged.{Tagged}
use Rattle.sig_diff.specs.declared.differences.VecDiff.{VecDiff}
use Rattle.sig_diff.specs.declared.differences.VecDiff.TheVariants.{Replace, InsertAt, UpdateAt, RemoveAt, Move, Push, Pop, Clear}
use Rattle.sig_ops.specs.declared.enumerating.TagPlace.{TagPlace}
use Rattle.sig_ops.specs.Enumerating.{place_of, AreDistinct}

-- where the element of a place is after the one at `from` went to `to`. One that comes in comes from the end, and one that goes
-- goes there
abbrev pub shifted : ℕ → ℕ → ℕ → ℕ
shifted from to place =
    if place == from then to else (if nat_lt from place && nat_le place to then place - 1 else (if nat_le to place && nat_lt place from then place + 1 else place))

abbrev pub entry_shifted : ℕ → ℕ → TagPlace → TagPlace
entry_shifted from to entry = record { tag = entry.tag; place = shifted from to entry.place }

-- whether the element is at another place
abbrev pub is_elsewhere : ℕ → TagPlace → Bool
is_elsewhere place entry = not (entry.place == place)

-- the first places, of elements with tags from this one on
abbrev pub numbered : ℕ → ℕ → List TagPlace
numbered tag zero = []
numbered tag (suc count) = numbered tag count ++ record { tag = tag + count; place = count } ∷ []

-- the index after a difference of a list of this length
abbrev pub reindexed : ℕ → ℕ → VecDiff ℤ → List TagPlace → List TagPlace
reindexed next len (Replace values) index = numbered next (length values)
reindexed next len (InsertAt place value) index = map (entry_shifted len place) index ++ record { tag = next; place = place } ∷ []
reindexed next len (UpdateAt place value) index = index
reindexed next len (RemoveAt place) index = map (entry_shifted place len) (filter (is_elsewhere place) index)
reindexed next len (Move old_place new_place) index = map (entry_shifted old_place new_place) index
reindexed next len (Push value) index = index ++ record { tag = next; place = len } ∷ []
reindexed next len Pop index = map (entry_shifted (len - 1) len) (filter (is_elsewhere (len - 1)) index)
reindexed next len Clear index = []

-- the entry of a tag, where an element has it
abbrev pub entry_of : ℕ → Option ℕ → List TagPlace
entry_of tag None = []
entry_of tag (Some place) = record { tag = tag; place = place } ∷ []

-- the entries of the tags below one, by their places
abbrev pub indexed : (ℕ → Option ℕ) → ℕ → List TagPlace
indexed places zero = []
indexed places (suc tag) = indexed places tag ++ entry_of tag (places tag)

-- tags that differ and are below the next one, places of 32 bits, and an index of them
pub record IsIndexed (elements : List Tagged) (next : ℕ) (index : List TagPlace) : Type 0 where
  pub distinct : AreDistinct elements
  pub given_out : All (λ (element : Tagged). element.tag < next) elements
  pub short : length elements ≤ 65536
  pub is : index ≡ indexed (place_of elements) next
