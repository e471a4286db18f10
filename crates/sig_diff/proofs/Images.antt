-- The images of a list after an edit of the list.
use Rattle.std.proofs.Common.{◌≡◌, ℕ, suc, ◌-◌, List, ◌∷◌, length, map, take, drop, insert, remove, slice_get, slice_set, Option, None, Some, refl, sym}
use Rattle.std.specs.Option.{option_map}
use Rattle.std.proofs.lemmas.List.{length-map, map-append, map-set, take-map, drop-map}
use Rattle.std.proofs.lemmas.Option.{slice_get-map}
use Rattle.sig_diff.specs.Differences.{inserted, moved}

module _ {A B : Type 0} (f : A → B) (xs : List A) where
  pub map_insert : (index : ℕ) (x : A) → map f (insert xs index x) ≡ insert (map f xs) index (f x)
  map_insert index x = rw (map-append f (take index xs) (x ∷ drop index xs), take-map f index xs, drop-map f index xs) refl

  pub map_remove : (index : ℕ) → map f (remove xs index) ≡ remove (map f xs) index
  map_remove index = rw (map-append f (take index xs) (drop (suc index) xs), take-map f index xs, drop-map f (suc index) xs) refl

  pub map_slice_set : (index : ℕ) (x : A) → map f (slice_set xs index x) ≡ slice_set (map f xs) index (f x)
  map_slice_set index x = map-set f xs index x

  pub map_take_last : map f (take (length xs - 1) xs) ≡ take (length (map f xs) - 1) (map f xs)
  map_take_last = rw (length-map xs f) (sym (take-map f (length xs - 1) xs))

map_inserted : {A B : Type 0} (f : A → B) (xs : List A) (index : ℕ) (item : Option A) → map f (inserted xs index item) ≡ inserted (map f xs) index (option_map f item)
map_inserted f xs index None = refl
map_inserted f xs index (Some x) = map_insert f xs index x

pub map_moved : {A B : Type 0} (f : A → B) (xs : List A) (old_index new_index : ℕ) → map f (moved xs old_index new_index) ≡ moved (map f xs) old_index new_index
map_moved f xs old_index new_index =
    rw (map_inserted f (remove xs old_index) new_index (slice_get xs old_index), map_remove f xs old_index, ← (slice_get-map f xs old_index)) refl
