-- What a view of a map gives for a difference leads from the view of the map to the view of the map after it.
use Rattle.std.specs.Prelude.{◌≡◌, ℤ, List, [], ◌∷◌, length, map, Bool, true, false, cond, not, Option, Some, is_some, refl}
use Rattle.std.specs.Ordering.{int_cmp, int_eq, is_eq}
use Rattle.std.specs.FinMap.Entries.{by_order}
use Rattle.std.specs.declared.cmp.Ordering.TheVariants.{Less, Equal, Greater}
use Rattle.std.proofs.Common.{◌∙◌, ap, sym}
use Rattle.std.proofs.lemmas.Bool.{lt-ltb, le-leb, not-true}
use Rattle.std.proofs.lemmas.List.{length-map}
use Rattle.sig_diff.specs.Differences.{IsLawful, applied}
use Rattle.sig_diff.specs.Entries.{IsRising, has_key, keys_of, rank, value_at, values_mapped, values_of, with_value, without}
use Rattle.sig_diff.specs.MapDifferences.{MapIsLawful, map_applied}
use Rattle.sig_diff.specs.Replaying.{map_replayed}
use Rattle.sig_diff.specs.declared.differences.VecDiff.{VecDiff}
use Rattle.sig_diff.specs.declared.differences.VecDiff.TheVariants.{InsertAt, UpdateAt, RemoveAt}
use Rattle.sig_diff.specs.declared.differences.VecDiff.TheVariants as list
use Rattle.sig_diff.specs.declared.map_differences.MapDiff.{MapDiff}
use Rattle.sig_diff.specs.declared.map_differences.MapDiff.TheVariants.{Replace, Insert, Update, Remove, Clear}
use Rattle.sig_diff.proofs.Ranks.{keys_of_new, keys_stay, keys_of_without, rank_up_to_length, rank_within, value_at_with_value, value_at_without, values_of_known, values_of_new, values_of_without, with_value_known, with_value_new, without_known}
use Rattle.sig_maps.specs.Keys.{value_after, value_next}
use Rattle.sig_maps.specs.Tables.{IsListing, entries_gives, keys_gives, list_gives, map_value_gives, values_gives}
use Rattle.sig_ops.specs.Leading.{LeadsTo, MapLeadsTo}
use Rattle.sig_ops.specs.laws.Leading.{leads_if, leads_one, map_leads_one}

-- ---- lists of a map

-- one lawful difference, where the list after it is known
one : {T : Type 0} (xs : List T) (diff : VecDiff T) (ys : List T) → IsLawful diff (length xs) → ys ≡ applied xs diff → LeadsTo xs (diff ∷ []) ys
one xs diff ys lawful is = rw is (leads_one xs diff lawful)

module _ {V : Type 0} (key : ℤ) (entries : List (ℤ × V)) where
  -- a list as long as the map has a place for a new key
  new_within : {T : Type 0} (xs : List T) (x : T) → length xs ≡ length entries → IsLawful (InsertAt (rank key entries) x) (length xs)
  new_within xs x long = rw long (le-leb (rank key entries) (length entries) (rank_up_to_length key entries))

  -- and one for a key of the map
  known_within : {T : Type 0} (xs : List T) → length xs ≡ length entries → IsRising entries → has_key key entries ≡ true → IsLawful {T = T} (RemoveAt (rank key entries)) (length xs)
  known_within xs long rising has = rw long (lt-ltb (rank key entries) (length entries) (rank_within key entries rising has))

module _ {V T : Type 0} {shown : List (ℤ × V) → List T} {item : ℤ → V → T} {by_value : Bool}
    (listing : IsListing shown item by_value) where
  -- what a list of a map gives leads from the list of the map to the list of the map after it
  pub list_leads : (entries : List (ℤ × V)) (diff : MapDiff V) → IsRising entries → MapIsLawful diff entries →
      LeadsTo (shown entries) (list_gives shown item by_value entries diff) (shown (map_applied entries diff))
  list_leads entries (Replace others) rising lawful = leads_one (shown entries) (list.Replace (shown others)) refl
  list_leads entries (Insert key value) rising lawful =
      one (shown entries) (InsertAt (rank key entries) (item key value)) (shown (with_value key value entries))
      (new_within key entries (shown entries) (item key value) (listing.long entries))
      (listing.new key value entries rising (not-true (has_key key entries) lawful))
  list_leads entries (Update key value) rising lawful =
      leads_if (shown entries) by_value (UpdateAt (rank key entries) (item key value)) (shown (with_value key value entries))
      (λ shows. known_within key entries (shown entries) (listing.long entries) rising lawful)
      (listing.known key value entries rising lawful)
  list_leads entries (Remove key) rising lawful =
      one (shown entries) (RemoveAt (rank key entries)) (shown (without key entries))
      (known_within key entries (shown entries) (listing.long entries) rising lawful)
      (listing.gone key entries rising lawful)
  list_leads entries Clear rising lawful = one (shown entries) list.Clear (shown []) refl listing.empty

module _ {V : Type 0} where
  -- the keys, the values and the pairs are such lists
  pub keys_listing : IsListing {V = V} keys_of (λ key value. key) false
  keys_listing = record {
    empty = refl;
    long = λ entries. length-map entries (λ entry. entry.0);
    new = keys_of_new;
    known = keys_stay;
    gone = keys_of_without;
  }

  pub values_listing : IsListing {V = V} values_of (λ key value. value) true
  values_listing = record {
    empty = refl;
    long = λ entries. length-map entries (λ entry. entry.1);
    new = values_of_new;
    known = values_of_known;
    gone = values_of_without;
  }

  pub entries_listing : IsListing {V = V} (λ entries. entries) (λ key value. (key, value)) true
  entries_listing = record {
    empty = refl;
    long = λ entries. refl;
    new = with_value_new;
    known = with_value_known;
    gone = without_known;
  }

  pub keys_lead : (entries : List (ℤ × V)) (diff : MapDiff V) → IsRising entries → MapIsLawful diff entries →
      LeadsTo (keys_of entries) (keys_gives entries diff) (keys_of (map_applied entries diff))
  keys_lead = list_leads keys_listing

  pub values_lead : (entries : List (ℤ × V)) (diff : MapDiff V) → IsRising entries → MapIsLawful diff entries →
      LeadsTo (values_of entries) (values_gives entries diff) (values_of (map_applied entries diff))
  values_lead = list_leads values_listing

  pub entries_lead : (entries : List (ℤ × V)) (diff : MapDiff V) → IsRising entries → MapIsLawful diff entries →
      LeadsTo entries (entries_gives entries diff) (map_applied entries diff)
  entries_lead = list_leads entries_listing

-- ---- a function at the values

some_either : {A B : Type 0} (here : Bool) (x : A) (y : B) (a : Option A) (b : Option B) → is_some a ≡ is_some b → is_some (cond here (Some x) a) ≡ is_some (cond here (Some y) b)
some_either true x y a b alike = refl
some_either false x y a b alike = alike

map_either : {A B : Type 0} (f : A → B) (keeps : Bool) (x : A) (xs : List A) (ys : List B) → map f xs ≡ ys → map f (cond keeps (x ∷ xs) xs) ≡ cond keeps (f x ∷ ys) ys
map_either f true x xs ys is = ap (λ rest. f x ∷ rest) is
map_either f false x xs ys is = is

module _ {V U : Type 0} (f : V → U) (key : ℤ) where
  -- the keys stay
  has_key_mapped : (entries : List (ℤ × V)) → has_key key (values_mapped f entries) ≡ has_key key entries
  has_key_mapped [] = refl
  has_key_mapped (entry ∷ entries) =
      some_either (is_eq (int_cmp key entry.0)) (f entry.1) entry.1 (value_at key (values_mapped f entries)) (value_at key entries) (has_key_mapped entries)

  with_value_mapped : (value : V) (entries : List (ℤ × V)) → values_mapped f (with_value key value entries) ≡ with_value key (f value) (values_mapped f entries)
  with_value_mapped value [] = refl
  with_value_mapped value (entry ∷ entries) =
      elim (int_cmp key entry.0) as (λ order. values_mapped f (by_order order ((key, value) ∷ entry ∷ entries) ((entry.0, value) ∷ entries) (entry ∷ with_value key value entries))
      ≡ by_order order ((key, f value) ∷ values_mapped f (entry ∷ entries)) ((entry.0, f value) ∷ values_mapped f entries) ((entry.0, f entry.1) ∷ with_value key (f value) (values_mapped f entries))) [
        | Less ↦ refl
        | Equal ↦ refl
        | Greater ↦ ap (λ rest. (entry.0, f entry.1) ∷ rest) (with_value_mapped value entries)
      ]

  without_mapped : (entries : List (ℤ × V)) → values_mapped f (without key entries) ≡ without key (values_mapped f entries)
  without_mapped [] = refl
  without_mapped (entry ∷ entries) =
      map_either (λ (entry : ℤ × V). (entry.0, f entry.1)) (not (int_eq key entry.0)) entry (without key entries) (without key (values_mapped f entries)) (without_mapped entries)

module _ {V U : Type 0} (f : V → U) where
  -- one lawful difference, where the map after it is known
  map_one : (map : List (ℤ × U)) (diff : MapDiff U) (after : List (ℤ × U)) → MapIsLawful diff map → map_applied map diff ≡ after → MapLeadsTo map (diff ∷ []) after
  map_one map diff after lawful is = rw (← is) (map_leads_one map diff lawful)

  -- the map with the function at its values
  pub map_value_leads : (entries : List (ℤ × V)) (diff : MapDiff V) → MapIsLawful diff entries → MapLeadsTo (values_mapped f entries) (map_value_gives f diff) (values_mapped f (map_applied entries diff))
  map_value_leads entries (Replace others) lawful = map_one (values_mapped f entries) (Replace (values_mapped f others)) (values_mapped f others) refl refl
  map_value_leads entries (Insert key value) lawful =
      map_one (values_mapped f entries) (Insert key (f value)) (values_mapped f (with_value key value entries)) (rw (has_key_mapped f key entries) lawful) (sym (with_value_mapped f key value entries))
  map_value_leads entries (Update key value) lawful =
      map_one (values_mapped f entries) (Update key (f value)) (values_mapped f (with_value key value entries)) (rw (has_key_mapped f key entries) lawful) (sym (with_value_mapped f key value entries))
  map_value_leads entries (Remove key) lawful =
      map_one (values_mapped f entries) (Remove key) (values_mapped f (without key entries)) (rw (has_key_mapped f key entries) lawful) (sym (without_mapped f key entries))
  map_value_leads entries Clear lawful = map_one (values_mapped f entries) Clear [] refl refl

-- ---- the value at a key

-- after one difference
value_steps : (key : ℤ) (entries : List (ℤ × ℤ)) (diff : MapDiff ℤ) → value_next key (value_at key entries) diff ≡ value_at key (map_applied entries diff)
value_steps key entries (Replace others) = refl
value_steps key entries (Insert other value) = sym (value_at_with_value key other value entries)
value_steps key entries (Update other value) = sym (value_at_with_value key other value entries)
value_steps key entries (Remove other) = sym (value_at_without key other entries)
value_steps key entries Clear = refl

-- and after differences
pub value_follows : (key : ℤ) (old : Option ℤ) (entries : List (ℤ × ℤ)) (diffs : List (MapDiff ℤ)) → old ≡ value_at key entries → value_after key old diffs ≡ value_at key (map_replayed entries diffs)
value_follows key old entries [] is = is
value_follows key old entries (diff ∷ diffs) is =
    value_follows key (value_next key old diff) (map_applied entries diff) diffs (ap (λ before. value_next key before diff) is ∙ value_steps key entries diff)
