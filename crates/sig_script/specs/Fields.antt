-- How the values of a JSON document are read: numbers, names, lists, and objects with stated fields.
use Rattle.std.specs.Prelude.{ℕ, ◌+◌, ◌^◌, ◌==◌, ◌&&◌, ◌||◌, ℤ, List, [], ◌∷◌, length, Bool, false, nat_lt, nat_le, if◌then◌else◌, Option, None, Some, option_map, option_and_then, unwrap_or}
use Rattle.std.specs.List.{list_all}
use Rattle.serde_json.specs.Data.{Data, null, Items, no_items, item, Members, no_members, member}
use Rattle.serde_json.specs.Find.{get_member, as_number, as_i64, as_u64, as_str, as_array, as_object}

-- a number is one that fits an i64
abbrev pub number_of : Data → Option ℤ
number_of value = option_and_then as_i64 (as_number value)

-- an index is a number from 0 to 2^32 - 1
abbrev pub small : ℕ → Option ℕ
small n = if nat_lt n (2 ^ 32) then Some n else None

abbrev pub index_of : Data → Option ℕ
index_of value = option_and_then small (option_and_then as_u64 (as_number value))

-- ---- names

abbrev pub is_lower : ℕ → Bool
is_lower byte = nat_le 97 byte && nat_le byte 122

abbrev pub is_name_byte : ℕ → Bool
is_name_byte byte = is_lower byte || (nat_le 48 byte && nat_le byte 57) || (byte == 95)

-- a name is 1 to 16 bytes: a lower-case letter, then lower-case letters, digits and `_`
abbrev pub is_name : List ℕ → Bool
is_name [] = false
is_name (first ∷ rest) = is_lower first && list_all is_name_byte rest && nat_lt (length rest) 16

abbrev pub checked_name : List ℕ → Option (List ℕ)
checked_name text = if is_name text then Some text else None

abbrev pub name_of : Data → Option (List ℕ)
name_of value = option_and_then checked_name (as_str value)

-- the bytes of a text, and none of another value
abbrev pub text_in : Data → List ℕ
text_in value = unwrap_or (as_str value) []

-- ---- lists and objects

-- the values of a list, and none of another value
abbrev pub items_in : Data → Items
items_in value = unwrap_or (as_array value) no_items

-- the fields of an object, and none of another value
abbrev pub members_in : Data → Members
members_in value = unwrap_or (as_object value) no_members

-- the value of a field, and null where there is none
abbrev pub value_at : List ℕ → Members → Data
value_at name members = unwrap_or (get_member name members) null

abbrev pub list_at : List ℕ → Members → Items
list_at name members = items_in (value_at name members)

-- each value of a list, as f reads it
abbrev pub each_of : {T : Type 0} → (Data → Option T) → Items → Option (List T)
each_of f no_items = Some []
each_of f (item value values) = option_and_then (λ x. option_map (λ xs. x ∷ xs) (each_of f values)) (f value)

abbrev pub item_count : Items → ℕ
item_count no_items = 0
item_count (item value values) = item_count values + 1

abbrev pub field_count : Members → ℕ
field_count no_members = 0
field_count (member name value fields) = field_count fields + 1

-- the value of the one field of an object that has no other
abbrev pub only_field_in : List ℕ → Members → Option Data
only_field_in name fields = if field_count fields == 1 then get_member name fields else None

abbrev pub only_field : List ℕ → Data → Option Data
only_field name value = option_and_then (only_field_in name) (as_object value)
