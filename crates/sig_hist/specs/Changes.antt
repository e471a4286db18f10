-- What one edit changes of a source's content, and what it answers.
use Rattle.std.specs.Prelude.{ℕ, ◌+◌, ◌-◌, ◌&&◌, ℤ, pos, ◌+ℤ◌, List, length, slice_index_or, Bool, true, false, not, nat_lt, if◌then◌else◌, Option, None, Some}
use Rattle.std.specs.Option.{option_map_or}
use Rattle.std.specs.FinMap.{is_sorted}
use Rattle.std.specs.Ordering.{int_cmp, int_eq}
use Rattle.sig_diff.specs.Differences.{is_lawful, applied}
use Rattle.sig_diff.specs.Entries.{IsRising, value_at, has_key}
use Rattle.sig_diff.specs.MapDifferences.{map_applied}
use Rattle.sig_diff.specs.Numbers.{clamped}
use Rattle.sig_diff.specs.declared.contents.Content.{Content}
use Rattle.sig_diff.specs.declared.contents.Content.TheVariants.{Cell, Vector, Map}
use Rattle.sig_diff.specs.declared.differences.VecDiff.{VecDiff}
use Rattle.sig_diff.specs.declared.differences.VecDiff.TheVariants.{Replace, InsertAt, UpdateAt, RemoveAt, Push, Pop}
use Rattle.sig_diff.specs.declared.map_differences.MapDiff.{MapDiff}
use Rattle.sig_diff.specs.declared.map_differences.MapDiff.TheVariants as changed
use Rattle.sig_hist.specs.declared.edits.Edit.{Edit}
use Rattle.sig_hist.specs.declared.edits.Edit.TheVariants.{Set, SetNeq, Add, Put, Delete, Load, Wipe}
use Rattle.sig_hist.specs.declared.edits.Reply.{Reply}
use Rattle.sig_hist.specs.declared.edits.Reply.TheVariants.{Fine, Was, Same, Absent, OutOfRange, Long}

-- what an edit changes: a cell's number, a vector or a map
pub data Change : Type 0 where
  number : ℤ → Change
  list : VecDiff ℤ → Change
  map : MapDiff ℤ → Change

-- the content after a change of its kind
abbrev pub after : Content → Change → Content
after (Cell x) (number y) = Cell y
after (Vector xs) (list diff) = Vector (applied xs diff)
after (Map entries) (map diff) = Map (map_applied entries diff)
after content change = content

-- ---- vectors

-- whether a difference would make a vector of n elements longer than its cap
abbrev pub is_long : VecDiff ℤ → ℕ → ℕ → Bool
is_long (Replace values) n cap = nat_lt cap (length values)
is_long (InsertAt index value) n cap = nat_lt cap (n + 1)
is_long (Push value) n cap = nat_lt cap (n + 1)
is_long _ n cap = false

-- the old element of a difference that takes effect
abbrev pub answer_to : List ℤ → VecDiff ℤ → Reply
answer_to xs (UpdateAt index value) = Was (slice_index_or xs index (pos 0))
answer_to xs (RemoveAt index) = Was (slice_index_or xs index (pos 0))
answer_to xs Pop = Was (slice_index_or xs (length xs - 1) (pos 0))
answer_to xs _ = Fine

abbrev pub vector_change : List ℤ → ℕ → VecDiff ℤ → Option Change
vector_change xs cap diff = if is_lawful diff (length xs) && not (is_long diff (length xs) cap) then Some (list diff) else None

-- out of range is looked at before too long
abbrev pub vector_reply : List ℤ → ℕ → VecDiff ℤ → Reply
vector_reply xs cap diff =
    if is_lawful diff (length xs)
    then (if is_long diff (length xs) cap then Long (length xs) else answer_to xs diff)
    else OutOfRange (length xs)

-- ---- maps

-- a key gets a value: by whether the map has the key, and whether it has room
abbrev pub put_change : Bool → Bool → ℤ → ℤ → Option Change
put_change true room key value = Some (map (changed.Update key value))
put_change false true key value = Some (map (changed.Insert key value))
put_change false false key value = None

abbrev pub put_reply : Option ℤ → Bool → ℕ → Reply
put_reply (Some old) room n = Was old
put_reply None true n = Fine
put_reply None false n = Long n

-- whether entries can be loaded: their keys rise, as those of every map do, and they are no more than the cap
abbrev pub can_load : ℕ → List (ℤ × ℤ) → Bool
can_load cap others = is_sorted int_cmp others && not (nat_lt cap (length others))

-- ---- all kinds

-- what the edit changes, or nothing where it has no effect or isn't of the content's kind
abbrev pub change_of : Content → ℕ → Edit → Option Change
change_of (Cell x) cap (Set y) = Some (number y)
change_of (Cell x) cap (SetNeq y) = if int_eq x y then None else Some (number y)
change_of (Cell x) cap (Add k) = Some (number (clamped (x +ℤ k)))
change_of (Vector xs) cap (Edit.Vector diff) = vector_change xs cap diff
change_of (Map entries) cap (Put key value) = put_change (has_key key entries) (nat_lt (length entries) cap) key value
change_of (Map entries) cap (Delete key) = if has_key key entries then Some (map (changed.Remove key)) else None
change_of (Map entries) cap (Load others) = if can_load cap others then Some (map (changed.Replace others)) else None
change_of (Map entries) cap Wipe = Some (map changed.Clear)
change_of content cap edit = None

-- the content after the edit
abbrev pub edited : Content → ℕ → Edit → Content
edited content cap edit = option_map_or (after content) (change_of content cap edit) content

-- the reply to the edit
abbrev pub reply_to : Content → ℕ → Edit → Reply
reply_to (Cell x) cap (Set y) = Was x
reply_to (Cell x) cap (SetNeq y) = if int_eq x y then Same else Was x
reply_to (Cell x) cap (Add k) = Was x
reply_to (Vector xs) cap (Edit.Vector diff) = vector_reply xs cap diff
reply_to (Map entries) cap (Put key value) = put_reply (value_at key entries) (nat_lt (length entries) cap) (length entries)
reply_to (Map entries) cap (Delete key) = option_map_or Was (value_at key entries) Absent
reply_to (Map entries) cap (Load others) = if can_load cap others then Fine else Long (length entries)
reply_to content cap edit = Fine

-- a map's keys rise
abbrev pub IsInOrder : Content → Type 0
IsInOrder (Map entries) = IsRising entries
IsInOrder content = Unit {0}

-- how many elements a content has
abbrev pub size_of : Content → ℕ
size_of (Cell x) = 1
size_of (Vector xs) = length xs
size_of (Map entries) = length entries
