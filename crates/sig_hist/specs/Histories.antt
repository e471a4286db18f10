-- Histories of a source: the content after some entries, legal and closed histories, and a writer's own entries.
use Rattle.std.specs.Prelude.{◌≡◌, ℕ, ◌==◌, ◌&&◌, List, [], ◌∷◌, ◌++◌, length, take, filter, slice_get, Bool, true, false, not, Some}
use Rattle.std.specs.Option.{option_to_list}
use Rattle.std.specs.List.{count_by, list_all}
use Rattle.sig_diff.specs.declared.contents.Content.{Content}
use Rattle.sig_hist.specs.Changes.{Change, change_of, edited, reply_to}
use Rattle.sig_hist.specs.declared.edits.Edit.{Edit}
use Rattle.sig_hist.specs.declared.edits.Edit.TheVariants.{Leave}
use Rattle.sig_hist.specs.declared.edits.Entry.{Entry}

-- the content after some entries
abbrev pub state : Content → ℕ → List Entry → Content
state content cap [] = content
state content cap (entry ∷ entries) = state (edited content cap entry.edit) cap entries

-- each reply is the one that the content before it gives
abbrev pub IsLegal : Content → ℕ → List Entry → Type 0
IsLegal content cap [] = Unit {0}
IsLegal content cap (entry ∷ entries) = (entry.reply ≡ reply_to content cap entry.edit) × IsLegal (edited content cap entry.edit) cap entries

-- what some entries change, from a content on
abbrev pub changes_by : Content → ℕ → List Entry → List Change
changes_by content cap [] = []
changes_by content cap (entry ∷ entries) = option_to_list (change_of content cap entry.edit) ++ changes_by (edited content cap entry.edit) cap entries

-- the second history goes on from the first
abbrev pub IsFront : List Entry → List Entry → Type 0
IsFront front history = take (length front) history ≡ front

-- ---- whose entries they are

abbrev pub own_entries : ℕ → List Entry → List Entry
own_entries writer entries = filter (λ entry. entry.caller == writer) entries

abbrev pub is_leave : Edit → Bool
is_leave Leave = true
is_leave _ = false

abbrev pub ends_with_leave : List Entry → Bool
ends_with_leave [] = false
ends_with_leave (entry ∷ []) = is_leave entry.edit
ends_with_leave (entry ∷ another ∷ entries) = ends_with_leave (another ∷ entries)

-- the writer's last entry is its leave
abbrev pub has_left : ℕ → List Entry → Bool
has_left writer entries = ends_with_leave (own_entries writer entries)

-- every writer has left
abbrev pub is_closed : List ℕ → List Entry → Bool
is_closed writers entries = list_all (λ writer. has_left writer entries) writers

-- how many edits a caller has made: its entries but its leave
abbrev pub edits_made : ℕ → List Entry → ℕ
edits_made caller entries = count_by (λ entry. entry.caller == caller && not (is_leave entry.edit)) entries

-- no entry of a caller stands after its leave
abbrev pub LeavesComeLast : List Entry → Type 0
LeavesComeLast history = (place : ℕ) (entry : Entry) → slice_get history place ≡ Some entry → has_left entry.caller (take place history) ≡ false
