-- The keys of a map rise at every moment where they rise at the start.
use Rattle.std.proofs.Common.{◌≡◌, ℕ, ℤ, int_cmp, List, [], ◌∷◌, length, nat_lt, cond, Bool, true, false, Some, None, refl, sym}
use Rattle.std.proofs.lemmas.Bool.{and_parts}
use Rattle.std.specs.FinMap.Entries.{is_sorted}
use Rattle.std.specs.Option.{option_map_or}
use Rattle.sig_diff.proofs.Ranks.{rising_with_value, rising_without}
use Rattle.sig_diff.specs.Contents.{kind_of}
use Rattle.sig_diff.specs.Entries.{IsRising, has_key}
use Rattle.sig_diff.specs.declared.contents.Content.{Content}
use Rattle.sig_diff.specs.declared.contents.Content.TheVariants.{Cell, Vector, Map}
use Rattle.sig_diff.specs.declared.contents.Kind.{Kind}
use Rattle.sig_diff.specs.declared.map_differences.MapDiff.{MapDiff}
use Rattle.sig_hist.proofs.Telling.{kind_edited}
use Rattle.sig_hist.specs.Changes.{Change, IsInOrder, after, can_load, edited, put_change}
use Rattle.sig_hist.specs.Histories.{state}
use Rattle.sig_hist.specs.declared.edits.Edit.{Edit}
use Rattle.sig_hist.specs.declared.edits.Edit.TheVariants.{Put, Delete, Load, Wipe}
use Rattle.sig_hist.specs.declared.edits.Entry.{Entry}

-- what isn't a map is in order
in_order_unless_map : (content : Content) (kind : Kind) → kind_of content ≡ kind → (kind ≡ Kind.Map → IsInOrder content) → IsInOrder content
in_order_unless_map (Cell x) kind is rising = tt
in_order_unless_map (Vector xs) kind is rising = tt
in_order_unless_map (Map entries) kind is rising = rising (sym is)

in_order_if : (entries : List (ℤ × ℤ)) (diff : MapDiff ℤ) (made : Bool) → IsRising entries → (made ≡ true → IsInOrder (after (Map entries) (Change.map diff))) →
    IsInOrder (option_map_or (after (Map entries)) (cond made (Some (Change.map diff)) None) (Map entries))
in_order_if entries diff true rising changed = changed refl
in_order_if entries diff false rising changed = rising

put_in_order : (entries : List (ℤ × ℤ)) (key value : ℤ) (known room : Bool) → IsRising entries → IsInOrder (option_map_or (after (Map entries)) (put_change known room key value) (Map entries))
put_in_order entries key value true room rising = rising_with_value key value entries rising
put_in_order entries key value false true rising = rising_with_value key value entries rising
put_in_order entries key value false false rising = rising

-- an edit keeps a content in order
pub edit_in_order : (content : Content) (cap : ℕ) (edit : Edit) → IsInOrder content → IsInOrder (edited content cap edit)
edit_in_order (Cell x) cap edit in_order = in_order_unless_map (edited (Cell x) cap edit) Kind.Cell (kind_edited (Cell x) cap edit) (λ is. cc)
edit_in_order (Vector xs) cap edit in_order = in_order_unless_map (edited (Vector xs) cap edit) Kind.Vector (kind_edited (Vector xs) cap edit) (λ is. cc)
edit_in_order (Map entries) cap (Put key value) in_order = put_in_order entries key value (has_key key entries) (nat_lt (length entries) cap) in_order
edit_in_order (Map entries) cap (Delete key) in_order = in_order_if entries (MapDiff.Remove key) (has_key key entries) in_order (λ has. rising_without key entries in_order)
edit_in_order (Map entries) cap (Load others) in_order = in_order_if entries (MapDiff.Replace others) (can_load cap others) in_order (λ made. (and_parts (is_sorted int_cmp others) _ made).0)
edit_in_order (Map entries) cap Wipe in_order = refl
edit_in_order (Map entries) cap edit in_order = in_order

-- so does a history
pub state_in_order : (content : Content) (cap : ℕ) (entries : List Entry) → IsInOrder content → IsInOrder (state content cap entries)
state_in_order content cap [] in_order = in_order
state_in_order content cap (entry ∷ entries) in_order = state_in_order (edited content cap entry.edit) cap entries (edit_in_order content cap entry.edit in_order)
