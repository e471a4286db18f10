-- The text of a report.
use Rattle.std.specs.Prelude.{ℕ, ◌+◌, ℤ, List, [], ◌∷◌, ◌++◌, map, get_or, codes, decimal, Option, None, Some}
use Rattle.std.specs.List.{flat_map}
use Rattle.std.specs.Fmt.{signed_decimal}
use Rattle.sig_diff.specs.Contents.{kind_of}
use Rattle.sig_diff.specs.declared.contents.Content.{Content}
use Rattle.sig_diff.specs.declared.contents.Content.TheVariants as content
use Rattle.sig_diff.specs.declared.contents.Tagged.{Tagged}
use Rattle.sig_diff.specs.declared.differences.VecDiff.{VecDiff}
use Rattle.sig_diff.specs.declared.differences.VecDiff.TheVariants.{Replace, InsertAt, UpdateAt, RemoveAt, Move, Push, Pop, Clear}
use Rattle.sig_diff.specs.declared.map_differences.MapDiff.{MapDiff}
use Rattle.sig_diff.specs.declared.map_differences.MapDiff.TheVariants as changed
use Rattle.sig_expr.specs.declared.shown.Shown.{Shown}
use Rattle.sig_expr.specs.declared.shown.Shown.TheVariants as shown
use Rattle.sig_hist.specs.declared.edits.Edit.{Edit}
use Rattle.sig_hist.specs.declared.edits.Edit.TheVariants.{Set, SetNeq, Add, Put, Delete, Load, Wipe, Leave}
use Rattle.sig_hist.specs.declared.edits.Entry.{Entry}
use Rattle.sig_hist.specs.declared.edits.Reply.{Reply}
use Rattle.sig_hist.specs.declared.edits.Reply.TheVariants.{Fine, Was, Same, Absent, OutOfRange, Long}
use Rattle.sig_report.specs.declared.report.Report.{Report}
use Rattle.sig_report.specs.declared.report.SourceReport.{SourceReport}
use Rattle.sig_report.specs.declared.report.ViewReport.{ViewReport}
use Rattle.sig_script.specs.Grammar.{kind_name, view_kind_name}
use Rattle.sig_script.specs.declared.types.Script.{Script}
use Rattle.sig_script.specs.declared.types.ShareDef.{ShareDef}
use Rattle.sig_script.specs.declared.types.WriterDef.{WriterDef}
use Rattle.sig_rows.specs.declared.rows.Body.{Body}
use Rattle.sig_rows.specs.declared.rows.Body.TheVariants as body
use Rattle.sig_rows.specs.declared.rows.Row.{Row}

-- each text after a separator
abbrev pub each_after : List ℕ → List (List ℕ) → List ℕ
each_after separator texts = flat_map (λ text. separator ++ text) texts

-- texts with a separator between each two
abbrev pub joined : List ℕ → List (List ℕ) → List ℕ
joined separator [] = []
joined separator (text ∷ texts) = text ++ each_after separator texts

-- ---- elements, lists and maps

abbrev pub pair_text : ℤ × ℤ → List ℕ
pair_text pair = codes "(" ++ signed_decimal pair.0 ++ codes ", " ++ signed_decimal pair.1 ++ codes ")"

abbrev pub tagged_text : Tagged → List ℕ
tagged_text element = codes "#" ++ decimal element.tag ++ codes " " ++ signed_decimal element.value

abbrev pub list_text : {T : Type 0} → (T → List ℕ) → List T → List ℕ
list_text element items = codes "[" ++ joined (codes ", ") (map element items) ++ codes "]"

abbrev pub entry_text : ℤ × ℤ → List ℕ
entry_text entry = signed_decimal entry.0 ++ codes ": " ++ signed_decimal entry.1

abbrev pub map_text : List (ℤ × ℤ) → List ℕ
map_text entries = codes "{" ++ joined (codes ", ") (map entry_text entries) ++ codes "}"

abbrev pub content_text : Content → List ℕ
content_text (content.Cell value) = signed_decimal value
content_text (content.Vector items) = list_text signed_decimal items
content_text (content.Map entries) = map_text entries

abbrev pub shown_text : Shown → List ℕ
shown_text (shown.Signal value) = signed_decimal value
shown_text (shown.Vector items) = list_text signed_decimal items
shown_text (shown.Map entries) = map_text entries
shown_text (shown.Pairs pairs) = list_text pair_text pairs
shown_text (shown.Tagged elements) = list_text tagged_text elements

-- ---- differences

abbrev pub diff_text : {T : Type 0} → (T → List ℕ) → VecDiff T → List ℕ
diff_text element (Replace values) = codes "replace " ++ list_text element values
diff_text element (InsertAt index value) = codes "insert " ++ decimal index ++ codes " " ++ element value
diff_text element (UpdateAt index value) = codes "update " ++ decimal index ++ codes " " ++ element value
diff_text element (RemoveAt index) = codes "remove " ++ decimal index
diff_text element (Move old_index new_index) = codes "move " ++ decimal old_index ++ codes " " ++ decimal new_index
diff_text element (Push value) = codes "push " ++ element value
diff_text element Pop = codes "pop"
diff_text element Clear = codes "clear"

abbrev pub map_diff_text : MapDiff ℤ → List ℕ
map_diff_text (changed.Replace entries) = codes "replace " ++ map_text entries
map_diff_text (changed.Insert key value) = codes "insert " ++ signed_decimal key ++ codes " " ++ signed_decimal value
map_diff_text (changed.Update key value) = codes "update " ++ signed_decimal key ++ codes " " ++ signed_decimal value
map_diff_text (changed.Remove key) = codes "remove " ++ signed_decimal key
map_diff_text changed.Clear = codes "clear"

-- ---- sources

abbrev pub edit_text : Edit → List ℕ
edit_text (Edit.Vector diff) = diff_text signed_decimal diff
edit_text (Set number) = codes "set " ++ signed_decimal number
edit_text (SetNeq number) = codes "set_neq " ++ signed_decimal number
edit_text (Add addend) = codes "add " ++ signed_decimal addend
edit_text (Put key value) = codes "put " ++ signed_decimal key ++ codes " " ++ signed_decimal value
edit_text (Delete key) = codes "delete " ++ signed_decimal key
edit_text (Load entries) = codes "load " ++ map_text entries
edit_text Wipe = codes "wipe"
edit_text Leave = codes "leave"

abbrev pub reply_text : Reply → List ℕ
reply_text Fine = codes "ok"
reply_text (Was old) = codes "was " ++ signed_decimal old
reply_text Same = codes "same"
reply_text Absent = codes "absent"
reply_text (OutOfRange len) = codes "out of range " ++ decimal len
reply_text (Long len) = codes "long " ++ decimal len

-- the names of the callers, by their numbers: the writers, and then the shares
abbrev pub caller_names : Script → List (List ℕ)
caller_names script = map (λ (writer : WriterDef). writer.name) script.writers ++ map (λ (share : ShareDef). share.name) script.shares

abbrev pub name_of_caller : List (List ℕ) → ℕ → List ℕ
name_of_caller names caller = get_or names caller []

-- one entry, by its number
abbrev pub entry_line : List (List ℕ) → ℕ → Entry → List ℕ
entry_line names number entry =
    decimal number ++ codes " " ++ name_of_caller names entry.caller ++ codes " " ++ edit_text entry.edit ++ codes " -> " ++ reply_text entry.reply ++ codes "\n"

-- the entries, with their numbers from this one on
abbrev pub entries_text : List (List ℕ) → ℕ → List Entry → List ℕ
entries_text names number [] = []
entries_text names number (entry ∷ entries) = entry_line names number entry ++ entries_text names (number + 1) entries

abbrev pub final_line : List ℕ → List ℕ
final_line last = codes "final " ++ last ++ codes "\n"

abbrev pub source_text : List (List ℕ) → SourceReport → List ℕ
source_text names source =
    codes "source " ++ source.name ++ codes " " ++ kind_name (kind_of source.start) ++ codes " " ++ content_text source.start ++ codes "\n"
    ++ entries_text names 1 source.history ++ final_line (content_text source.last)

-- ---- views

-- what was given: `moved` where it was nothing
abbrev pub given_text : {T : Type 0} → (T → List ℕ) → List T → List ℕ
given_text text [] = codes "moved"
given_text text (diff ∷ diffs) = joined (codes "; ") (map text (diff ∷ diffs))

abbrev pub value_text : Option ℤ → List ℕ
value_text None = codes "moved"
value_text (Some value) = codes "value " ++ signed_decimal value

abbrev pub body_text : Body → List ℕ
body_text (body.Signal value) = value_text value
body_text (body.Vector diffs) = given_text (diff_text signed_decimal) diffs
body_text (body.Map diffs) = given_text map_diff_text diffs
body_text (body.Pairs diffs) = given_text (diff_text pair_text) diffs
body_text (body.Tagged diffs) = given_text (diff_text tagged_text) diffs
body_text body.Ended = codes "ended"

abbrev pub row_line : Row → List ℕ
row_line row = codes "at " ++ joined (codes " ") (map decimal row.at) ++ codes ": " ++ body_text row.body ++ codes "\n"

abbrev pub view_text : ViewReport → List ℕ
view_text view =
    codes "view " ++ view.name ++ codes " " ++ view_kind_name view.kind ++ codes "\n" ++ flat_map row_line view.rows ++ final_line (shown_text view.last)

-- ---- the report

abbrev pub report_text : Script → Report → List ℕ
report_text script report = flat_map (source_text (caller_names script)) report.sources ++ flat_map view_text report.views
