-- What an entry with a reply of its content changed, told by the edit and the reply alone.
use Rattle.std.specs.Prelude.{ℤ, ◌+ℤ◌, List, filter_map, Bool, true, false, if◌then◌else◌, Option, None, Some, is_some}
use Rattle.std.specs.List.{list_any}
use Rattle.sig_diff.specs.Numbers.{clamped}
use Rattle.sig_diff.specs.declared.contents.Content.{Content}
use Rattle.sig_diff.specs.declared.contents.Content.TheVariants.{Cell, Vector, Map}
use Rattle.sig_diff.specs.declared.differences.VecDiff.{VecDiff}
use Rattle.sig_diff.specs.declared.map_differences.MapDiff.{MapDiff}
use Rattle.sig_diff.specs.declared.map_differences.MapDiff.TheVariants as changed
use Rattle.sig_hist.specs.Entering.{is_far, whole}
use Rattle.sig_hist.specs.declared.edits.Edit.{Edit}
use Rattle.sig_hist.specs.declared.edits.Edit.TheVariants.{Set, SetNeq, Add, Put, Delete, Load, Wipe}
use Rattle.sig_hist.specs.declared.edits.Entry.{Entry}
use Rattle.sig_hist.specs.declared.edits.Reply.{Reply}
use Rattle.sig_hist.specs.declared.edits.Reply.TheVariants.{Fine, Was}
use Rattle.sig_hist.specs.declared.ports.Entering.{Entering}
use Rattle.sig_hist.specs.declared.ports.Entering.TheVariants as entering

abbrev pub took_effect : Reply → Bool
took_effect Fine = true
took_effect (Was x) = true
took_effect _ = false

-- the number that a cell got
abbrev pub replied_sum : ℤ → Reply → Option ℤ
replied_sum k (Was x) = Some (clamped (x +ℤ k))
replied_sum k _ = None

abbrev pub replied_number : Edit → Reply → Option ℤ
replied_number (Set x) reply = Some x
replied_number (SetNeq x) reply = if took_effect reply then Some x else None
replied_number (Add k) reply = replied_sum k reply
replied_number _ reply = None

-- the difference of a vector or of a map
abbrev pub replied_list : Edit → Reply → Option (VecDiff ℤ)
replied_list (Edit.Vector diff) reply = if took_effect reply then Some diff else None
replied_list _ reply = None

abbrev pub replied_put : ℤ → ℤ → Reply → Option (MapDiff ℤ)
replied_put key value Fine = Some (changed.Insert key value)
replied_put key value (Was old) = Some (changed.Update key value)
replied_put key value _ = None

abbrev pub replied_map : Edit → Reply → Option (MapDiff ℤ)
replied_map (Put key value) reply = replied_put key value reply
replied_map (Delete key) reply = if took_effect reply then Some (changed.Remove key) else None
replied_map (Load entries) reply = if took_effect reply then Some (changed.Replace entries) else None
replied_map Wipe reply = Some changed.Clear
replied_map _ reply = None

-- what enters by entries that led to this content
abbrev pub replied_entering : Content → List Entry → Entering
replied_entering (Cell x) passed = if list_any (λ entry. is_some (replied_number entry.edit entry.reply)) passed then entering.Value x else entering.Nothing
replied_entering (Vector xs) passed =
    if is_far passed then whole (Vector xs) else entering.Vector (filter_map (λ entry. replied_list entry.edit entry.reply) passed)
replied_entering (Map entries) passed =
    if is_far passed then whole (Map entries) else entering.Map (filter_map (λ entry. replied_map entry.edit entry.reply) passed)
