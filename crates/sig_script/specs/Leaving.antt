-- Scripts whose writers leave by themselves alone.
use Rattle.std.specs.Prelude.{ℕ, Bool, not}
use Rattle.std.specs.List.{list_all}
use Rattle.sig_hist.specs.Histories.{is_leave}
use Rattle.sig_hist.specs.declared.edits.Edit.{Edit}
use Rattle.sig_script.specs.declared.types.Script.{Script}
use Rattle.sig_script.specs.declared.types.WriterDef.{WriterDef}

-- a leave comes after a writer's edits, and none of them is one
abbrev pub leaves_nowhere : WriterDef → Bool
leaves_nowhere writer = list_all (λ (edit : ℕ × Edit). not (is_leave edit.1)) writer.edits

abbrev pub has_no_leaves : Script → Bool
has_no_leaves script = list_all leaves_nowhere script.writers
