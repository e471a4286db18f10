-- Caps and rooms of a script's sources: how long they can get, and how many entries their histories can have.
use Rattle.std.specs.Prelude.{ℕ, ◌+◌, ◌==◌, max, List, [], ◌∷◌, ◌++◌, length, map, sum, count_by, get_or, Bool, true, false, if◌then◌else◌}
use Rattle.std.specs.List.{flat_map}
use Rattle.sig_diff.specs.declared.contents.Content.{Content}
use Rattle.sig_diff.specs.declared.differences.VecDiff.TheVariants.{Replace, InsertAt, Push}
use Rattle.sig_expr.specs.Leaves.{sig_leaves}
use Rattle.sig_expr.specs.Shapes.{sig_tree}
use Rattle.sig_expr.specs.declared.expressions.SigExpr.{SigExpr}
use Rattle.sig_hist.specs.Changes.{size_of}
use Rattle.sig_hist.specs.declared.edits.Edit.{Edit}
use Rattle.sig_hist.specs.declared.edits.Edit.TheVariants.{Put, Load}
use Rattle.sig_script.specs.declared.types.Script.{Script}
use Rattle.sig_script.specs.declared.types.ShareDef.{ShareDef}
use Rattle.sig_script.specs.declared.types.SourceDef.{SourceDef}
use Rattle.sig_script.specs.declared.types.WriterDef.{WriterDef}

-- a writer's edits on a source
abbrev pub edits_on : ℕ → List (ℕ × Edit) → List Edit
edits_on source [] = []
edits_on source (edit ∷ edits) = if edit.0 == source then edit.1 ∷ edits_on source edits else edits_on source edits

abbrev pub all_edits_on : ℕ → List WriterDef → List Edit
all_edits_on source writers = flat_map (λ (writer : WriterDef). edits_on source writer.edits) writers

-- ---- caps

-- whether an edit can make its source longer by one
abbrev pub is_growth : Edit → Bool
is_growth (Edit.Vector (InsertAt index value)) = true
is_growth (Edit.Vector (Push value)) = true
is_growth (Put key value) = true
is_growth _ = false

-- how long a source is after an edit that replaces it whole
abbrev pub replaced_length : Edit → ℕ
replaced_length (Edit.Vector (Replace values)) = length values
replaced_length (Load entries) = length entries
replaced_length _ = 0

abbrev pub longest : List Edit → ℕ
longest [] = 0
longest (edit ∷ edits) = max (replaced_length edit) (longest edits)

-- the greater of the start's length and the longest replacement, and all growths; at least 1
abbrev pub cap_for : Content → List Edit → ℕ
cap_for start edits = max 1 (max (size_of start) (longest edits) + count_by is_growth edits)

abbrev pub source_caps : List WriterDef → ℕ → List SourceDef → List ℕ
source_caps writers number [] = []
source_caps writers number (source ∷ sources) = cap_for source.start (all_edits_on number writers) ∷ source_caps writers (number + 1) sources

-- a share's cell has one number
abbrev pub caps_of : Script → List ℕ
caps_of script = source_caps script.writers 0 script.sources ++ map (λ (share : ShareDef). 1) script.shares

-- ---- rooms

-- a writer with edits on a source makes these and a leave
abbrev pub writer_room : ℕ → WriterDef → ℕ
writer_room source writer = if length (edits_on source writer.edits) == 0 then 0 else length (edits_on source writer.edits) + 1

abbrev pub source_rooms : List WriterDef → ℕ → List SourceDef → List ℕ
source_rooms writers number [] = []
source_rooms writers number (source ∷ sources) = sum (map (writer_room number) writers) ∷ source_rooms writers (number + 1) sources

-- a share can set its cell once at its start and once for each entry of its leaves' sources, and leaves
abbrev pub share_room : List ℕ → SigExpr → ℕ
share_room rooms signal = 2 + sum (map (λ source. get_or rooms source 0) (sig_leaves (sig_tree signal)))
