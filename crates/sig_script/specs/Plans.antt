-- The plan of each source of a script: what it starts with, how long it can get, and who may edit it how often.
use Rattle.std.specs.Prelude.{ℕ, ◌+◌, ◌-◌, ◌==◌, List, [], ◌∷◌, ◌++◌, length, if◌then◌else◌}
use Rattle.sig_diff.specs.declared.contents.Content.TheVariants.{Cell}
use Rattle.sig_hist.specs.declared.plans.Allowance.{Allowance}
use Rattle.sig_hist.specs.declared.plans.SourcePlan.{SourcePlan}
use Rattle.sig_script.specs.Rooms.{all_edits_on, cap_for, edits_on, share_room, source_rooms}
use Rattle.sig_script.specs.declared.types.Script.{Script}
use Rattle.sig_script.specs.declared.types.ShareDef.{ShareDef}
use Rattle.sig_script.specs.declared.types.SourceDef.{SourceDef}
use Rattle.sig_script.specs.declared.types.WriterDef.{WriterDef}

-- the writers with edits on a source, the first of which has this number
abbrev pub allowances : ℕ → ℕ → List WriterDef → List Allowance
allowances source number [] = []
allowances source number (writer ∷ writers) =
    let edits = length (edits_on source writer.edits) in
    if edits == 0 then allowances source (number + 1) writers
    else (record { writer = number; edits = edits } ∷ allowances source (number + 1) writers)

abbrev pub source_plans : List WriterDef → ℕ → List SourceDef → List SourcePlan
source_plans writers number [] = []
source_plans writers number (source ∷ sources) =
    record { start = source.start; cap = cap_for source.start (all_edits_on number writers); allow = allowances number 0 writers }
    ∷ source_plans writers (number + 1) sources

-- a share alone sets its cell: it is the caller after the writers and the shares before it
abbrev pub share_plans : ℕ → List ℕ → List ShareDef → List SourcePlan
share_plans caller rooms [] = []
share_plans caller rooms (share ∷ shares) =
    let room = share_room rooms share.signal in
    record { start = Cell share.start; cap = 1; allow = record { writer = caller; edits = room - 1 } ∷ [] }
    ∷ share_plans (caller + 1) (rooms ++ room ∷ []) shares

abbrev pub plans_of : Script → List SourcePlan
plans_of script =
    source_plans script.writers 0 script.sources
    ++ share_plans (length script.writers) (source_rooms script.writers 0 script.sources) script.shares
