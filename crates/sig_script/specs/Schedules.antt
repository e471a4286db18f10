-- The first event of a schedule that a writer has nothing left for.
use Rattle.std.specs.Prelude.{ℕ, ◌+◌, ◌==◌, List, [], ◌∷◌, ◌++◌, length, count_by, slice_get, Bool, false, not, nat_lt, if◌then◌else◌, Option, None, Some}
use Rattle.std.specs.Option.{option_map_or}
use Rattle.sig_script.specs.declared.types.Event.{Event}
use Rattle.sig_script.specs.declared.types.Event.TheVariants.{Writer}
use Rattle.sig_script.specs.declared.types.Script.{Script}
use Rattle.sig_script.specs.declared.types.WriterDef.{WriterDef}

-- a writer's events are its edits and a leave; one without edits has none
abbrev pub event_limit : WriterDef → ℕ
event_limit writer = if length writer.edits == 0 then 0 else length writer.edits + 1

abbrev pub is_event_of : ℕ → Event → Bool
is_event_of writer (Writer number) = number == writer
is_event_of writer _ = false

-- whether an event comes after so many of its writer's that nothing is left for it
abbrev pub is_spent : List WriterDef → List Event → Event → Bool
is_spent writers before (Writer number) = option_map_or (λ writer. not (nat_lt (count_by (is_event_of number) before) (event_limit writer))) (slice_get writers number) false
is_spent writers before _ = false

-- the place of the first such event, after some others
abbrev pub spent_from : List WriterDef → List Event → List Event → Option ℕ
spent_from writers before [] = None
spent_from writers before (event ∷ events) =
    if is_spent writers before event then Some (length before) else spent_from writers (before ++ event ∷ []) events

abbrev pub schedule_fault : Script → Option ℕ
schedule_fault script = spent_from script.writers [] script.schedule
