-- How many events are left to each writer.
use Rattle.std.specs.Prelude.{◌≡◌, ℕ, ◌-◌, List, count_by, slice_get, slice_set, option_map}
use Rattle.std.specs.Option.{option_map_or}
use Rattle.sig_script.specs.Schedules.{event_limit, is_event_of}
use Rattle.sig_script.specs.declared.types.Event.{Event}
use Rattle.sig_script.specs.declared.types.Event.TheVariants.{Writer}
use Rattle.sig_script.specs.declared.types.WriterDef.{WriterDef}

-- these numbers are left after some events
pub record IsLeft (writers : List WriterDef) (before : List Event) (left : List ℕ) : Type 0 where
  pub at : (number : ℕ) → slice_get left number ≡ option_map (λ writer. event_limit writer - count_by (is_event_of number) before) (slice_get writers number)

-- one less is left to the event's writer
abbrev pub left_after : Event → List ℕ → List ℕ
left_after (Writer number) left = option_map_or (λ old. slice_set left number (old - 1)) (slice_get left number) left
left_after _ left = left
