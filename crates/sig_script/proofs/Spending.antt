-- What is left to each writer after one more event.
use Rattle.std.proofs.Common.{◌≡◌, ℕ, ◌+◌, ◌-◌, ◌<◌, ◌==◌, zero, suc, List, [], ◌∷◌, ◌++◌, length, take, drop, get_or, slice_get, slice_set, Bool, true, false, cond, if◌then◌else◌, Option, None, Some, option_map, refl, ap, ◌∙◌, add-one, drop-cons, arith}
use Rattle.std.proofs.lemmas.Bool.Decides.{nat_tests}
use Rattle.std.proofs.lemmas.List.{take_more}
use Rattle.std.proofs.lemmas.List.Sums.{sum_by_push}
use Rattle.std.specs.Option.{option_map_or}
use Rattle.sig_script.specs.Schedules.{event_limit, is_event_of, is_spent, spent_from}
use Rattle.sig_script.specs.Spending.{IsLeft, left_after}
use Rattle.sig_script.specs.declared.types.Event.{Event}
use Rattle.sig_script.specs.declared.types.Event.TheVariants.{Writer, Share, View}
use Rattle.sig_script.specs.declared.types.WriterDef.{WriterDef}

slice_get-set : (left : List ℕ) (number other new old : ℕ) → slice_get left number ≡ Some old
    → slice_get (slice_set left number new) other ≡ (if number == other then Some new else slice_get left other)
slice_get-set [] number other new old here = absurd (cc here)
slice_get-set (x ∷ left) zero zero new old here = refl
slice_get-set (x ∷ left) zero (suc other) new old here = grind (arith, nat_tests)
slice_get-set (x ∷ left) (suc number) zero new old here = grind (arith, nat_tests)
slice_get-set (x ∷ left) (suc number) (suc other) new old here = grind (arith, nat_tests, slice_get-set left number other new old here)

-- what is left to a writer after one more event, that is its own or not
one_less : (left : Option ℕ) (writer : Option WriterDef) (same : Bool) (count : ℕ) → left ≡ option_map (λ writer. event_limit writer - count) writer
    → cond same (option_map (λ left. left - 1) left) left ≡ option_map (λ writer. event_limit writer - (count + cond same 1 0)) writer
one_less left None true count here = rw here refl
one_less left None false count here = rw here refl
one_less left (Some writer) true count here = rw here (ap Some (omega arith))
one_less left (Some writer) false count here = rw here (ap Some (omega arith))

-- the number of one writer after an event of another one, or its own
spent : (left : List ℕ) (number other : ℕ) (found : Option ℕ) → slice_get left number ≡ found
    → slice_get (option_map_or (λ old. slice_set left number (old - 1)) found left) other ≡ cond (number == other) (option_map (λ left. left - 1) (slice_get left other)) (slice_get left other)
spent left number other None here = grind (arith, nat_tests, here)
spent left number other (Some old) here = grind (arith, nat_tests, here, slice_get-set left number other (old - 1) old here)

changed : (event : Event) (left : List ℕ) (other : ℕ) → slice_get (left_after event left) other ≡ cond (is_event_of other event) (option_map (λ left. left - 1) (slice_get left other)) (slice_get left other)
changed (Writer number) left other = spent left number other _ refl
changed (Share number) left other = refl
changed (View number) left other = refl

still_left : (writers : List WriterDef) (before : List Event) (left : List ℕ) (event : Event) → IsLeft writers before left → IsLeft writers (before ++ event ∷ []) (left_after event left)
still_left writers before left event is_left = record {
  at = λ other.
      changed event left other ∙ rw (sum_by_push (λ event. cond (is_event_of other event) 1 0) before event) (one_less _ (slice_get writers other) (is_event_of other event) _ (is_left.at other));
}

-- no event before the place comes after its writer's last
pub record NoneSpent (writers : List WriterDef) (events : List Event) (place : ℕ) (left : List ℕ) : Type 0 where
  pub is_left : IsLeft writers (take place events) left
  pub go_on : spent_from writers (take place events) (drop place events) ≡ spent_from writers [] events

pub goes_on : (writers : List WriterDef) (events : List Event) (place : ℕ) (left : List ℕ) (event : Event) → NoneSpent writers events place left → place < length events → event ≡ get_or events place event
    → is_spent writers (take place events) event ≡ false → NoneSpent writers events (place + 1) (left_after event left)
goes_on writers events place left event so_far within here unspent =
    let more : take (place + 1) events ≡ take place events ++ event ∷ [] = take_more events place event within ∙ rw (← here) in
    let rest : drop place events ≡ event ∷ drop (place + 1) events = drop-cons events place event within ∙ rw (← here, add-one) in
    record { is_left = rw more (still_left writers _ left event so_far.is_left); go_on = rw more (rw (rest, unspent) at so_far.go_on) }
