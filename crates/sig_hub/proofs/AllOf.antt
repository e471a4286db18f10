-- All passes of a new hub are of it.
use Rattle.std.proofs.Common.{◌≡◌, ℕ, List, [], ◌∷◌, get_or, All, sym, ap, subst}
use Rattle.std.proofs.lemmas.List.Elements.{All-nil, All-cons}
use Rattle.std.proofs.lemmas.Option.{slice_get-get_or}
use Rattle.sig_hub.specs.Hubs.{HubState, AreNew}
use Rattle.sig_hub.specs.Passes.{Pass, IsOf}

pub all_of_hub : (hub : HubState) (first count : ℕ) (passes : List Pass) → AreNew hub first count passes → All (IsOf hub.machine) passes
all_of_hub hub first count passes are = λ k d within. ap (λ (pass : Pass). pass.hub) (are.each k (get_or passes k d) (slice_get-get_or passes k d within))

pub two_of_hub : (hub : HubState) (first second : Pass) (passes : List Pass) → passes ≡ first ∷ second ∷ [] → IsOf hub.machine first → IsOf hub.machine second → All (IsOf hub.machine) passes
two_of_hub hub first second passes are is_first is_second =
    subst (All (IsOf hub.machine)) (sym are) (All-cons (IsOf hub.machine) first (second ∷ []) is_first (All-cons (IsOf hub.machine) second [] is_second (All-nil (IsOf hub.machine))))
