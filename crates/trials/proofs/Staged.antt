-- The writers of a hub's stage.
use Rattle.std.proofs.Common.{◌≡◌, ◌∙◌, List, [], ◌∷◌, length, map, get_or, Option, Some, All, IfSome, sym, ap, subst, arith}
use Rattle.std.proofs.lemmas.List.{get_or-map, length-map}
use Rattle.sig_flag.specs.Machines.{Machine}
use Rattle.sig_hub.specs.Passes.{Pass, IsOf}
use Rattle.trials.specs.declared.stages.Writing.{Writing}
use Rattle.trials.specs.Stages.{IsWriting}

pub all_writing : (machine : Machine) (writers : List Writing) (passes : List Pass) → map (λ (writing : Writing). writing.pass) writers ≡ map Some passes → All (IsOf machine) passes → All (IsWriting machine) writers
all_writing machine writers passes are of = λ k d within.
    let counted : length writers ≡ length passes = sym (length-map writers (λ (writing : Writing). writing.pass)) ∙ ap length are ∙ length-map passes Some in
    let pass_at : (get_or writers k d).pass ≡ get_or (map Some passes) k d.pass = sym (get_or-map (λ (writing : Writing). writing.pass) writers k d d.pass within) ∙ ap (λ (all : List (Option Pass)). get_or all k d.pass) are in
    elim passes as (λ (all : List Pass). length writers ≡ length all → (get_or writers k d).pass ≡ get_or (map Some all) k d.pass → All (IsOf machine) all → IfSome (get_or writers k d).pass (IsOf machine)) [
      | [] ↦ λ none at all. absurd (omega (arith, none, within))
      | (first ∷ rest) ↦ λ many at all. subst (λ (pass : Option Pass). IfSome pass (IsOf machine)) (sym (at ∙ get_or-map Some (first ∷ rest) k first d.pass (omega (arith, many, within)))) (all k first (omega (arith, many, within)))
    ] counted pass_at of
