use Rattle.std.proofs.Common.{◌≡◌, map, Some}
use Rattle.trials.specs.declared.stages.Writing.{Writing}
use Rattle.trials.proofs.stages.ready_to_write.Given as goal

abbrev pub invariant-passes : goal.invariant-passes
invariant-passes l = map (λ (writing : Writing). writing.pass) l.writers.items ≡ map Some l.yielded
