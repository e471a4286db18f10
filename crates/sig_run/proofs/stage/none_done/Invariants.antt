use Rattle.std.proofs.Common.{◌≡◌, map, take}
use Rattle.sig_run.proofs.stage.none_done.Given as goal

abbrev pub invariant-writers : goal.invariant-writers
invariant-writers l = l.done.items ≡ map (λ writer. 0) (take l._writer-index l.writers)
