use Rattle.std.proofs.Common.{◌≡◌, ◌++◌}
use Rattle.sig_flat.specs.Flattening.{same_moves}
use Rattle.sig_flat.proofs.flattening.same_moves.Given as goal

abbrev pub invariant-moved : goal.invariant-moved
invariant-moved l = l.given ≡ l.initial.given ++ same_moves l.counter l.old_index l.new_index
