use Rattle.std.proofs.Common.{◌≡◌, length}
use Rattle.trials_parts.specs.Moving.{HasCaughtUp}
use Rattle.trials_parts.proofs.moving.catch_up.Given as goal

abbrev pub invariant-pushes : goal.invariant-pushes
invariant-pushes l = record {
  caught_up : HasCaughtUp l.fn.source l.source l.writer l.count;
  place : length l.source.history ≡ l.place;
}
