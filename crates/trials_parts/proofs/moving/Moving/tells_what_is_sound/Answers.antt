use Rattle.trials_parts.proofs.Seeing.{known_is_sound}
use Rattle.trials_parts.proofs.moving.Moving.tells_what_is_sound.Goals as goal

pub returns : goal.returns
returns c = known_is_sound c.args.self.now _ _ (rw c.self.view_is at c.self.invariant)
