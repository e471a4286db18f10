use Rattle.std.proofs.Common.{◌∙◌}
use Rattle.sig_hist.proofs.Knowing.{all_written}
use Rattle.trials_parts.specs.Moving.{OneSource}
use Rattle.trials_parts.proofs.Seeing.{known_looked}
use Rattle.trials_parts.proofs.moving.MovingPort.look.Goals as goal

pub returns-clause-state : goal.returns-clause-state
returns-clause-state c =
    let port : OneSource = record { source = c.self.inside.source; count = c.self.inside.count; leaves = c.self.inside.leaves.items; met = c.self.inside.met.items } in
    let changed = all_written port.leaves c.check.new.leaves _ (c.check.auto.leaves ∙ c.as_mut_slice.ensures.len) ∙ rw c.as_mut_slice.ensures.value at c.check.ensures in
    known_looked c.args.self.now port c.glance-version.result _ (c.self.view_is ∙ c.glance-version.ensures.counted) changed
