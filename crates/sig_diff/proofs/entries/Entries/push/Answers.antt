use Rattle.sig_diff.proofs.Ranks.{rising_push}
use Rattle.sig_diff.proofs.entries.Entries.push.Goals as goal

pub invariant_of-self-2 : goal.invariant_of-self-2
invariant_of-self-2 g c = rw c.in_ok-push.ensures.items (rising_push c.args.entry c.self.inside.entries.items c.self.invariant (rw c.self.view_is c.requires))
