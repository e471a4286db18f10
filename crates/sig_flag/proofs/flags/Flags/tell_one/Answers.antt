use Rattle.sig_flag.proofs.Laid.{same_table, has_ready}
use Rattle.sig_flag.proofs.Rings.{tells}
use Rattle.sig_flag.proofs.flags.Flags.tell_one.Goals as goal

pub swap-requires : goal.swap-requires
swap-requires g c =
    let is = has_ready _ _ _ _ _ _ c.self.view_is c.self.invariant.0 c.requires.task c.ready_word-ready.ensures in
    (same_table _ _ _ c.self.view_is c.requires.seat, is.2, tells _ _ _ _ _ _ c.requires.seat.one_account g.A.About.leaves _ _ c.args.task c.requires.number is.1 is.0)
