use Rattle.std.proofs.Common.{◌∙◌, ap}
use Rattle.sig_flag.proofs.Laid.{same_table, has_bell}
use Rattle.sig_flag.proofs.Rings.{rings}
use Rattle.sig_flag.specs.Machines.{Machine}
use Rattle.sig_flag.proofs.flags.Flags.ring_one.Goals as goal

pub swap-requires : goal.swap-requires
swap-requires g c =
    let is = has_bell _ _ _ _ _ _ c.self.view_is c.self.invariant.0 c.requires.leaf c.bell_word-bell.ensures in
    (same_table _ _ _ c.self.view_is c.requires.seat, is.2, rings _ _ _ _ _ _ c.requires.seat.one_account _ _ _ c.args.leaf (ap (λ (m : Machine). m.layout.leaves) c.self.view_is ∙ c.requires.leaves) c.requires.number is.1 is.0)
