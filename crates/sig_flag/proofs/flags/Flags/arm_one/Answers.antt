use Rattle.std.proofs.Common.{sym, subst}
use Rattle.sig_flag.specs.Machines.{Machine, IsPolledBy, account}
use Rattle.sig_flag.proofs.Laid.{same_table, has_bell}
use Rattle.sig_flag.proofs.Rings.{arms}
use Rattle.sig_flag.proofs.flags.Flags.arm_one.Goals as goal

pub store-requires : goal.store-requires
store-requires g c =
    let is = has_bell _ _ _ _ _ _ c.self.view_is c.self.invariant.0 c.requires.polled.within c.bell_word-bell.ensures in
    (same_table _ _ _ c.self.view_is c.requires.seat, is.2, arms _ _ _ _ _ _ c.requires.seat.one_account g.A.About.leaves _ _ c.args.leaf c.requires.number is.1 (subst (λ (m : Machine). IsPolledBy m.layout c.args.leaf (account c.args.seat.now).number) (sym c.self.view_is) c.requires.polled))
