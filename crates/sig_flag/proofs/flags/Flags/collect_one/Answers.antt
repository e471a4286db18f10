use Rattle.std.proofs.Common.{◌∙◌, ap, sym, subst}
use Rattle.sig_flag.specs.Machines.{Machine, IsTaskOf, account}
use Rattle.sig_flag.proofs.Laid.{same_table, has_ready}
use Rattle.sig_flag.proofs.Rings.{collects}
use Rattle.sig_flag.proofs.flags.Flags.collect_one.Goals as goal

pub swap-requires : goal.swap-requires
swap-requires g c =
    let is = has_ready _ _ _ _ _ _ c.self.view_is c.self.invariant.0 c.requires.polled.within c.ready_word-ready.ensures in
    (same_table _ _ _ c.self.view_is c.requires.seat, is.2, collects _ _ _ _ _ _ c.requires.seat.one_account _ _ _ c.args.task (ap (λ (m : Machine). m.layout.leaves) c.self.view_is ∙ c.requires.leaves) c.requires.number is.1 (subst (λ (m : Machine). IsTaskOf m.layout c.args.task (account c.args.seat.now).number) (sym c.self.view_is) c.requires.polled))
