use Rattle.std.proofs.Common.{◌∙◌, ap}
use Rattle.sig_flag.proofs.Laid.{same_table, has_source}
use Rattle.sig_flag.proofs.Looks.{looks}
use Rattle.sig_flag.specs.Machines.{Machine}
use Rattle.sig_flag.proofs.flags.Flags.look_among.Goals as goal

pub load-requires : goal.load-requires
load-requires g c =
    let is = has_source _ _ _ _ _ c.self.view_is c.self.invariant.0 c.requires.source in
    let leaves = ap (λ (m : Machine). m.layout.leaves) c.self.view_is ∙ c.requires.leaves in
    (same_table _ _ _ c.self.view_is c.requires.seat, is.word, looks _ _ _ _ _ _ _ _ leaves is.plan c.requires.seat.one_account)
