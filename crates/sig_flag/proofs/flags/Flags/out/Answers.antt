use Rattle.std.proofs.Common.{Some}
use Rattle.sig_flag.proofs.Laid.{same_table, has_slot}
use Rattle.sig_flag.proofs.flags.Flags.out.Goals as goal

pub exchange-requires : goal.exchange-requires
exchange-requires g c = (same_table _ _ _ c.self.view_is c.requires.seat, (Some c.requires.state.0, has_slot _ _ _ c.requires.state.1.slot))
