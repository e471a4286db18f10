use Rattle.sig_flag.proofs.Laid.{same_table, has_source}
use Rattle.sig_flag.proofs.Takes.{takings}
use Rattle.sig_flag.proofs.flags.Flags.take.Goals as goal

pub fetch_or-word-requires : goal.fetch_or-word-requires
fetch_or-word-requires g c =
    let is = has_source _ _ _ _ _ c.self.view_is c.self.invariant.0 c.requires.source in
    (same_table _ _ _ c.self.view_is c.requires.seat, is.word, takings _ _ _ _ _ _ _ is.plan c.requires.seat.one_account c.requires.no_turn.no_turn)
