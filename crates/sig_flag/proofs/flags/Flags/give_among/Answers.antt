use Rattle.std.proofs.Common.{◌∙◌, ap}
use Rattle.sig_flag.proofs.Laid.{same_table, has_source}
use Rattle.sig_flag.proofs.Gives.{givings}
use Rattle.sig_flag.specs.Machines.{Machine}
use Rattle.sig_flag.proofs.flags.Flags.give_among.Goals as goal

pub store-requires : goal.store-requires
store-requires g c =
    let is = has_source _ _ _ _ _ c.self.view_is c.self.invariant.0 c.requires.source in
    let leaves = ap (λ (m : Machine). m.layout.leaves) c.self.view_is ∙ c.requires.leaves in (
      same_table _ _ _ c.self.view_is c.requires.seat,
      is.word,
      givings _ _ _ _ leaves _ _ _ _ c.args.count c.args.closed _ c.requires.state.0 is.plan is.slot c.requires.seat.one_account c.requires.state.1.turn c.requires.state.1.slot c.requires.state.2 c.word_of-word.ensures,
    )
