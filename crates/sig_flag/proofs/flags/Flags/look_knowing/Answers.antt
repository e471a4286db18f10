use Rattle.std.proofs.Common.{◌∙◌, ap, sym}
use Rattle.sig_flag.proofs.Laid.{same_table, has_leaf}
use Rattle.sig_flag.proofs.Looks.{last_looks}
use Rattle.sig_flag.specs.Layouts.{leaf_at}
use Rattle.sig_flag.specs.Machines.{Machine}
use Rattle.sig_flag.proofs.flags.Flags.look_knowing.Goals as goal

pub load-requires : goal.load-requires
load-requires g c =
    let is = has_leaf _ _ _ _ c.args.leaf _ c.self.view_is c.self.invariant.0 c.requires.leaf (c.as_slice.ensures ∙ c.self.invariant.1) in (
      same_table _ _ _ c.self.view_is c.requires.seat,
      is.1.word,
      last_looks _ _ _ _ _ _ _ _ (ap (λ (m : Machine). m.layout.leaves) c.self.view_is ∙ c.requires.known.0) g.A.About.number g.A.About.at is.1.plan (ap (λ (k : _). (leaf_at c.self.inside.table.shared.key.leaves.value k).source) (sym c.requires.known.1) ∙ is.0) c.requires.seat.one_account,
    )
