use Rattle.sig_hist.specs.Plain.{OneThread}
use Rattle.sig_hist.proofs.Knowing.{known_looked}
use Rattle.sig_hist.proofs.plain.PlainPort.look.Goals as goal

pub returns-clause-state : goal.returns-clause-state
returns-clause-state c =
    let port : OneThread = record { sources = c.self.inside.sources.items; leaves = c.self.inside.bells } in
    rw (← c.source_of-source.ensures.source, ← c.self.view_is) (known_looked port c.source_of-source.result c.version_of-version.result _ c.check.ensures (rw (c.source.ensures, ← c.self.view_is) at c.version_of-version.ensures))
