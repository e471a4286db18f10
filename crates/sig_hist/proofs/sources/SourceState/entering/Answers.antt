use Rattle.std.proofs.lemmas.List.{take_rest}
use Rattle.sig_hist.specs.Sources.{Source}
use Rattle.sig_hist.proofs.Telling.{entering_is}
use Rattle.sig_hist.proofs.sources.SourceState.entering.Goals as goal

pub returns-in-Some : goal.returns-in-Some
returns-in-Some c =
    let source : Source = record { plan = c.self.inside.plan.value; history = c.self.inside.history.items } in
    let is = entering_is source c.in-Some.position c.self.invariant.of_source.legal in
    rw (c.in-Some.is, ← c.self.view_is, ← is, ← c.self.invariant.of_content) (rw (c.deref.ensures.value, take_rest) at c.entering.ensures)
