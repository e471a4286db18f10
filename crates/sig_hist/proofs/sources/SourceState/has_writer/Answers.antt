use Rattle.std.proofs.Common.{◌∙◌, List, ap}
use Rattle.sig_hist.specs.Sources.{Source, is_among, writers_of}
use Rattle.sig_hist.specs.declared.plans.Allowance.{Allowance}
use Rattle.sig_hist.proofs.Counts.{are_among}
use Rattle.sig_hist.proofs.sources.SourceState.has_writer.Goals as goal

pub returns : goal.returns
returns c =
    rw c.as_slice.ensures.value at c.has_number.ensures
    ∙ are_among c.args.caller c.self.inside.writers.items
    ∙ ap (λ (allow : List Allowance). is_among c.args.caller (writers_of allow)) c.self.invariant.of_writers
    ∙ ap (λ (source : Source). is_among c.args.caller (writers_of source.plan.allow)) c.self.view_is
