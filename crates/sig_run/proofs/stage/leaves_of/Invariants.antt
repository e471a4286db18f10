use Rattle.std.proofs.Common.{◌≡◌, take}
use Rattle.sig_run.specs.Stages.{leaf_sources}
use Rattle.sig_run.proofs.stage.leaves_of.Given as goal

abbrev pub invariant-views : goal.invariant-views
invariant-views l = l.sources.items ≡ leaf_sources (take l.def-index l.defs)
