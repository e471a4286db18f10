use Rattle.std.proofs.Common.{◌≡◌, map, take}
use Rattle.sig_hist.specs.Plain.{leaf_of}
use Rattle.sig_hist.proofs.bells.leaves_of.Given as goal

abbrev pub invariant-sources : goal.invariant-sources
invariant-sources l = l.all.items ≡ map leaf_of (take l.source-index l.sources)
