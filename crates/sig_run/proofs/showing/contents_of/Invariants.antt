use Rattle.std.proofs.Common.{◌≡◌, take}
use Rattle.sig_run.specs.Showing.{contents_under}
use Rattle.sig_run.proofs.showing.contents_of.Given as goal

abbrev pub invariant-labels : goal.invariant-labels
invariant-labels l = l.contents ≡ contents_under l.sources (take l.label-index l.label-items)
