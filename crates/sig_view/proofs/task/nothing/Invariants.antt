use Rattle.std.proofs.Common.{◌≡◌, replicate, None}
use Rattle.sig_view.proofs.task.nothing.Given as goal

abbrev pub invariant-places : goal.invariant-places
invariant-places l = l.contents.items ≡ replicate l._place None
