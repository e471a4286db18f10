use Rattle.sig_nodes.proofs.Picking.{Passing}
use Rattle.sig_nodes.proofs.choosing.picked.Given as goal

abbrev pub invariant-diffs : goal.invariant-diffs
invariant-diffs l = Passing l.op l.initial.op l.place l.diff-index l.diffs l.given l.initial.given
