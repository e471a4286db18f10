use Rattle.sig_nodes.proofs.Tagging.{Tagging}
use Rattle.sig_nodes.proofs.views.tagged.Given as goal

abbrev pub invariant-diffs : goal.invariant-diffs
invariant-diffs l = Tagging l.op l.initial.op l.diff-index l.diffs l.given
