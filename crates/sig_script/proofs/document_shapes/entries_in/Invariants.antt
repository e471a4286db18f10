use Rattle.sig_script.proofs.Rising.{RisesSoFar}
use Rattle.sig_script.proofs.document_shapes.entries_in.Given as goal

abbrev pub invariant-values : goal.invariant-values
invariant-values l = RisesSoFar l.values l.last l.place
