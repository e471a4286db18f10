use Rattle.sig_script.proofs.Finding.{NoneSoFar}
use Rattle.sig_script.proofs.paths.first_in.Given as goal

abbrev pub invariant-values : goal.invariant-values
invariant-values g l = NoneSoFar (g.F.Finder.finds l.finder) l.values l.place
