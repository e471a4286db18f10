use Rattle.sig_hist.specs.Plain.{leaf_checked}
use Rattle.sig_hist.proofs.Listing.{AreChanging}
use Rattle.sig_hist.proofs.bells.check.Given as goal

abbrev pub invariant-places : goal.invariant-places
invariant-places l = AreChanging (leaf_checked l.source l.version) l.places l.place-index l.leaves l.initial.leaves
