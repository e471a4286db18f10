use Rattle.sig_hist.specs.Bells.{wait_ended}
use Rattle.sig_hist.proofs.Listing.{AreChanging}
use Rattle.sig_hist.proofs.bells.end_waits.Given as goal

abbrev pub invariant-places : goal.invariant-places
invariant-places l = AreChanging wait_ended l.places l.place-index l.leaves l.initial.leaves
