use Rattle.sig_hist.proofs.Listing.{among_within}
use Rattle.sig_hist.proofs.bells.list.Goals as goal

pub returns-else-len-count-clause-others : goal.returns-else-len-count-clause-others
returns-else-len-count-clause-others c = λ other among. c.list_all.ensures.all other (among_within c.args.count other _ c.requires.places.within among)
