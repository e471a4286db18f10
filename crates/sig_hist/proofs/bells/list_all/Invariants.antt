use Rattle.std.proofs.Common.{◌≤◌, vec_capacity}
use Rattle.sig_hist.proofs.Listing.{AllListed}
use Rattle.sig_hist.proofs.bells.list_all.Given as goal

abbrev pub invariant-all : goal.invariant-all
invariant-all l = AllListed l.count l.leaf l.places.items × (l.count ≤ vec_capacity l.places)
