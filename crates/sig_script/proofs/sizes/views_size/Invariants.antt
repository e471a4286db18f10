use Rattle.std.proofs.Common.{◌≡◌, drop}
use Rattle.sig_expr.specs.Bounds.{cap_of}
use Rattle.sig_script.specs.Sizes.{views_size}
use Rattle.sig_script.proofs.sizes.views_size.Given as goal

abbrev pub invariant-views : goal.invariant-views
invariant-views l = views_size (cap_of l.caps) l.place (drop l.place l.views) ≡ views_size (cap_of l.caps) 0 l.views
