use Rattle.std.proofs.Common.{drop}
use Rattle.sig_expr.specs.Bounds.{cap_of}
use Rattle.sig_script.proofs.Sizing.{NoneTooBig}
use Rattle.sig_script.specs.Rooms.{source_rooms}
use Rattle.sig_script.specs.Sizes.{shares_size}
use Rattle.sig_script.proofs.sizes.shares_size.Given as goal

abbrev pub invariant-shares : goal.invariant-shares
invariant-shares l =
    NoneTooBig (cap_of l.caps) l.rooms l.place (drop l.place l.script.shares)
    (shares_size (cap_of l.caps) (source_rooms l.script.writers 0 l.script.sources) 0 l.script.shares)
