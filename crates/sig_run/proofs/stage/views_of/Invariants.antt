use Rattle.std.proofs.Common.{◌≡◌, length, take, drop, None}
use Rattle.sig_expr.specs.Bounds.{cap_of}
use Rattle.sig_run.specs.Stages.{AreFresh, leaf_sources}
use Rattle.sig_run.proofs.stage.views_of.Given as goal
use Rattle.sig_script.specs.Sizes.{views_size}

abbrev pub invariant-views : goal.invariant-views
invariant-views l =
    (views_size (cap_of l.caps) l.def-index (drop l.def-index l.defs) ≡ None)
    × (l.first ≡ length (leaf_sources (take l.def-index l.defs)))
    × AreFresh l.caps 0 (take l.def-index l.defs) l.views.items
