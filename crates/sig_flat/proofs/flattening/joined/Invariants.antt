use Rattle.std.proofs.Common.{◌≡◌, ◌++◌, drop}
use Rattle.std.specs.List.{flat_map}
use Rattle.sig_diff.specs.Choosing.{list_for}
use Rattle.sig_flat.proofs.flattening.joined.Given as goal

abbrev pub invariant-elements : goal.invariant-elements
invariant-elements l = l.items.items ++ flat_map (list_for l.parts) (drop l.element-index l.outer) ≡ flat_map (list_for l.parts) l.outer
