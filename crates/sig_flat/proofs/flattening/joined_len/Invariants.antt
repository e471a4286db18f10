use Rattle.std.proofs.Common.{◌≡◌, ◌+◌, drop, length}
use Rattle.std.specs.List.{flat_map}
use Rattle.sig_diff.specs.Choosing.{list_for}
use Rattle.sig_flat.proofs.flattening.joined_len.Given as goal

abbrev pub invariant-elements : goal.invariant-elements
invariant-elements l = l.len + length (flat_map (list_for l.parts) (drop l.element-index l.outer)) ≡ length (flat_map (list_for l.parts) l.outer)
