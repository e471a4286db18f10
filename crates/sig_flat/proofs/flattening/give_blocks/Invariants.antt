use Rattle.std.proofs.Common.{◌≡◌, ◌++◌, ◌+◌, drop, length}
use Rattle.std.specs.List.{flat_map}
use Rattle.sig_diff.specs.Choosing.{list_for}
use Rattle.sig_flat.specs.Changed.{changed_blocks}
use Rattle.sig_flat.proofs.flattening.give_blocks.Given as goal

abbrev pub invariant-elements : goal.invariant-elements
invariant-elements l =
    let later = drop l.element-index l.outer in
    (l.given ++ changed_blocks l.parts l.child l.old_len l.diff l.place later ≡ l.initial.given ++ changed_blocks l.parts l.child l.old_len l.diff 0 l.outer)
    × (l.place + length (flat_map (list_for l.parts) later) ≡ length (flat_map (list_for l.parts) l.outer))
