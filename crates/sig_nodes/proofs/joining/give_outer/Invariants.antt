use Rattle.sig_flat.specs.Flattening.{outer_gives, outer_next}
use Rattle.sig_rows.proofs.GoingAlong.{Taking}
use Rattle.sig_rows.specs.Joins.{MayTakeOuter}
use Rattle.sig_nodes.proofs.joining.give_outer.Given as goal

abbrev pub invariant-diffs : goal.invariant-diffs
invariant-diffs l = Taking outer_gives outer_next MayTakeOuter l.op l.initial.op l.diff-index l.diffs l.given l.initial.given
