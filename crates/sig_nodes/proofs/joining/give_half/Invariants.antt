use Rattle.sig_flat.specs.Joining.{Halves, joined_gives, joined_next}
use Rattle.sig_rows.proofs.GoingAlong.{Taking}
use Rattle.sig_rows.specs.Joins.{MayTakeHalf}
use Rattle.sig_nodes.proofs.joining.give_half.Given as goal

abbrev pub invariant-diffs : goal.invariant-diffs
invariant-diffs l = Taking (λ (op : Halves). joined_gives op l.child) (λ (op : Halves). joined_next op l.child) (MayTakeHalf l.child) l.op l.initial.op l.diff-index l.diffs l.given l.initial.given
