use Rattle.sig_flat.specs.Flattening.{Blocks, bank_gives, bank_next}
use Rattle.sig_rows.proofs.GoingAlong.{Taking}
use Rattle.sig_rows.specs.Joins.{MayTakePart}
use Rattle.sig_nodes.proofs.joining.give_part.Given as goal

abbrev pub invariant-diffs : goal.invariant-diffs
invariant-diffs l = Taking (λ (op : Blocks). bank_gives op l.place) (λ (op : Blocks). bank_next op l.place) (MayTakePart l.place) l.op l.initial.op l.diff-index l.diffs l.given l.initial.given
