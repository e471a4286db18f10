use Rattle.std.proofs.Common.{◌+◌, ◌*◌}
use Rattle.sig_script.specs.Walks.{walk_fault}
use Rattle.sig_script.proofs.Finding.{NoneSoFar}
use Rattle.sig_script.proofs.walks.+walks.Given as goal

abbrev pub decreases-walk : goal.decreases-walk
decreases-walk g l = 5 * l.levels

abbrev pub decreases-walk_list : goal.decreases-walk_list
decreases-walk_list g l = 5 * l.levels + 1

abbrev pub decreases-walk_part : goal.decreases-walk_part
decreases-walk_part g l = 5 * l.levels + 2

abbrev pub decreases-walk_field : goal.decreases-walk_field
decreases-walk_field g l = 5 * l.levels + 3

abbrev pub decreases-walk_fields : goal.decreases-walk_fields
decreases-walk_fields g l = 5 * l.levels + 4

abbrev pub invariant-walk_list-values : goal.invariant-walk_list-values
invariant-walk_list-values g l = NoneSoFar (λ place. walk_fault (g.V.Visitor.visit l.visitor) l.levels l.depth l.class) l.values l.place
