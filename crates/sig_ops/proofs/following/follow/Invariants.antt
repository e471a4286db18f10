use Rattle.std.proofs.Common.{◌≡◌, ◌++◌, drop}
use Rattle.sig_ops.specs.Following.{after_all, all_given, CanFollow}
use Rattle.sig_ops.proofs.following.follow.Given as goal

abbrev pub invariant-diffs : goal.invariant-diffs
invariant-diffs g l =
    CanFollow g.O.VecOp.next g.O.VecOp.can_step l.op (drop l.diff-index l.diff-items)
    × (after_all g.O.VecOp.next l.op (drop l.diff-index l.diff-items) ≡ after_all g.O.VecOp.next l.fn.op l.diff-items)
    × (l.given ++ all_given g.O.VecOp.next g.O.VecOp.gives l.op (drop l.diff-index l.diff-items) ≡ l.fn.given ++ all_given g.O.VecOp.next g.O.VecOp.gives l.fn.op l.diff-items)
