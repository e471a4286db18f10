use denote.Param.Weighed.{at_most}
use Rattle.std.proofs.Common.{arith}
use Rattle.sig_expr.specs.Shapes.{sig_tree, vec_tree}
use Rattle.sig_expr.proofs.Numbered.{signal_leaves_through, list_leaves_through}
use Rattle.sig_expr.proofs.expressions.SigExpr.TheLaws as signals
use Rattle.sig_expr.proofs.expressions.VecExpr.TheLaws as lists
use Rattle.sig_expr.proofs.evaluation.+evaluate.Goals as goal

-- a part of a bank is no deeper than the bank, and its leaves are among the bank's

pub chosen_value-value_of-requires : goal.chosen_value-value_of-requires
chosen_value-value_of-requires t c =
    let depth = rw (← c.index-bank-place.is) at (at_most signals.the_size c.args.bank.now c.class_of-place.result c.index-bank-place.result c.class_of-place.ensures.within) in
    let through = signal_leaves_through sig_tree c.args.bank.now c.class_of-place.result c.index-bank-place.result c.class_of-place.ensures.within c.index-bank-place.is in
    (omega (arith, depth, c.decreases), omega arith)

pub chosen_list-list_of-requires : goal.chosen_list-list_of-requires
chosen_list-list_of-requires t c =
    let depth = rw (← c.index-bank-place.is) at (at_most lists.the_size c.args.bank.now c.class_of-place.result c.index-bank-place.result c.class_of-place.ensures.within) in
    let through = list_leaves_through vec_tree c.args.bank.now c.class_of-place.result c.index-bank-place.result c.class_of-place.ensures.within c.index-bank-place.is in
    (omega (arith, depth, c.decreases), omega arith)
