use Rattle.std.proofs.Common.{rules}
use Rattle.sig_expr.proofs.Clamping.{clamped_product}
use Rattle.sig_expr.proofs.bounds.+bounds.Goals as goal
use Rattle.sig_expr.specs.declared.expressions.VecExpr.{the_lemmas}

pub list_bound-returns-in-Flatten : goal.list_bound-returns-in-Flatten
list_bound-returns-in-Flatten t c = search (rules, the_lemmas, clamped_product)
