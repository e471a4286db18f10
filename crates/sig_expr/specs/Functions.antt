-- What the functions and the tests of numbers say.
use Rattle.std.specs.Prelude.{ℤ, pos, ◌+ℤ◌, ◌*ℤ◌, neg_ℤ, int_le, int_lt, Bool, not, if◌then◌else◌}
use Rattle.std.specs.Int.{int_rem_euclid}
use Rattle.std.specs.Ordering.{int_eq}
use Rattle.sig_diff.specs.Numbers.{clamped}
use Rattle.sig_expr.specs.declared.functions.Fun.{Fun}
use Rattle.sig_expr.specs.declared.functions.Fun.TheVariants.{Add, Mul, Neg, Rem}
use Rattle.sig_expr.specs.declared.functions.Test.{Test}
use Rattle.sig_expr.specs.declared.functions.Test.TheVariants.{Ge, Le, Eq, Even}
use Rattle.sig_expr.specs.declared.functions.Pred.{Pred}

-- the function at a number
abbrev pub image : Fun → ℤ → ℤ
image (Add k) x = clamped (x +ℤ k)
image (Mul k) x = clamped (x *ℤ k)
image Neg x = clamped (neg_ℤ x)
image (Rem k) x = if int_lt (pos 0) k then int_rem_euclid x k else x

-- whether the number is as the test says
abbrev pub is_so : Test → ℤ → Bool
is_so (Ge k) x = int_le k x
is_so (Le k) x = int_le x k
is_so (Eq k) x = int_eq x k
is_so Even x = int_eq (int_rem_euclid x (pos 2)) (pos 0)

-- whether the number passes
abbrev pub passes : Pred → ℤ → Bool
passes pred x = if pred.flip then not (is_so pred.test x) else is_so pred.test x
