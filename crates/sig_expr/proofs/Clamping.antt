-- Products of clamped numbers.
use Rattle.std.proofs.Common.{◌≡◌, ℕ, zero, suc, ◌*◌, ◌<◌, ◌≤◌, min, arith}
use Rattle.std.proofs.Math.Nat.{le-mul_of_pos_right, mul_comm}

-- where the first number is at least the clamp
product_of_large : (a b most : ℕ) → most ≤ a → min (min a most * min b most) most ≡ min (a * b) most
product_of_large a b zero above = omega arith
product_of_large a zero (suc most) above = let none : min zero (suc most) ≡ zero = omega arith in rw none (omega arith)
product_of_large a (suc b) (suc most) above =
    let all : min a (suc most) ≡ suc most = omega arith in
    let some : 0 < min (suc b) (suc most) = omega arith in
    let clamped = le-mul_of_pos_right (suc most) some in
    let exact : a ≤ a * suc b = le-mul_of_pos_right a (omega arith) in
    rw all (omega arith)

-- the clamped product of two clamped numbers is their product, clamped
pub clamped_product : (a b most : ℕ) → min (min a most * min b most) most ≡ min (a * b) most
clamped_product a b most = grind (arith, product_of_large a b most, product_of_large b a most, mul_comm)
