-- Places of a difference that a list takes.
use Rattle.std.proofs.Common.{ℕ, ◌≤◌, arith}
use Rattle.std.proofs.lemmas.Bool.Decides.{nat_tests}
use Rattle.sig_diff.specs.declared.differences.VecDiff.{VecDiff}
use Rattle.sig_diff.specs.declared.differences.VecDiff.TheVariants.{Replace, InsertAt, UpdateAt, RemoveAt, Move, Push, Pop, Clear}
use Rattle.sig_diff.specs.Differences.{IsLawful}
use Rattle.sig_flat.specs.Runs.{last_place}

-- each is within the list, or at its end
pub last_place_within : {T : Type 0} (diff : VecDiff T) (long : ℕ) → IsLawful diff long → last_place diff ≤ long
last_place_within (Replace values) long lawful = omega arith
last_place_within (InsertAt index value) long lawful = grind (arith, nat_tests)
last_place_within (UpdateAt index value) long lawful = grind (arith, nat_tests)
last_place_within (RemoveAt index) long lawful = grind (arith, nat_tests)
last_place_within (Move old_index new_index) long lawful = grind (arith, nat_tests)
last_place_within (Push value) long lawful = omega arith
last_place_within Pop long lawful = omega arith
last_place_within Clear long lawful = omega arith
