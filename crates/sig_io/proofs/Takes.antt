-- A read after other reads.
use Rattle.std.proofs.Common.{ℕ, ◌+◌, ◌≤◌, List, ◌++◌, Option, length, arith, length-append}
use Rattle.std.specs.Io.KnownBytes.{Consumes}
use Rattle.std.proofs.KnownBytes.{Consumes-trans}
use Rattle.sig_io.specs.Transfer.{Takes}

pub Takes-more : (a b c : Option (List ℕ)) (done : List ℕ) (room most : ℕ) → Consumes a b done → length done + room ≤ most
    → Takes b c (λ count. count ≤ room) → Takes a c (λ count. count ≤ most)
Takes-more a b c done room most before fits (piece, took, few) =
    (done ++ piece, Consumes-trans a b c done piece before took, omega (arith, length-append done piece))
