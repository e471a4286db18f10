use Rattle.std.proofs.Common.{◌≡◌, length}
use Rattle.from_scratch.proofs.contents_at.Given as goal

abbrev pub invariant-leaves : goal.invariant-leaves
invariant-leaves l = length l.contents.items ≡ l.leaf
