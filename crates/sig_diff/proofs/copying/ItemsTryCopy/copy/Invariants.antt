use Rattle.std.proofs.Common.{◌≡◌, take}
use Rattle.sig_diff.proofs.copying.ItemsTryCopy.copy.Given as goal

abbrev pub invariant-items : goal.invariant-items
invariant-items g l = l.copies ≡ take l.item-index l.item-items
