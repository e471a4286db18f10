use Rattle.std.proofs.Common.{◌≡◌, map, take}
use Rattle.sig_diff.proofs.functions.mapped.Given as goal

abbrev pub invariant-items : goal.invariant-items
invariant-items g l = l.images ≡ map (g.M.Mapper.maps l.mapper) (take l.item-index l.items)
