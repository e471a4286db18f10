use Rattle.std.proofs.Common.{◌≡◌, ◌+◌, ◌^◌, ◌<◌, drop, get_or, map, sum}
use Rattle.sig_script.specs.Growths.{clipped}
use Rattle.sig_script.proofs.rooms.leaf_rooms.Given as goal

abbrev pub invariant-leaves : goal.invariant-leaves
invariant-leaves l =
    (clipped (l.total + sum (map (λ source. get_or l.rooms source 0) (drop l.leaf-index l.leaves))) ≡ clipped (sum (map (λ source. get_or l.rooms source 0) l.leaves)))
    × (l.total < 2 ^ 64)
