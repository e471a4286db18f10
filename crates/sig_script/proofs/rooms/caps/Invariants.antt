use Rattle.std.proofs.Common.{◌≡◌, ◌++◌, drop, map}
use Rattle.sig_script.specs.Rooms.{caps_of}
use Rattle.sig_script.proofs.rooms.caps.Given as goal

abbrev pub invariant-shares : goal.invariant-shares
invariant-shares l = l.caps ++ map (λ share. 1) (drop l._share-index l.script.shares) ≡ caps_of l.script
