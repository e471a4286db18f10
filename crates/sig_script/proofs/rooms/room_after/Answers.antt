use Rattle.std.proofs.Common.{arith}
use Rattle.sig_script.proofs.Growing.{clipped_total}
use Rattle.sig_script.proofs.rooms.room_after.Goals as goal

pub returns : goal.returns
returns c = λ exact same. omega (arith, clipped_total c.args.rooms.now exact c.args.leaves.now same)
