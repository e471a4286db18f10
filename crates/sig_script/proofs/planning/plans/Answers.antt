use Rattle.std.proofs.Common.{◌++◌, [], ◌∷◌, arith}
use Rattle.std.proofs.lemmas.Grind.{common_steps}
use Rattle.sig_script.specs.Rooms.{share_room}
use Rattle.sig_script.proofs.planning.plans.Goals as goal

pub shares-preserved : goal.shares-preserved
shares-preserved c =
    let before = c.shares.invariant.0 in
    let exact = share_room before.exact c.share-item.result.signal in
    let room = c.in_ok-room.ensures before.exact (rw c.as_slice-in-shares.ensures before.are_clipped) in
    let allow = c.in_ok-share_plan.ensures.allow exact room in
    (record { exact = before.exact ++ exact ∷ []; are_clipped = grind (arith, common_steps); go_on = grind (arith, common_steps) }, grind (arith, common_steps))
