use denote.Param.Send.{sendable}
use Rattle.sig_hub.proofs.Sends.{pass_send, left_send, hub_sync}
use Rattle.live_list.proofs.edit_and_follow.Goals as goal

pub join-requires-send-F : goal.join-requires-send-F
join-requires-send-F g c κs within = let sync = c.type_bounds.sync-R in search (sendable, pass_send, hub_sync) depth 30

pub join-requires-send-A : goal.join-requires-send-A
join-requires-send-A g c κs within = search (sendable, left_send) depth 30
