-- The state of a source and the passes may go to another thread, and threads may share sources and a hub.
use denote.Param.Send as Send
use denote.RattleType.{RattleType}
use denote.Struct.Declared as Declared
use denote.Builtin as Builtin
use Rattle.atomic_table.proofs.shared.Seat.TheSendSync as seat
use Rattle.atomic_table.specs.contracts.shared.Seat as Seat
use Rattle.sig_flag.proofs.flags.Flags.TheSendSync as flags
use Rattle.sig_flag.specs.contracts.accounts.Account as Account
use Rattle.sig_flag.specs.contracts.flags.Flags as Flags
use Rattle.sig_hub.specs.contracts.hub.Hub as Hub
use Rattle.sig_hub.specs.contracts.hub.Hub.TheInside as HubInside
use Rattle.sig_hub.specs.contracts.passes.Left as Left
use Rattle.sig_hub.specs.contracts.passes.Left.TheInside as LeftInside
use Rattle.sig_hub.specs.contracts.passes.PollPass as PollPass
use Rattle.sig_hub.specs.contracts.passes.PollPass.TheInside as PollInside
use Rattle.sig_hub.specs.contracts.passes.WriterPass as WriterPass
use Rattle.sig_hub.specs.contracts.passes.WriterPass.TheInside as WriterInside
use Rattle.sig_hub.specs.contracts.stations.Station as Station
use Rattle.sig_hub.specs.contracts.stations.Station.TheInside as StationInside
use Rattle.std.proofs.option.Option.TheSendSync as option
use Rattle.std.specs.contracts.option.Option as Option
use Rattle.std.specs.contracts.vec.Vec as Vec
use Rattle.sig_diff.proofs.contents.Content.TheSendSync as content
use Rattle.sig_hist.proofs.edits.Entry.TheSendSync as entry
use Rattle.sig_hist.proofs.writers.Writer.TheSendSync as writer
use Rattle.sig_hist.specs.contracts.edits.Entry as Entry
use Rattle.sig_hist.specs.contracts.sources.SourceStateKept.TheImpl as KeptImpl
use Rattle.sig_hist.specs.contracts.plans.SourcePlan as SourcePlan
use Rattle.sig_hist.specs.contracts.sources.SourceState as SourceState
use Rattle.sig_hist.specs.contracts.sources.SourceState.TheInside as Inside
use Rattle.sig_hist.specs.contracts.writers.Writer as Writer
use Rattle.std.below.std_heap.proofs.GlobalAllocator.TheSendSync as allocator
use Rattle.std.proofs.alloc.Global.TheSendSync as global
use Rattle.std.proofs.vec.Vec.TheSendSync as vec
use Rattle.std.specs.contracts.alloc.Global as Global
use Rattle.std.specs.contracts.impls.GlobalAllocator.TheImpl as TheImpl
use Rattle.std.specs.contracts.snapshot.Snapshot as Snapshot

-- a snapshot owns nothing
pub snapshot_send : (Y : RattleType) → Send.IsSend (Snapshot.the_row Y)
snapshot_send Y = record { owned = λ d vs. ((λ vss. (tt, ((λ uss. (tt, tt)), tt))), tt); leaving = λ k f vs. tt }

pub snapshot_sync : (Y : RattleType) → Send.IsSync (Snapshot.the_row Y)
snapshot_sync Y = record { shared = λ d b o κ q. Send.part_keyless (Snapshot.the_row Y) (snapshot_send Y) q d b o }

pub state_send : Send.IsSend SourceState.the_row
state_send = Send.view_send Inside.the_row _ _ _ _ (Send.recorded_send Inside.the_field.row _ _ Inside.the_type.to_one (Send.struct_send (Declared.shape Inside.the_type) (
  snapshot_send SourcePlan.the_row,
  (
    Send.plain_send _ _ _ _ _,
    (
      content.the_field_send,
      (
        vec.the_send Writer.the_row Global.the_row TheImpl.ghosts writer.the_send global.the_send allocator.the_frees,
        (vec.the_send Entry.the_row Global.the_row TheImpl.ghosts entry.the_send global.the_send allocator.the_frees, tt),
      ),
    ),
  ),
)))

pub state_sync : Send.IsSync SourceState.the_row
state_sync = Send.view_sync Inside.the_row _ _ _ _ (Send.recorded_sync Inside.the_field.row _ _ Inside.the_type.to_one (Send.struct_sync (Declared.shape Inside.the_type) (
  snapshot_sync SourcePlan.the_row,
  (
    Send.plain_sync _ _ _ _ _,
    (
      content.the_field_sync,
      (
        vec.the_sync Writer.the_row Global.the_row TheImpl.ghosts writer.the_sync global.the_sync,
        (vec.the_sync Entry.the_row Global.the_row TheImpl.ghosts entry.the_sync global.the_sync, tt),
      ),
    ),
  ),
)))

seat_send : Send.IsSend (Seat.the_row (Option.the_row SourceState.the_row) (Builtin.Array Account.the_row tt 0))
seat_send = seat.the_send (Option.the_row SourceState.the_row) (Builtin.Array Account.the_row tt 0) (option.the_send SourceState.the_row state_send)

numbers_send : Send.IsSend (Vec.the_row Builtin.usize Global.the_row TheImpl.ghosts)
numbers_send = vec.the_send Builtin.usize Global.the_row TheImpl.ghosts (Send.plain_send _ _ _ _ _) global.the_send allocator.the_frees

station_send : Send.IsSend Station.the_row
station_send = Send.view_send StationInside.the_row _ _ _ _ (Send.recorded_send StationInside.the_field.row _ _ StationInside.the_type.to_one
    (Send.struct_send (Declared.shape StationInside.the_type) (snapshot_send (Flags.the_row SourceState.the_row KeptImpl.ghosts), (seat_send, (Send.plain_send _ _ _ _ _, tt)))))

pub pass_send : Send.IsSend WriterPass.the_row
pass_send = Send.view_send WriterInside.the_row _ _ _ _ (Send.recorded_send WriterInside.the_field.row _ _ WriterInside.the_type.to_one
    (Send.struct_send (Declared.shape WriterInside.the_type) (station_send, (numbers_send, tt))))

pub poll_pass_send : Send.IsSend PollPass.the_row
poll_pass_send =
    Send.view_send PollInside.the_row _ _ _ _ (Send.recorded_send PollInside.the_field.row _ _ PollInside.the_type.to_one (Send.struct_send (Declared.shape PollInside.the_type) (station_send, tt)))

pub left_send : Send.IsSend Left.the_row
left_send =
    Send.view_send LeftInside.the_row _ _ _ _ (Send.recorded_send LeftInside.the_field.row _ _ LeftInside.the_type.to_one (Send.struct_send (Declared.shape LeftInside.the_type) (station_send, tt)))

pub hub_sync : Send.IsSync Hub.the_row
hub_sync = Send.view_sync HubInside.the_row _ _ _ _ (Send.recorded_sync HubInside.the_field.row _ _ HubInside.the_type.to_one (Send.struct_sync (Declared.shape HubInside.the_type) (
  global.the_field_sync,
  (flags.the_sync SourceState.the_row _ state_send state_sync, (Send.plain_sync _ _ _ _ _, (Send.plain_sync _ _ _ _ _, tt))),
)))
