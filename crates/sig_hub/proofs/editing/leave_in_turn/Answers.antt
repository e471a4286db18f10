use Rattle.std.proofs.Common.{refl}
use Rattle.sig_hub.proofs.Entered.{in_turn, ends_more, is_after, same_pass, made, nothing_mid, one_came}
use Rattle.sig_hub.specs.Passes.{leave_by}
use Rattle.sig_hub.proofs.editing.leave_in_turn.Goals as goal

pub leave-requires : goal.leave-requires
leave-requires g c = in_turn c.args.flags.now _ _ _ _ _ c.requires.station.rests.of_number c.requires.writes c.begin-state.ensures.turn

pub end-requires-clause-state : goal.end-requires-clause-state
end-requires-clause-state g c = ends_more c.args.flags.now _ _ _ _ _ c.requires.station.rests.of_number c.requires.writes c.begin-state.ensures.turn _ (leave_by c.args.number) c.leave.ensures.entered refl c.leave.ensures.source

pub returns-clause-station : goal.returns-clause-station
returns-clause-station g c = (is_after c.args.flags.now _ _ _ _ _ c.requires.station.rests.of_number c.requires.writes c.begin-state.ensures.turn _ _ c.begin-state.ensures.seat c.end.ensures).station _ c.requires.station

pub returns-clause-same : goal.returns-clause-same
returns-clause-same g c = same_pass c.args.flags.now _ _ _ _ _ c.requires.station.rests.of_number c.requires.writes c.begin-state.ensures.turn _ _ c.begin-state.ensures.seat c.end.ensures

pub returns-clause-left : goal.returns-clause-left
returns-clause-left g c = made c.args.flags.now _ _ _ _ _ c.requires.station.rests.of_number c.requires.writes c.begin-state.ensures.turn _ _ c.begin-state.ensures.seat c.end.ensures (leave_by c.args.number) c.leave.ensures.entered refl c.leave.ensures.source

pub end-requires-clause-nothing : goal.end-requires-clause-nothing
end-requires-clause-nothing g c = nothing_mid c.args.flags.now _ _ _ _ _ c.requires.station.rests.of_number c.requires.writes c.begin-state.ensures.turn c.requires.station.rests.nothing

pub end-requires-clause-came : goal.end-requires-clause-came
end-requires-clause-came g c = one_came c.args.flags.now _ _ _ _ _ c.requires.station.rests.of_number c.requires.writes c.begin-state.ensures.turn _ (leave_by c.args.number) c.leave.ensures.entered
