use Rattle.sig_hub.proofs.Entered.{in_turn, ends_any, is_after, same_pass, made_any, none_any, nothing_mid, came_any}
use Rattle.sig_hub.proofs.editing.edit_in_turn.Goals as goal

pub edit-answer-requires-clause-is_in : goal.edit-answer-requires-clause-is_in
edit-answer-requires-clause-is_in g c = in_turn c.args.flags.now _ _ _ _ _ c.requires.station.rests.of_number c.requires.writes c.begin-state.ensures.turn

pub end-requires-clause-state : goal.end-requires-clause-state
end-requires-clause-state g c =
    let answer = c.edit-answer.ensures in
    ends_any c.args.flags.now _ _ _ _ _ c.requires.station.rests.of_number c.requires.writes c.begin-state.ensures.turn c.args.edit.now _ c.edit-answer.result answer.entered answer.source answer.err

pub returns-clause-station : goal.returns-clause-station
returns-clause-station g c = (is_after c.args.flags.now _ _ _ _ _ c.requires.station.rests.of_number c.requires.writes c.begin-state.ensures.turn _ _ c.begin-state.ensures.seat c.end.ensures).station _ c.requires.station

pub returns-clause-same : goal.returns-clause-same
returns-clause-same g c = same_pass c.args.flags.now _ _ _ _ _ c.requires.station.rests.of_number c.requires.writes c.begin-state.ensures.turn _ _ c.begin-state.ensures.seat c.end.ensures

pub returns-clause-ok : goal.returns-clause-ok
returns-clause-ok g c =
    let answer = c.edit-answer.ensures in
    made_any c.args.flags.now _ _ _ _ _ c.requires.station.rests.of_number c.requires.writes c.begin-state.ensures.turn _ _ c.begin-state.ensures.seat c.end.ensures c.args.edit.now c.edit-answer.result answer.entered answer.source

pub returns-clause-err : goal.returns-clause-err
returns-clause-err g c =
    let answer = c.edit-answer.ensures in
    none_any c.args.flags.now _ _ _ _ _ c.requires.station.rests.of_number c.requires.writes c.begin-state.ensures.turn _ _ c.begin-state.ensures.seat c.end.ensures c.edit-answer.result answer.refused answer.err

pub end-requires-clause-nothing : goal.end-requires-clause-nothing
end-requires-clause-nothing g c = nothing_mid c.args.flags.now _ _ _ _ _ c.requires.station.rests.of_number c.requires.writes c.begin-state.ensures.turn c.requires.station.rests.nothing

pub end-requires-clause-came : goal.end-requires-clause-came
end-requires-clause-came g c =
    let answer = c.edit-answer.ensures in
    came_any c.args.flags.now _ _ _ _ _ c.requires.station.rests.of_number c.requires.writes c.begin-state.ensures.turn c.args.edit.now _ c.edit-answer.result _ c.is_ok.ensures.value answer.entered answer.err
