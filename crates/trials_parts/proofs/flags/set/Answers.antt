use Rattle.std.proofs.Common.{◌∙◌, refl}
use Rattle.sig_flag.specs.Machines.{IsSameSeat}
use Rattle.trials_parts.proofs.Edited.{owing, same_state, turn_back}
use Rattle.trials_parts.proofs.flags.set.Goals as goal

pub returns : goal.returns
returns c =
    let at_work = c.requires.at_work in
    let out = c.out-state.ensures in
    let put = c.put_in.ensures in
    let gave = c.give.ensures in
    let same : IsSameSeat c.args.seat.now c.give.new.seat = record {
      same_table = gave.seat.same_table ∙ put.seat.same_table ∙ out.seat.same_table;
      same_id = gave.seat.same_id ∙ put.seat.same_id ∙ out.seat.same_id;
    } in
    owing c.args.flags.now c.args.seat.now c.out-state.new.seat c.put_in.new.seat c.give.new.seat c.args.flags.now.layout.leaves at_work c.requires.leaves c.edit.new.self _ out.account put.account
    (gave.account c.edit.new.self (turn_back c.args.seat.now c.out-state.new.seat c.put_in.new.seat _ _ _ at_work.turn out.account put.account))
    _ _ (same_state _ _ _ out.state at_work.turn) c.in_ok-edit.ensures.entered refl refl same
