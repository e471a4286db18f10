use Rattle.std.proofs.lemmas.Result.{on_ok_weaker}
use Rattle.sig_flat.specs.laws.Joining.{left_leads, right_leads}
use Rattle.sig_flat.proofs.Halves.{left_len, right_len}
use Rattle.sig_flat.proofs.joining.Concat.step_bank.Goals as goal

pub returns-in-0-clause-left_law : goal.returns-in-0-clause-left_law
returns-in-0-clause-left_law c = λ left right left_is right_is first.
    let lawful = rw first at c.requires.lawful in
    rw first (left_leads c.args.self.now left right c.args.diff.now left_is right_is lawful)

pub returns-in_default-clause-right_law : goal.returns-in_default-clause-right_law
returns-in_default-clause-right_law c = λ left right left_is right_is second.
    let lawful = rw second at c.requires.lawful in
    rw second (right_leads c.args.self.now left right c.args.diff.now left_is right_is lawful)

pub returns-in-0-clause-left_len : goal.returns-in-0-clause-left_len
returns-in-0-clause-left_len c = λ left right left_is right_is first.
    let lawful = rw first at c.requires.lawful in
    let len = left_len c.args.self.now c.step_left.new.self left right c.args.diff.now left_is right_is lawful in
    on_ok_weaker c.step_left.result len c.step_left.ensures.state

pub returns-in_default-clause-right_len : goal.returns-in_default-clause-right_len
returns-in_default-clause-right_len c = λ left right left_is right_is second.
    let lawful = rw second at c.requires.lawful in
    let len = right_len c.args.self.now c.step_right.new.self left right c.args.diff.now left_is right_is lawful in
    on_ok_weaker c.step_right.result len c.step_right.ensures.state
