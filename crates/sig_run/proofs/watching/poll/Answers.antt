use Rattle.std.proofs.Common.{◌∙◌, sym}
use Rattle.sig_run.proofs.Polling.{IsPolled, end_polls, pending_polls, row_polls}
use Rattle.sig_run.proofs.watching.poll.Goals as goal

row : (c : goal.In-Row) → IsPolled c.args.port.now c.poll.new.port c.args.view.now c.poll.new.self
row c =
    let watched = c.in-Row.ensures.watched in
    row_polls c.args.port.now c.poll.new.port c.args.view.now c.poll.new.self _ c.requires c.poll.ensures.same (sym c.is_ended.ensures ∙ c.if-is_ended.false) watched.0 c.in-Row.told c.in-Row.held watched.1

pub returns-in-Row-clause-polled : goal.returns-in-Row-clause-polled
returns-in-Row-clause-polled c = (row c).polled

pub returns-in-Row-clause-following : goal.returns-in-Row-clause-following
returns-in-Row-clause-following c = (row c).following

pending : (c : goal.In-Pending) → IsPolled c.args.port.now c.poll.new.port c.args.view.now c.poll.new.self
pending c = pending_polls c.args.port.now c.poll.new.port c.args.view.now c.poll.new.self _ c.requires c.poll.ensures.same (sym c.is_ended.ensures ∙ c.if-is_ended.false) c.in-Pending.ensures.watched

pub returns-in-Pending-clause-polled : goal.returns-in-Pending-clause-polled
returns-in-Pending-clause-polled c = (pending c).polled

pub returns-in-Pending-clause-following : goal.returns-in-Pending-clause-following
returns-in-Pending-clause-following c = (pending c).following

ended : (c : goal.In-Ended) → IsPolled c.args.port.now c.poll.new.port c.args.view.now c.poll.new.self
ended c = end_polls c.args.port.now c.poll.new.port c.args.view.now c.poll.new.self _ c.requires c.poll.ensures.same (sym c.is_ended.ensures ∙ c.if-is_ended.false) c.in-Ended.ensures.watched

pub returns-in-Ended-clause-polled : goal.returns-in-Ended-clause-polled
returns-in-Ended-clause-polled c = (ended c).polled

pub returns-in-Ended-clause-following : goal.returns-in-Ended-clause-following
returns-in-Ended-clause-following c = (ended c).following
