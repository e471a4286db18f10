use Rattle.sig_exec.proofs.Polls.{tried_again, row_settles, rest_settles, end_settles, loss_settles}
use Rattle.sig_exec.proofs.Works.{poller_then}
use Rattle.sig_exec.proofs.turns.poll.Goals as goal

pub returns-in-Row-clause-others : goal.returns-in-Row-clause-others
returns-in-Row-clause-others g c = (row_settles _ _ _ _ _ _ _ _ c.requires.watching c.polls.invariant.1 c.requires.holds _ _ _ c.in-Row.ensures.watched.1).others

pub returns-in-Row-clause-is_in : goal.returns-in-Row-clause-is_in
returns-in-Row-clause-is_in g c = (row_settles _ _ _ _ _ _ _ _ c.requires.watching c.polls.invariant.1 c.requires.holds _ _ _ c.in-Row.ensures.watched.1).is_in

pub returns-in-Pending-clause-others : goal.returns-in-Pending-clause-others
returns-in-Pending-clause-others g c = (rest_settles _ _ _ _ _ _ _ _ c.requires.watching c.polls.invariant.1 c.requires.holds c.in-Pending.ensures.watched).others

pub returns-in-Pending-clause-is_in : goal.returns-in-Pending-clause-is_in
returns-in-Pending-clause-is_in g c = (rest_settles _ _ _ _ _ _ _ _ c.requires.watching c.polls.invariant.1 c.requires.holds c.in-Pending.ensures.watched).is_in

pub returns-in-Ended-clause-others : goal.returns-in-Ended-clause-others
returns-in-Ended-clause-others g c = (end_settles _ _ _ _ _ _ _ _ c.requires.watching c.polls.invariant.1 _ c.in-Ended.ensures.watched).others

pub returns-in-NoMemory-clause-others : goal.returns-in-NoMemory-clause-others
returns-in-NoMemory-clause-others g c = (loss_settles _ _ _ _ _ _ _ _ c.requires.watching c.polls.invariant.1 c.in-NoMemory.ensures.watched).others

pub polls-preserved : goal.polls-preserved
polls-preserved g c =
    (poller_then _ _ _ c.polls.invariant.0 c.poll_once.ensures.same, tried_again _ _ _ _ _ _ _ _ c.requires.watching c.polls.invariant.1 _ _ c.in-Again.ensures.watched)
