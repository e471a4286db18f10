use Rattle.sig_hub.specs.Polls.{IsSamePoller, port_of}
use Rattle.sig_exec.proofs.Polls.{HasTried}
use Rattle.sig_exec.proofs.turns.poll.Given as goal

abbrev pub invariant-polls : goal.invariant-polls
invariant-polls g l = IsSamePoller l.initial.pass l.pass × HasTried l.hub (port_of l.initial.pass) (port_of l.pass) l.initial.view l.view l.token
