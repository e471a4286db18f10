use Rattle.std.proofs.Common.{◌≡◌, ◌+◌, ◌++◌, drop, map}
use Rattle.sig_hub.proofs.starting.pollers_of.Given as goal

abbrev pub invariant-tasks : goal.invariant-tasks
invariant-tasks l = l.seats.items ++ map (λ poller. l.writers + poller) (drop l.poller-index l.tasks) ≡ map (λ poller. l.writers + poller) l.tasks
