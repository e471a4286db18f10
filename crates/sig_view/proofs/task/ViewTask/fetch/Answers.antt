use Rattle.sig_view.proofs.Beginning.{count_each}
use Rattle.sig_view.proofs.task.ViewTask.fetch.Goals as goal

pub fetch_into-requires-clause-each : goal.fetch_into-requires-clause-each
fetch_into-requires-clause-each g c = rw c.set_out.ensures (count_each (g.P.Port.state c.args.port.now) c.args.self.now c.requires.ready c.requires.begins)
