use Rattle.std.proofs.Common.{◌≡◌, List, ◌∷◌, [], refl, subst, sym}
use Rattle.sig_hist.specs.Ports.{PortState}
use Rattle.sig_rows.specs.declared.rows.Body.TheVariants.{Ended}
use Rattle.sig_rows.specs.declared.rows.Row.{Row}
use Rattle.sig_view.proofs.WatchedRows.{again_given, end_given, end_lost, never_failed, pending_given, row_given, row_lost, task_lost}
use Rattle.sig_view.proofs.watching.WatchedView.poll.Goals as goal
use Rattle.sig_view.specs.Tasks.{positions_of}
use Rattle.sig_view.specs.Watching.{IsGiven, IsLost}
use Rattle.sig_view.specs.declared.task.Polled.TheVariants as polled
use Rattle.sig_view.specs.declared.task.ViewTask.{ViewTask}
use Rattle.sig_view.specs.declared.watching.WatchedView.{WatchedView}

pub returns-in-Ok-clause-watched : goal.returns-in-Ok-clause-watched
returns-in-Ok-clause-watched g c = (
  c.in-Batch.row,
  rw c.in-Ok.ensures.ok (row_given (g.P.Port.state c.args.port.now) (g.P.Port.state c.poll.new.port) c.args.self.now c.poll.new.self c.args.told c.requires.watching c.requires.open c.in-Batch.row c.in-Batch.told c.in-Batch.held c.in-Batch.ensures.poll),
)

pub returns-in-Err-clause-watched : goal.returns-in-Err-clause-watched
returns-in-Err-clause-watched g c =
    rw c.in-Err.ensures.err (row_lost (g.P.Port.state c.args.port.now) (g.P.Port.state c.poll.new.port) c.args.self.now c.poll.new.self c.args.told c.requires.watching c.requires.open c.in-Batch.row c.in-Batch.told c.in-Batch.held c.in-Batch.ensures.poll)

pub returns-in-Pending-clause-watched : goal.returns-in-Pending-clause-watched
returns-in-Pending-clause-watched g c =
    pending_given (g.P.Port.state c.args.port.now) (g.P.Port.state c.poll.new.port) c.args.self.now c.poll.new.self c.args.told c.requires.watching c.requires.open c.in-Pending.ensures.poll

pub returns-in-Again-clause-watched : goal.returns-in-Again-clause-watched
returns-in-Again-clause-watched g c =
    again_given (g.P.Port.state c.args.port.now) (g.P.Port.state c.poll.new.port) c.args.self.now c.poll.new.self c.args.told c.requires.watching c.requires.open c.in-Again.word c.in-Again.told c.in-Again.ensures.poll

-- the view after the ended row was put behind the others
ended_view : {view : WatchedView} {task : ViewTask} {rows : List Row} → view.task ≡ task → view.rows ≡ rows → record { task = task; rows = rows } ≡ view
ended_view same rows = λ i. record { task = sym same i; rows = sym rows i }

pub returns-in-Ok-push_end-clause-watched : goal.returns-in-Ok-push_end-clause-watched
returns-in-Ok-push_end-clause-watched g c =
    let s : PortState = g.P.Port.state c.args.port.now in
    let t : PortState = g.P.Port.state c.poll.new.port in
    subst (λ (view : WatchedView). IsGiven s t c.args.self.now view c.args.told polled.Ended (record { at = positions_of view.task; body = Ended } ∷ [])) (ended_view c.push_end.ensures.task c.in-Ok-push_end.ensures.rows)
    (end_given s t c.args.self.now c.poll.new.self c.args.told c.requires.watching c.requires.open c.in-Ended.ensures.poll)

pub returns-in-Err-push_end-clause-watched : goal.returns-in-Err-push_end-clause-watched
returns-in-Err-push_end-clause-watched g c =
    let s : PortState = g.P.Port.state c.args.port.now in
    let t : PortState = g.P.Port.state c.poll.new.port in
    subst (λ (view : WatchedView). IsLost s t c.args.self.now view) (ended_view c.push_end.ensures.task c.in-Err-push_end.ensures.none)
    (end_lost s t c.args.self.now c.poll.new.self c.args.told c.requires.watching c.requires.open c.in-Ended.ensures.poll)

pub returns-in-NoMemory-clause-watched : goal.returns-in-NoMemory-clause-watched
returns-in-NoMemory-clause-watched g c =
    task_lost (g.P.Port.state c.args.port.now) (g.P.Port.state c.poll.new.port) c.args.self.now c.poll.new.self c.args.told c.requires.watching c.requires.open c.in-NoMemory.ensures.poll

pub returns-in-Failed-clause-watched : goal.returns-in-Failed-clause-watched
returns-in-Failed-clause-watched g c =
    never_failed (g.P.Port.state c.args.port.now) (g.P.Port.state c.poll.new.port) c.args.self.now c.poll.new.self c.args.told c.requires.watching c.requires.open c.in-Failed.ensures.poll
