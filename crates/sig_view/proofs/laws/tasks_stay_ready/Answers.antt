use Rattle.sig_view.proofs.Later.{ready_later, same_holds}
use Rattle.sig_view.proofs.laws.tasks_stay_ready.Goals as goal

pub returns : goal.returns
returns c = λ s t more ready. (ready_later s t more c.args.task.now ready, same_holds s t more c.args.task.now ready)
