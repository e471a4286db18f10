use Rattle.std.proofs.Common.{◌≡◌, sym, subst}
use Rattle.std.proofs.lemmas.Result.{IfOk-weaker}
use Rattle.sig_exec.specs.Jobs.{works_of}
use Rattle.sig_exec.specs.Views.{StartsFor}
use Rattle.sig_exec.proofs.Starts.{jobs_start}
use Rattle.sig_exec.proofs.exec.Exec.of_views.Goals as goal

pub returns-clause-start : goal.returns-clause-start
returns-clause-start c =
    IfOk-weaker c.new.result (λ works. works ≡ works_of c.in_ok-jobs.jobs) (StartsFor c.args.views.now c.args.caps.now c.args.pollers c.args.poller)
    (λ works is. subst (StartsFor c.args.views.now c.args.caps.now c.args.pollers c.args.poller) (sym is)
    (λ sources writers hub pass caps_are is_for. jobs_start c.args.views.now c.args.caps.now c.args.pollers c.args.poller sources writers hub pass c.requires.leaves caps_are is_for (works_of c.in_ok-jobs.jobs) c.in_ok-jobs.ensures.jobs)) c.new.ensures
