use Rattle.std.proofs.Common.{◌<◌, ℕ, length, get_or, subst, arith}
use Rattle.std.proofs.lemmas.Option.{slice_get-get_or}
use Rattle.sig_exec.proofs.Works.{AreTurning, all_turned, one_turned}
use Rattle.sig_exec.proofs.exec.turn_all.Goals as goal

pub works-preserved : goal.works-preserved
works-preserved g c =
    let within : c.works.work-index < length c.works.work-items = omega arith in
    let one = c.turn_one-rows.ensures in
    one_turned _ _ _ _ _ _ _ _ _ (get_or c.works.work-items c.works.work-index c.work-item.result) _ c.works.invariant (slice_get-get_or c.works.work-items c.works.work-index c.work-item.result within) one.same one.others one.job one.worked one.rows one.one_more

pub returns-clause-worked : goal.returns-clause-worked
returns-clause-worked g c =
    all_turned _ _ _ _ _ _ (subst (λ (index : ℕ). AreTurning c.args.hub.now c.args.pass.now c.works.pass c.args.works.now c.works.work-items index c.works.rows) (omega arith) c.works.invariant)
