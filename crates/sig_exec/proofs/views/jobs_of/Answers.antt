use Rattle.std.proofs.Common.{◌∙◌, ◌+◌, ◌<◌, ℕ, List, length, sym, ap, subst, refl, eq-eqb, ne_eqb, arith}
use Rattle.std.proofs.lemmas.Option.{slice_get_read}
use Rattle.sig_exec.specs.declared.jobs.Job.{Job}
use Rattle.sig_exec.proofs.Planned.{AreListed, first_fits, is_mine, not_mine, of_view}
use Rattle.sig_exec.proofs.views.jobs_of.Goals as goal

pub overflow_add-first : goal.overflow_add-first
overflow_add-first c =
    let within : c.views.number < length c.args.views.now = omega arith in
    let at = slice_get_read c.args.views.now (length c.args.views.now) c.views.number c.index-views-number.result refl within c.index-views-number.is in
    let fits = first_fits c.args.views.now c.args.caps.now c.args.pollers c.args.poller c.views.number c.views.first c.views.jobs _ at c.views.invariant c.requires.leaves in
    omega (arith, fits, c.len.ensures, ap length c.in_ok-leaves.ensures)

pub views-preserved-then-number-pollers : goal.views-preserved-then-number-pollers
views-preserved-then-number-pollers c =
    let within : c.views.number < length c.args.views.now = omega arith in
    let at = slice_get_read c.args.views.now (length c.args.views.now) c.views.number c.index-views-number.result refl within c.index-views-number.is in
    let counted = c.len.ensures ∙ ap length c.in_ok-leaves.ensures in
    subst (λ (count : ℕ). AreListed c.args.views.now c.args.caps.now c.args.pollers c.args.poller (c.views.number + 1) (c.views.first + count) c.views.jobs) (sym counted)
    (not_mine c.args.views.now c.args.caps.now c.args.pollers c.args.poller c.views.number c.views.first c.views.jobs _ at c.views.invariant (ne_eqb _ _ c.if-number-pollers.true))

pub views-preserved : goal.views-preserved
views-preserved c =
    let within : c.views.number < length c.args.views.now = omega arith in
    let at = slice_get_read c.args.views.now (length c.args.views.now) c.views.number c.index-views-number.result refl within c.index-views-number.is in
    let counted = c.len.ensures ∙ ap length c.in_ok-leaves.ensures in
    let is = c.in_ok-job_of.ensures in
    subst (λ (count : ℕ). AreListed c.args.views.now c.args.caps.now c.args.pollers c.args.poller (c.views.number + 1) (c.views.first + count) c.push.new.self) (sym counted)
    (subst (λ (jobs : List (ℕ × Job)). AreListed c.args.views.now c.args.caps.now c.args.pollers c.args.poller (c.views.number + 1) (c.views.first + length (of_view c.index-views-number.result)) jobs) (sym c.in_ok-push.ensures.ok)
    (is_mine c.args.views.now c.args.caps.now c.args.pollers c.args.poller c.views.number c.views.first c.views.jobs _ at c.views.invariant _ is (eq-eqb _ _ c.if-number-pollers.false)))
