use Rattle.std.proofs.Common.{◌≡◌, ◌∙◌, ◌-◌, ◌+◌, sym, ap, arith}
use Rattle.sig_hist.specs.declared.plans.SourcePlan.{SourcePlan}
use Rattle.sig_hub.proofs.Started.{asked, none_written, written_more, written_less}
use Rattle.sig_hub.proofs.starting.sources_by.Goals as goal

pub plans-init : goal.plans-init
plans-init c = (rw c.new-sources.ensures.items (none_written _ _ _ (omega arith)), omega arith)

pub plans-preserved-in-Continue-1 : goal.plans-preserved-in-Continue-1
plans-preserved-in-Continue-1 c =
    let next : c.plans.source ≡ (c.plans.source - 1) + 1 = omega (arith, c.plans-test.true) in
    let writes = asked c.args.plans.now c.args.number (c.plans.source - 1) _ _ _ c.index-plans-source.is (omega (arith, c.plans-test.true, c.plans.invariant.1)) (c.as_slice.ensures ∙ ap (λ (plan : SourcePlan). plan.allow) (sym c.index-plans-source.is)) c.may_write.ensures in
    (rw c.in_ok-push.ensures.items (written_more _ _ _ _ _ next c.plans.invariant.1 c.plans.invariant.0 (writes ∙ c.if-may_write.true)), omega (arith, c.plans.invariant.1))

pub plans-preserved : goal.plans-preserved
plans-preserved c =
    let next : c.plans.source ≡ (c.plans.source - 1) + 1 = omega (arith, c.plans-test.true) in
    let writes = asked c.args.plans.now c.args.number (c.plans.source - 1) _ _ _ c.index-plans-source.is (omega (arith, c.plans-test.true, c.plans.invariant.1)) (c.as_slice.ensures ∙ ap (λ (plan : SourcePlan). plan.allow) (sym c.index-plans-source.is)) c.may_write.ensures in
    (written_less _ _ _ _ _ next c.plans.invariant.1 c.plans.invariant.0 (writes ∙ c.if-may_write.false), omega (arith, c.plans.invariant.1))
