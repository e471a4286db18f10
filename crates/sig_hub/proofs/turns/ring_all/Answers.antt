use Rattle.std.proofs.Common.{◌∙◌, ◌+◌, ◌<◌, List, length, ap, subst, sym, eq-eqb, ne_eqb}
use Rattle.sig_flag.specs.Layouts.{leaf_at}
use Rattle.sig_flag.specs.declared.shape.LeafPlan.{LeafPlan}
use Rattle.sig_hub.proofs.Rung.{starts_ringing, rung_one, passed_by}
use Rattle.sig_hub.specs.Turns.{PassSeat, IsRinging}
use Rattle.sig_hub.proofs.turns.ring_all.Goals.{then-plan-source, else-plan-source}
use Rattle.sig_hub.proofs.turns.ring_all.Goals as goal

pub leaves-init : goal.leaves-init
leaves-init c = starts_ringing _ _ _ c.requires.seat c.requires.rings c.requires.tells

pub leaves-preserved : goal.leaves-preserved
leaves-preserved c =
    let all = c.args.flags.now.layout.leaves in
    let leaves_are = c.leaves-plan-items.ensures.leaves in
    let near : c.leaves.leaf < length all = subst (λ (leaves : List LeafPlan). c.leaves.leaf < length leaves) leaves_are c.leaves-test.true in
    let its_source = ap (λ (leaves : List LeafPlan). (leaf_at leaves c.leaves.leaf).source) leaves_are in
    let goes : PassSeat → Type 0 = IsRinging all c.args.source (c.leaves.leaf + 1) c.args.seat.now in
    elim c.if-plan-source.branch [
      | then-plan-source w ↦ subst goes (sym w.seat-is)
          (rung_one _ _ _ c.requires.seat _ _ c.leaves.invariant w.ring_one.new.seat near (eq-eqb _ _ (sym its_source
          ∙ w.if-plan-source.true)) w.ring_one.ensures.seat w.ring_one.ensures.has)
      | else-plan-source w ↦ subst goes (sym w.seat-is)
          (passed_by _ _ _ c.requires.seat _ _ c.leaves.invariant near (ne_eqb _ _ (λ same. w.if-plan-source.false (its_source ∙ same))))
    ]
