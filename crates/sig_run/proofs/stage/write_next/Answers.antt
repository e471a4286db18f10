use Rattle.std.proofs.Common.{◌≡◌, ◌∙◌, length, sym, ap, arith}
use Rattle.std.proofs.lemmas.Bool.{and_parts, eqb-true}
use Rattle.sig_hist.specs.Plain.{OneThread}
use Rattle.sig_run.proofs.Seeing.{left_more}
use Rattle.sig_run.proofs.Writing.{leave_all_is, wrote_last, wrote_nothing}
use Rattle.sig_run.proofs.stage.write_next.Goals as goal

pub edit_source-requires-clause-open_to : goal.edit_source-requires-clause-open_to
edit_source-requires-clause-open_to c = c.requires.open_to.edit c.edit_at.result.now c.edit_at.ensures

pub returns-then-is_after_last-clause-written : goal.returns-then-is_after_last-clause-written
returns-then-is_after_last-clause-written c =
    ap (λ (port : OneThread). port.sources) c.leave_all.ensures.left
    ∙ leave_all_is c.args.caller c.args.port.now.sources
    ∙ sym (wrote_last c.args.caller c.args.done c.args.edits.now c.args.port.now.sources (omega arith) (sym c.is_after_last.ensures ∙ c.if-is_after_last.true))

pub returns-then-is_after_last-clause-more : goal.returns-then-is_after_last-clause-more
returns-then-is_after_last-clause-more c =
    let last : c.args.done ≡ length c.args.edits.now = eqb-true _ _ (and_parts _ _ (sym c.is_after_last.ensures ∙ c.if-is_after_last.true)).1 in
    left_more c.args.port.now c.leave_all.new.self c.args.caller (c.requires.open_to.leaves last) c.leave_all.ensures.left c.leave_all.ensures.sound

pub returns-else-is_after_last-clause-written : goal.returns-else-is_after_last-clause-written
returns-else-is_after_last-clause-written c =
    sym (wrote_nothing c.args.caller c.args.done c.args.edits.now c.args.port.now.sources (omega arith) (sym c.is_after_last.ensures ∙ c.if-is_after_last.false))
