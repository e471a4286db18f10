use Rattle.std.proofs.Common.{◌∙◌, subst, sym}
use Rattle.std.proofs.lemmas.Result.{IfOk-weaker}
use Rattle.serde_json.specs.View.{view}
use Rattle.sig_script.proofs.SelfContained.{self_contained}
use Rattle.sig_script.proofs.Starts.{starts_in_order}
use Rattle.sig_script.proofs.reader.limited_script.Goals as goal
use Rattle.sig_script.specs.Fields.{members_in}
use Rattle.sig_script.specs.SelfContained.{IsSelfContained}
use Rattle.sig_script.specs.Starts.{StartsInOrder}

pub returns-in-Ok-script_of-clause-in_order : goal.returns-in-Ok-script_of-clause-in_order
returns-in-Ok-script_of-clause-in_order c =
    IfOk-weaker _ _ StartsInOrder (λ given same. subst StartsInOrder (sym (same ∙ c.in-Ok-script_of.ensures.script)) (starts_in_order (members_in (view c.args.document.now)))) c.checked_script.ensures.same

pub returns-in-Ok-script_of-clause-self_contained : goal.returns-in-Ok-script_of-clause-self_contained
returns-in-Ok-script_of-clause-self_contained c =
    IfOk-weaker _ _ IsSelfContained (λ given same. subst IsSelfContained (sym (same ∙ c.in-Ok-script_of.ensures.script)) (self_contained (members_in (view c.args.document.now)) c.in-Ok.ensures)) c.checked_script.ensures.same
