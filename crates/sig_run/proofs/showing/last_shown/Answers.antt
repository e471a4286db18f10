use Rattle.std.proofs.Common.{◌≡◌, ◌∙◌, List, ap, sym}
use Rattle.std.proofs.lemmas.Result.{IfOk-weaker}
use Rattle.sig_diff.specs.declared.contents.Content.{Content}
use Rattle.sig_expr.specs.Leaves.{numbered}
use Rattle.sig_expr.specs.Shapes.{view_tree}
use Rattle.sig_expr.specs.Shows.{content_of, shows}
use Rattle.sig_expr.specs.declared.shown.Shown.{Shown}
use Rattle.sig_rows.specs.SoundRows.{nothing_shown, replay_of, without_tags}
use Rattle.sig_run.proofs.AtEnd.{shown_from_scratch}
use Rattle.sig_run.proofs.showing.last_shown.Goals as goal

pub returns-in_ok-contents_of-in_default : goal.returns-in_ok-contents_of-in_default
returns-in_ok-contents_of-in_default c =
    let view = c.args.view.now in
    let shown : Shown = replay_of (nothing_shown (view_tree view)) c.args.rows.now in
    let bare : without_tags shown ≡ shown = shown_from_scratch view c.args.rows.now (λ list is. c.in_default.not-Enumerate list is) in
    IfOk-weaker c.eval_view-in_default.result _ _ (λ last is.
    is ∙ ap (λ (contents : List Content). shows (numbered (view_tree view)) (content_of contents)) c.in_ok-contents_of-in_default.ensures ∙ sym c.requires.ends ∙ bare) c.eval_view-in_default.ensures.shown
