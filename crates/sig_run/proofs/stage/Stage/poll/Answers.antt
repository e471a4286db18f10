use Rattle.std.proofs.Common.{◌≡◌, ◌∙◌, ◌<◌, length, Result, Ok, Err, OnOk, arith}
use Rattle.std.proofs.lemmas.Result.{on_ok_weaker}
use Rattle.sig_expr.specs.declared.expressions.VecExpr.{VecExpr}
use Rattle.sig_expr.specs.declared.expressions.View.{View}
use Rattle.sig_report.specs.Lawful.{all_views}
use Rattle.sig_report.specs.Playing.{by_view, view_at}
use Rattle.sig_run.proofs.Viewing.{as_many, polled_views, view_read, view_set, views_later}
use Rattle.sig_run.specs.Stages.{IsViewOf, played_of}
use Rattle.sig_run.specs.Watching.{IsFollowing}
use Rattle.sig_run.proofs.stage.Stage.poll.Goals as goal
use Rattle.sig_view.specs.Tasks.{expression_of}

pub index_mut-requires : goal.index_mut-requires
index_mut-requires c = omega (arith, as_many c.args.self.now.port (all_views c.args.script.now) c.args.self.now.views.items c.requires.step.views)

pub poll-requires : goal.poll-requires
poll-requires c =
    (view_read c.args.self.now.port c.args.script.now c.args.self.now.views.items c.args.view c.index_mut.result.now c.index_mut.ensures.value c.requires.view c.requires.step.views).following

both_on_ok : {T E P Q R : Type 0} (r : Result T E) → (P → Q → R) → OnOk r P → OnOk r Q → OnOk r R
both_on_ok (Ok x) f p q = f p q
both_on_ok (Err e) f p q = tt

pub returns-clause-step : goal.returns-clause-step
returns-clause-step c =
    let script = c.args.script.now in
    let step = c.requires.step in
    let shown = view_at script c.args.view in
    let is : IsViewOf c.args.self.now.port shown c.index_mut.result.now =
    view_read c.args.self.now.port script c.args.self.now.views.items c.args.view c.index_mut.result.now c.index_mut.ensures.value c.requires.view step.views in
    both_on_ok {P = expression_of c.poll.new.view.task ≡ expression_of c.index_mut.result.now.task} {Q = IsFollowing c.poll.new.port c.poll.new.view} c.poll.result (λ same following. record {
      playable = step.playable;
      play = rw c.poll.ensures.sources (record { sources = step.play.sources; done = step.play.done; made = step.play.made });
      sound = c.poll.ensures.more.sound;
      views = view_set c.poll.new.port (all_views script) c.args.self.now.views.items c.args.view (View.Vector (VecExpr.Vector 0)) c.poll.new.view
          (views_later c.args.self.now.port c.poll.new.port c.poll.ensures.more (all_views script) c.args.self.now.views.items step.views)
          (record { expression = same ∙ is.expression; following = following });
    }) c.poll.ensures.view c.poll.ensures.following

pub returns-clause-played : goal.returns-clause-played
returns-clause-played c =
    let script = c.args.script.now in
    let views = c.args.self.now.views.items in
    let is : IsViewOf c.args.self.now.port (view_at script c.args.view) c.index_mut.result.now =
    view_read c.args.self.now.port script views c.args.view c.index_mut.result.now c.index_mut.ensures.value c.requires.view c.requires.step.views in
    let within : c.args.view < length views = omega (arith, as_many c.args.self.now.port (all_views script) views c.requires.step.views) in
    on_ok_weaker _ (λ polled.
    let views_are = polled_views c.args.self.now.port.sources (view_at script c.args.view) views c.args.view c.index_mut.result.now c.poll.new.view within c.index_mut.ensures.value is.expression polled in
    λ i. record (by_view script c.args.view (played_of c.args.self.now)) { sources = c.poll.ensures.sources i; views = views_are i }) c.poll.ensures.polled
