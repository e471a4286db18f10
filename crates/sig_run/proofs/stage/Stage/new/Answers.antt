use Rattle.std.proofs.Common.{◌≡◌, ◌∙◌, ◌<◌, ◌^◌, List, [], length, map, ap, sym, subst}
use Rattle.std.proofs.lemmas.List.{length-map}
use Rattle.sig_expr.specs.declared.expressions.View.{View}
use Rattle.sig_hist.specs.Plain.{OneThread, leaf_of, source_of}
use Rattle.sig_report.proofs.Events.{IsPlay}
use Rattle.sig_report.proofs.Plays.{opened_play}
use Rattle.sig_report.proofs.Views.{no_shares, views_are}
use Rattle.sig_report.specs.Playing.{opened}
use Rattle.sig_run.proofs.Starting.{fresh_views, fresh_watched, leaves_within}
use Rattle.sig_run.specs.Stages.{AreFresh, AreViewsOf, leaf_sources, played_of}
use Rattle.sig_run.specs.Watching.{watched_of}
use Rattle.sig_run.specs.declared.stage.Stage.{Stage}
use Rattle.sig_run.proofs.stage.Stage.new.Goals as goal
use Rattle.sig_script.specs.Plans.{plans_of}
use Rattle.sig_script.specs.Rooms.{caps_of}

pub new-requires-clause-leaves : goal.new-requires-clause-leaves
new-requires-clause-leaves c =
    let script = c.args.script.now in
    rw (c.in_ok-leaves_of.ensures.sources, c.as_slice-views.ensures, c.in_ok-plans.ensures.plans) (leaves_within script (no_shares script c.requires.built) script.views c.requires.self_contained.views)

pub returns-clause-played : goal.returns-clause-played
returns-clause-played c =
    let script = c.args.script.now in
    let views = c.in_ok-views_of.field-0.items in
    let fresh : AreFresh c.in_ok-caps.caps 0 script.views views = rw c.as_slice-views.ensures at c.in_ok-views_of.ensures in
    let done : c.in_ok-none_done.field-0.items ≡ (opened script).done = rw c.as_slice.ensures at c.in_ok-none_done.ensures in
    let sources : c.in_ok-new.field-0.sources ≡ map source_of (plans_of script) = ap (λ (port : OneThread). port.sources) c.in_ok-new.ensures.port ∙ ap (map source_of) c.in_ok-plans.ensures.plans in
    let watched : map watched_of views ≡ (opened script).views =
    fresh_watched c.in_ok-caps.caps 0 script.views views fresh ∙ ap (map (λ (view : View). record { at = []; rows = [] })) (sym (views_are script (no_shares script c.requires.built))) in
    λ i. record { done = done i; sources = sources i; views = watched i }

pub returns-clause-step : goal.returns-clause-step
returns-clause-step c =
    let script = c.args.script.now in
    let unshared = no_shares script c.requires.built in
    let port = c.in_ok-new.field-0 in
    let views = c.in_ok-views_of.field-0.items in
    let sources : port.sources ≡ map source_of (plans_of script) = ap (λ (port : OneThread). port.sources) c.in_ok-new.ensures.port ∙ ap (map source_of) c.in_ok-plans.ensures.plans in
    let labels : c.in_ok-leaves_of.field-0 ≡ leaf_sources script.views = rw c.as_slice-views.ensures at c.in_ok-leaves_of.ensures.sources in
    let placed : port.leaves ≡ map leaf_of (leaf_sources script.views) = ap (λ (port : OneThread). port.leaves) c.in_ok-new.ensures.port ∙ ap (map leaf_of) labels in
    let fresh : AreFresh (caps_of script) 0 script.views views = rw (c.as_slice-views.ensures, c.in_ok-caps.ensures) at c.in_ok-views_of.ensures in
    let few : length port.leaves < 2 ^ 64 = rw (placed, length-map (leaf_sources script.views) leaf_of, ← labels) c.in_ok-leaves_of.ensures.few in
    let stage : Stage = record { port = port; done = c.in_ok-none_done.field-0; views = c.in_ok-views_of.field-0 } in
    let play : IsPlay script (played_of stage) = subst (IsPlay script) (sym (returns-clause-played c)) (opened_play script unshared) in
    record {
      playable = c.requires;
      play = play;
      sound = c.in_ok-new.ensures.sound;
      views = subst (λ (shown : List View). AreViewsOf port shown views) (sym (views_are script unshared))
          (fresh_views script unshared port sources c.in_ok-new.ensures.sound few [] script.views views placed c.requires.self_contained.views fresh);
    }
