use Rattle.std.proofs.Common.{◌∙◌, ◌+◌, ◌<◌, map, All, refl, sym, ap, subst, arith}
use Rattle.std.proofs.lemmas.List.Elements.{All-map, All-weaker}
use Rattle.sig_hist.specs.Sources.{IsPlan}
use Rattle.sig_hub.proofs.Started.{sound_new}
use Rattle.sig_hub.specs.Plans.{IsSourceBy}
use Rattle.sig_hub.proofs.hub.Hub.new.Goals as goal

pub flags_of-requires-clause-tasks : goal.flags_of-requires-clause-tasks
flags_of-requires-clause-tasks c =
    let plan = c.args.plan in
    subst (All (λ poller. poller < plan.writers + plan.pollers)) (sym (c.in_ok-tasks.ensures ∙ ap (map (λ poller. plan.writers + poller)) c.as_slice-2.ensures))
    (All-map (λ poller. poller < plan.writers + plan.pollers) (λ poller. plan.writers + poller) plan.tasks (λ k d within. let low = c.requires.sound.tasks k d within in omega arith))

pub returns : goal.returns
returns c =
    let seated = c.in_ok-flags.ensures in
    let plans = subst (All IsPlan) (sym seated.of_plans) (All-weaker (IsSourceBy c.args.plan.writers) IsPlan (λ plan by. by.of_plan) c.args.plan.sources c.requires.sound.sources) in
    record {
      of_sources = seated.of_plans;
      of_leaves = seated.of_leaves;
      of_tasks = seated.of_pollers ∙ c.in_ok-tasks.ensures ∙ ap (map (λ poller. c.args.plan.writers + poller)) c.as_slice-2.ensures;
      of_writers = refl;
      of_pollers = refl;
      writers = c.in_ok-passes.ensures.writers;
      pollers = c.in_ok-passes.ensures.pollers;
      sound = sound_new _ _ _ _ plans c.in_ok-passes.ensures.pollers;
    }
