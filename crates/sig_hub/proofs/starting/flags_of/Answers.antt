use Rattle.std.proofs.lemmas.Result.{IfOk-weaker}
use Rattle.sig_flag.specs.Layouts.{Layout}
use Rattle.sig_hub.proofs.Seated.{shaped, seated}
use Rattle.sig_hub.proofs.starting.flags_of.Goals as goal

pub new-requires : goal.new-requires
new-requires c =
    let layout : Layout = record { plans = c.args.plans; leaves = c.args.leaves; pollers = c.args.tasks; seats = c.args.seats } in
    shaped layout c.in_ok-states.states _ c.in_ok-shape.shape c.in_ok-states.ensures c.as_slice.ensures c.in_ok-shape.ensures c.requires.plans c.requires.some_source c.requires.some_seat c.requires.leaves c.requires.tasks

pub returns : goal.returns
returns c =
    let layout : Layout = record { plans = c.args.plans; leaves = c.args.leaves; pollers = c.args.tasks; seats = c.args.seats } in
    IfOk-weaker c.new.result _ _ (λ made is. seated layout c.in_ok-states.states _ c.in_ok-shape.shape c.in_ok-states.ensures c.as_slice.ensures c.in_ok-shape.ensures made.0 made.1 is) c.new.ensures
