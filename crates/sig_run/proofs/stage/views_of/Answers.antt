use Rattle.std.proofs.Common.{◌≤◌, length, ap, sym, subst}
use Rattle.sig_expr.specs.Bounds.{cap_of}
use Rattle.sig_expr.specs.Leaves.{leaves}
use Rattle.sig_expr.specs.Shapes.{view_tree}
use Rattle.sig_run.proofs.Sizing.{next_short, rest_sized}
use Rattle.sig_run.proofs.Starting.{first_next, fresh_next}
use Rattle.sig_run.proofs.stage.views_of.Goals as goal
use Rattle.sig_view.specs.Watching.{IsUnpolled}
use Rattle.sig_script.specs.declared.types.ViewDef.{ViewDef}
use Rattle.sig_expr.specs.Lengths.{longest}

pub watch-requires : goal.watch-requires
watch-requires c =
    subst (λ (def : ViewDef). longest (cap_of c.args.caps.now) (view_tree def.view) ≤ 65536) (sym c.def-item.is)
    (next_short (cap_of c.args.caps.now) c.views.def-index c.args.defs.now c.def-item.result c.views.invariant.0 c.views-test.true)

pub views-preserved : goal.views-preserved
views-preserved c =
    let defs = c.args.defs.now in
    let place = c.views.def-index in
    let def = c.def-item.result in
    let fresh = subst (λ (def : ViewDef). IsUnpolled def.view c.args.caps.now c.views.first c.in_ok-watch.field-0) c.def-item.is c.in_ok-watch.ensures in
    let goes = rw (ap (λ (def : ViewDef). length (leaves (view_tree def.view))) c.def-item.is) at c.in_ok-first.ensures in (
      rest_sized (cap_of c.args.caps.now) place defs def c.views.invariant.0 c.views-test.true,
      first_next defs place c.views.first c.in_ok-first.first def c.views-test.true c.views.invariant.1 goes,
      rw c.in_ok-push.ensures.items (fresh_next c.args.caps.now defs place c.views.first def c.views.views.items c.in_ok-watch.field-0 c.views-test.true c.views.invariant.1 c.views.invariant.2 fresh),
    )
