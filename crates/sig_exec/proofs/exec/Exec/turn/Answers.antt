use Rattle.std.proofs.Common.{◌≡◌, ◌∙◌, ℕ, List, count_by, sym, ap, subst}
use Rattle.std.specs.List.{list_any}
use Rattle.sig_hist.proofs.Knowing.{all_written}
use Rattle.sig_hub.specs.Polls.{port_of}
use Rattle.sig_exec.specs.Jobs.{HasWorkedAll, is_live, is_lost}
use Rattle.sig_exec.specs.declared.jobs.Work.{Work}
use Rattle.sig_exec.proofs.exec.Exec.turn.Goals as goal

pub returns-clause-turn : goal.returns-clause-turn
returns-clause-turn g c =
    let written = all_written c.self.inside.works.items c.turn_all-rows.new.works _ (c.turn_all-rows.auto.works ∙ c.as_mut_slice.ensures.len) in
    let start : c.as_mut_slice.result.now ≡ c.args.self.now = c.as_mut_slice.ensures.value ∙ c.self.view_is in
    let worked = subst (λ (works : List Work). HasWorkedAll (port_of c.args.pass.now) (port_of c.turn_all-rows.new.pass) works c.turn_all-rows.new.works c.turn_all-rows.result) start c.turn_all-rows.ensures.worked in
    let counted = subst (λ (rows : ℕ). HasWorkedAll (port_of c.args.pass.now) (port_of c.turn_all-rows.new.pass) c.args.self.now c.turn_all-rows.new.works rows) (sym c.turned.ensures.rows) worked in
    record {
      worked = subst (λ (works : List Work). HasWorkedAll (port_of c.args.pass.now) (port_of c.turn_all-rows.new.pass) c.args.self.now works c.turned.result.rows) (sym written) counted;
      live = c.turned.ensures.live ∙ ap (count_by is_live) c.as_slice.ensures.value;
      short = c.turned.ensures.short ∙ ap (list_any is_lost) c.as_slice.ensures.value;
    }
