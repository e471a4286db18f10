-- A task that is ready stays so as its port sees more between two polls.
use Rattle.std.proofs.Common.{◌≡◌, ℕ, length, sym, subst}
use Rattle.sig_diff.specs.declared.contents.Content.{Content}
use Rattle.sig_hist.specs.Ports.{PortState}
use Rattle.sig_walk.proofs.Later.{later_contents, later_within}
use Rattle.sig_walk.specs.Walking.{HasSeenMore}
use Rattle.sig_view.specs.Tasks.{Holds, IsReady, contents_of, view_of}
use Rattle.sig_view.specs.declared.task.ViewTask.{ViewTask}

module _ (s t : PortState) (more : HasSeenMore s t) where
  pub same_holds : (task : ViewTask) → IsReady s task → contents_of t task ≡ contents_of s task
  same_holds task is = later_contents s t more task.walk.first (length task.walk.positions) task.walk.positions is.can.within

  pub ready_later : (task : ViewTask) → IsReady s task → IsReady t task
  ready_later task is = record {
    is_task = is.is_task;
    port = record {
      sound = more.sound;
      numbers = is.port.numbers;
      own = λ leaf within. rw more.is_own (is.port.own leaf within);
      one_task = λ leaf within. rw more.task (is.port.one_task leaf within);
      within_caps = λ leaf within. rw (more.plan, more.source) (is.port.within_caps leaf within);
    };
    can = record {
      sound = more.sound;
      numbers = is.can.numbers;
      own = λ leaf within. rw more.is_own (is.can.own leaf within);
      within = later_within s t more task.walk.first (length task.walk.positions) task.walk.positions is.can.within;
      marks = is.can.marks;
    };
    holds = subst (λ (contents : ℕ → Content). Holds contents (view_of task) task.stage) (sym (same_holds task is)) is.holds;
  }
