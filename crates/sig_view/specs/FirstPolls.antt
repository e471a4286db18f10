-- A poll before the first row, after its fetches.
use Rattle.std.specs.Prelude.{◌≡◌, length, false}
use Rattle.sig_hist.specs.Ports.{PortState}
use Rattle.sig_walk.specs.Fetching.{HasTried}
use Rattle.sig_view.specs.Polling.{IsSameTask}
use Rattle.sig_view.specs.Tasks.{IsReady, begun, contents_got}
use Rattle.sig_walk.specs.Walking.{HasGone, set_out}
use Rattle.sig_view.specs.declared.task.ViewTask.{ViewTask}

-- each leaf that was missing was tried, and the task is still before its first row
pub record HasBegun (s t : PortState) (old new : ViewTask) : Type 0 where
  pub ready : IsReady s old
  pub before : begun old.stage ≡ false
  pub same : IsSameTask old new
  pub gone : HasGone s t old.walk new.walk
  pub fetching : begun new.stage ≡ false
  pub tried : HasTried s t (set_out old.walk) new.walk (contents_got old.stage) (contents_got new.stage) (length (contents_got old.stage))
