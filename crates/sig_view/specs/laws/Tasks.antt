-- What holds of a task and of a watched view between two polls.
use Rattle.std.specs.Prelude.{◌≡◌}
use Rattle.sig_hist.specs.Ports.{PortState}
use Rattle.sig_view.specs.Tasks.{IsReady, contents_of}
use Rattle.sig_view.specs.Watching.{IsWatching}
use Rattle.sig_view.specs.declared.watching.WatchedView.{WatchedView}
use Rattle.sig_view.specs.declared.task.ViewTask.{ViewTask}
use Rattle.sig_walk.specs.Walking.{HasSeenMore}

-- it stays ready as its port sees more, and its leaves hold at their positions what they held
abbrev pub StaysReady : ViewTask → Type 0
StaysReady task = (s t : PortState) → HasSeenMore s t → IsReady s task → IsReady t task × (contents_of t task ≡ contents_of s task)

-- its rows stay sound as its port sees more
abbrev pub StaysSound : WatchedView → Type 0
StaysSound view = (s t : PortState) → HasSeenMore s t → IsWatching s view → IsWatching t view
