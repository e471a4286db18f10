-- How a watched view stands for one of a play at one moment.
use Rattle.std.specs.Prelude.{◌≡◌, ℕ, ◌+◌, ◌<◌, List, [], length, map, get_or, slice_index, true, false, if◌then◌else◌}
use Rattle.sig_expr.specs.Leaves.{leaves}
use Rattle.sig_expr.specs.Shapes.{view_tree}
use Rattle.sig_expr.specs.Trees.{ViewTree}
use Rattle.sig_hist.specs.Plain.{OneThread, known, leaf_at, no_source}
use Rattle.sig_hist.specs.Sources.{Source}
use Rattle.sig_report.specs.Playing.{Watched}
use Rattle.sig_view.specs.Tasks.{expression_of, first_of, has_row, lacks_leaf, positions_of}
use Rattle.sig_view.specs.Watching.{IsWatching}
use Rattle.sig_view.specs.declared.watching.WatchedView.{WatchedView}

-- the sources of a view's leaves
abbrev pub sources_under : List Source → ViewTree ℕ → List Source
sources_under sources view = map (λ source. get_or sources source no_source) (leaves view)

abbrev pub tree_of : WatchedView → ViewTree ℕ
tree_of view = view_tree (expression_of view.task)

abbrev pub watched_of : WatchedView → Watched
watched_of view = record { at = if has_row view.task then positions_of view.task else []; rows = view.rows }

-- between two polls on the port of one thread, where no fetch is ever held up: before the first row each leaf is to be fetched
pub record IsFollowing (port : OneThread) (view : WatchedView) : Type 0 where
  pub watching : IsWatching (known port) view
  pub on_source : (leaf : ℕ) → leaf < length (positions_of view.task) → (leaf_at port (first_of view.task + leaf)).source ≡ slice_index (leaves (tree_of view)) leaf
  pub lacks : has_row view.task ≡ false → (leaf : ℕ) → leaf < length (positions_of view.task) → lacks_leaf view.task leaf ≡ true
