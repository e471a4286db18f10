-- What holds of a view's task between two polls.
use Rattle.std.specs.Prelude.{◌≡◌, ℕ, ◌+◌, ◌<◌, ◌≤◌, ◌^◌, List, [], length, slice_get, slice_index, Bool, true, false, Option, None, Some}
use Rattle.sig_diff.specs.declared.contents.Content.{Content}
use Rattle.sig_expr.specs.Bounds.{cap_of}
use Rattle.sig_expr.specs.Leaves.{leaves, numbered}
use Rattle.sig_expr.specs.Shapes.{view_tree}
use Rattle.sig_expr.specs.Trees.{ViewTree, map_source}
use Rattle.sig_expr.specs.declared.expressions.View.{View}
use Rattle.sig_hist.specs.Ports.{IsSoundPort, PortState}
use Rattle.sig_hist.specs.Sources.{Source}
use Rattle.sig_ops.specs.Enumerating.{Enumeration}
use Rattle.sig_walk.specs.Fetching.{AreFetched}
use Rattle.sig_expr.specs.Lengths.{longest}
use Rattle.sig_nodes.specs.Nodes.{ViewOps, ViewStands, map, op_tags, view_ops, view_tree_of}
use Rattle.sig_hist.specs.Ways.{contents_at}
use Rattle.sig_walk.specs.Walking.{CanWalk, sources_in}
use Rattle.sig_view.specs.declared.task.Stage.{Stage}
use Rattle.sig_view.specs.declared.task.Stage.TheVariants.{Fetching, Following, Ended, Failed}
use Rattle.sig_view.specs.declared.task.ViewTask.{ViewTask}

-- ---- what is seen of a task

-- its expression, each leaf by its number
abbrev pub view_of : ViewTask → ViewTree ℕ
view_of task = numbered (view_tree task.view)

-- the view as it was given, and the port's number of its first leaf
abbrev pub expression_of : ViewTask → View
expression_of task = task.view

abbrev pub first_of : ViewTask → ℕ
first_of task = task.walk.first

abbrev pub positions_of : ViewTask → List ℕ
positions_of task = task.walk.positions

-- the sources of its leaves, as far as the port has seen them
abbrev pub sources_of : PortState → ViewTask → List Source
sources_of s task = sources_in s task.walk

-- what its leaves hold at their positions
abbrev pub contents_of : PortState → ViewTask → ℕ → Content
contents_of s task = contents_at (sources_of s task) (positions_of task)

abbrev pub ended : Stage → Bool
ended Ended = true
ended stage = false

abbrev pub failed : Stage → Bool
failed (Failed rows) = true
failed stage = false

abbrev pub rows_given : Stage → Bool
rows_given (Fetching contents) = false
rows_given (Failed rows) = rows
rows_given stage = true

-- its view has ended; a poll of it found no memory; a row was given
abbrev pub is_ended : ViewTask → Bool
is_ended task = ended task.stage

abbrev pub is_failed : ViewTask → Bool
is_failed task = failed task.stage

abbrev pub has_row : ViewTask → Bool
has_row task = rows_given task.stage

-- it has left the stage before the first row; it is in the one after it
abbrev pub begun : Stage → Bool
begun (Fetching contents) = false
begun stage = true

abbrev pub following : Stage → Bool
following (Following node) = true
following stage = false

abbrev pub is_begun : ViewTask → Bool
is_begun task = begun task.stage

abbrev pub is_following : ViewTask → Bool
is_following task = following task.stage

-- the operators of a stage after the first row
abbrev pub ops_of : Stage → ViewOps
ops_of (Following node) = view_ops node
ops_of stage = map (map_source 0)

-- the elements with their tags as its operators have them, where they have tags
abbrev pub tags_at : ViewTask → Option Enumeration
tags_at task = op_tags (ops_of task.stage)

-- the contents before the first row
abbrev pub contents_got : Stage → List (Option Content)
contents_got (Fetching contents) = contents.items
contents_got stage = []

-- whether a leaf is still to be fetched for the first row
abbrev pub is_lacking : Stage → ℕ → Bool
is_lacking (Fetching contents) leaf = lacks (slice_get contents.items leaf)
  where
    lacks : Option (Option Content) → Bool
    lacks (Some None) = true
    lacks _ = false
is_lacking stage leaf = false

abbrev pub lacks_leaf : ViewTask → ℕ → Bool
lacks_leaf task leaf = is_lacking task.stage leaf

-- ---- ports that a view can be polled on

-- the view's leaves are the port's from this one on, all of one task, and the cap of each leaf's source is at most the one that was named
pub record CanPoll (s : PortState) (view : View) (caps : List ℕ) (first : ℕ) : Type 0 where
  pub sound : IsSoundPort s
  pub numbers : first + length (leaves (view_tree view)) < 2 ^ 64
  pub own : (leaf : ℕ) → leaf < length (leaves (view_tree view)) → s.is_own (first + leaf) ≡ true
  pub one_task : (leaf : ℕ) → leaf < length (leaves (view_tree view)) → s.task (first + leaf) ≡ s.task first
  pub within_caps : (leaf : ℕ) → leaf < length (leaves (view_tree view)) → (s.plan (s.source (first + leaf))).cap ≤ cap_of caps (slice_index (leaves (view_tree view)) leaf)

-- ---- between two polls

-- what the task has of the leaves' contents: before the first row a place for each, with those that were fetched, and then the operators' own
abbrev pub Holds : (ℕ → Content) → ViewTree ℕ → Stage → Type 0
Holds s view (Fetching contents) = AreFetched s (length (leaves view)) contents.items
Holds s view (Following node) = (view_tree_of (view_ops node) ≡ view) × ViewStands s (view_ops node)
Holds s view stage = Unit {0}

pub record IsTask (task : ViewTask) : Type 0 where
  pub short : longest (cap_of task.caps.value) (view_tree task.view) ≤ 65536
  pub leaf_each : length (positions_of task) ≡ length (leaves (view_tree task.view))

pub record IsReady (s : PortState) (task : ViewTask) : Type 0 where
  pub is_task : IsTask task
  pub port : CanPoll s task.view task.caps.value task.walk.first
  pub can : CanWalk s task.walk
  pub holds : Holds (contents_of s task) (view_of task) task.stage

-- a task before its first poll
pub record IsNew (view : View) (caps : List ℕ) (first : ℕ) (task : ViewTask) : Type 0 where
  pub expression : expression_of task ≡ view
  pub first_leaf : first_of task ≡ first
  pub no_row : has_row task ≡ false
  pub goes_on : is_ended task ≡ false
  pub works : is_failed task ≡ false
  pub lacks : (leaf : ℕ) → leaf < length (leaves (view_tree view)) → lacks_leaf task leaf ≡ true
  pub ready : (s : PortState) → CanPoll s view caps first → IsReady s task
