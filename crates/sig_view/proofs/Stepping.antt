-- A walk over all leaves after the first row: what it needs, and what it leaves.
use Rattle.std.proofs.Common.{◌≡◌, ◌∙◌, ℕ, suc, ◌+◌, ◌<◌, ◌≤◌, List, [], ◌∷◌, length, slice_index, true, false, Option, None, Some, refl, sym, ap, arith, le_trans}
use Rattle.sig_diff.specs.declared.contents.Content.{Content}
use Rattle.sig_expr.specs.Awaited.{awaits}
use Rattle.sig_expr.specs.Bounds.{cap_of}
use Rattle.sig_expr.specs.Leaves.{leaves}
use Rattle.sig_expr.specs.Shapes.{view_tree}
use Rattle.sig_expr.specs.Trees.{ViewTree, signal_view, vector_view, map_view, entries_view, tagged_view}
use Rattle.sig_hist.specs.Ports.{PortState}
use Rattle.sig_hist.specs.Sources.{AreDistinct, Source}
use Rattle.sig_ops.specs.Enumerating.{Enumeration}
use Rattle.sig_rows.proofs.Showing.{next_reaches, next_row}
use Rattle.sig_rows.proofs.Still.{still_list}
use Rattle.sig_rows.proofs.Numbering.{has_leaves as all_leaves, leaves_differ, view_short, within_caps}
use Rattle.sig_hist.specs.Changes.{IsInOrder}
use Rattle.sig_walk.proofs.Newer.{risen_news}
use Rattle.sig_walk.proofs.Staying.{same_contents, seen_in_order, source_of_leaf}
use Rattle.sig_hist.specs.Ways.{Way, GoOn, contents_at, leaf_source, ways}
use Rattle.sig_rows.specs.Flow.{flow, tags_after, with_tags}
use Rattle.sig_view.specs.GoingOn.{HasLost, HasStepped, failed_now}
use Rattle.sig_expr.specs.Lengths.{longest}
use Rattle.sig_nodes.specs.Nodes.{ViewStands, op_tags, view_tree_of}
use Rattle.sig_rows.specs.SoundRows.{IsNextRow, IsShownBy, Seen, seen_after, tags_of}
use Rattle.sig_view.specs.Polling.{IsSameTask}
use Rattle.sig_view.specs.Tasks.{CanPoll, Holds, IsReady, IsTask, contents_of, ended, failed, following, is_following, ops_of, positions_of, rows_given, sources_of, tags_at, view_of}
use Rattle.sig_walk.specs.Walking.{CanWalk, HasGone, HasLeaves, HasLooked, HasNews, HasWalked, Progress, cap_at, set_out, sources_in}
use Rattle.sig_rows.specs.declared.rows.Body.{Body}
use Rattle.sig_view.specs.declared.task.Stage.{Stage}
use Rattle.sig_view.specs.declared.task.Stage.TheVariants.{Fetching, Following, Ended, Failed}
use Rattle.sig_view.specs.declared.task.ViewTask.{ViewTask}

-- ---- stages

module _ (s : ℕ → Content) (view : ViewTree ℕ) where
  pub tree_held : (stage : Stage) → following stage ≡ true → Holds s view stage → view_tree_of (ops_of stage) ≡ view
  tree_held (Following node) is holds = holds.0
  tree_held (Fetching contents) is holds = cc
  tree_held Ended is holds = cc
  tree_held (Failed rows) is holds = cc

  pub follows_holds : (stage : Stage) → following stage ≡ true → view_tree_of (ops_of stage) ≡ view → ViewStands s (ops_of stage) → Holds s view stage
  follows_holds (Following node) is tree stands = (tree, stands)
  follows_holds (Fetching contents) is tree stands = cc
  follows_holds Ended is tree stands = tt
  follows_holds (Failed rows) is tree stands = tt

-- a stage after the first row is neither the end nor a failure
pub record IsUnderway (stage : Stage) : Type 0 where
  pub rows : rows_given stage ≡ true
  pub no_end : ended stage ≡ false
  pub no_failure : failed stage ≡ false

pub underway : (stage : Stage) → following stage ≡ true → IsUnderway stage
underway (Following node) is = record { rows = refl; no_end = refl; no_failure = refl }
underway (Fetching contents) is = cc
underway Ended is = cc
underway (Failed rows) is = cc

-- ---- the leaves of a task

module _ (task : ViewTask) (is : IsTask task) where
  pub has_leaves : (tree : ViewTree ℕ) → tree ≡ view_of task → HasLeaves task.walk (leaves tree)
  has_leaves tree same = rw same (all_leaves (view_tree task.view) (length (positions_of task)) is.leaf_each)

  pub are_apart : (tree : ViewTree ℕ) → tree ≡ view_of task → AreDistinct (leaves tree)
  are_apart tree same = rw same (leaves_differ (view_tree task.view))

  pub short_now : (s : PortState) (tree : ViewTree ℕ) → CanPoll s task.view task.caps.value task.walk.first → tree ≡ view_of task → longest (cap_at (sources_of s task)) tree ≤ 65536
  short_now s tree port same =
      let view : ViewTree ℕ = view_tree task.view in
      let caps : ℕ → ℕ = cap_of task.caps.value in
      let others : ℕ → ℕ = cap_at (sources_of s task) in
      let each : (leaf : ℕ) → leaf < length (leaves view) → others (0 + leaf) ≤ caps (slice_index (leaves view) leaf) = λ leaf within.
      let here : 0 + leaf ≡ leaf = omega arith in
      let source : others leaf ≡ (s.plan (s.source (task.walk.first + leaf))).cap =
      ap (λ (source : Source). source.plan.cap) (source_of_leaf s task.walk.first (length (positions_of task)) leaf (omega (arith, within, is.leaf_each))) in
      rw (here, source) (port.within_caps leaf within) in
      rw same (le_trans (view_short caps others view (within_caps caps others 0 (leaves view) each)) is.short)

-- ---- tasks that are ready

-- what a task needs of its port stays
pub record KeepsPort (s t : PortState) : Type 0 where
  pub is_own : t.is_own ≡ s.is_own
  pub source : t.source ≡ s.source
  pub task : t.task ≡ s.task
  pub plan : t.plan ≡ s.plan

-- the task with another walk and stage
abbrev pub moved_on : ViewTask → Progress → Stage → ViewTask
moved_on task walk stage = record task { walk = walk; stage = stage }

pub ready_again : (s t : PortState) (old new : ViewTask) → IsReady s old → KeepsPort s t → IsSameTask old new → length (positions_of new) ≡ length (positions_of old) → CanWalk t new.walk →
    Holds (contents_of t new) (view_of new) new.stage → IsReady t new
ready_again s t old new ready keeps same leaves can holds =
    let port = ready.port in
    record {
      is_task = record { short = rw (same.view, same.caps) ready.is_task.short; leaf_each = rw same.view (leaves ∙ ready.is_task.leaf_each) };
      port = record {
        sound = can.sound;
        numbers = rw (same.first, same.view) port.numbers;
        own = λ leaf within. rw (keeps.is_own, same.first) (port.own leaf (rw same.view at within));
        one_task = λ leaf within. rw (keeps.task, same.first) (port.one_task leaf (rw same.view at within));
        within_caps = λ leaf within. rw (keeps.plan, keeps.source, same.first, same.view, same.caps) (port.within_caps leaf (rw same.view at within));
      };
      can = can;
      holds = holds;
    }

pub keeps_looked : (s t : PortState) → HasLooked s t → KeepsPort s t
keeps_looked s t looked = record { is_own = looked.is_own; source = looked.source; task = looked.task; plan = looked.plan }

-- all leaves were taken along
module _ (s t : PortState) (old : ViewTask) (walk : Progress) (stage : Stage) (follows : is_following old ≡ true) (ready : IsReady s old) (gone : HasGone s t old.walk walk) where
  old_tree : view_tree_of (ops_of old.stage) ≡ view_of old
  old_tree = tree_held (contents_of s old) (view_of old) old.stage follows ready.holds

  pub stepped : (body : Body) → HasWalked s t (set_out old.walk) walk (awaits (contents_at (sources_in t walk) walk.positions) (view_tree_of (ops_of old.stage))) →
      body ≡ with_tags (op_tags (ops_of old.stage)) (flow (ways (sources_in t walk) old.walk.positions walk.positions) (view_tree_of (ops_of old.stage))) →
      op_tags (ops_of stage) ≡ tags_after (op_tags (ops_of old.stage)) (flow (ways (sources_in t walk) old.walk.positions walk.positions) (view_tree_of (ops_of old.stage))) →
      ViewStands (contents_at (sources_in t walk) walk.positions) (ops_of stage) → view_tree_of (ops_of stage) ≡ view_tree_of (ops_of old.stage) → following stage ≡ true → HasStepped s t old (moved_on old walk stage) body
  stepped body walked flow_is tags stands tree still = record {
    looked = gone.looked;
    ready = ready_again s t old (moved_on old walk stage) ready (keeps_looked s t gone.looked) (record { view = refl; caps = refl; first = gone.first }) gone.leaves gone.can
        (follows_holds (contents_at (sources_in t walk) walk.positions) (view_of old) stage still (tree ∙ old_tree) stands);
    same = record { view = refl; caps = refl; first = gone.first };
    follows = still;
    walked = rw old_tree at walked;
    flow_is = rw old_tree at flow_is;
    tags = rw old_tree at tags;
  }

  pub lost : HasNews t old.walk → HasLost s t old (moved_on old walk (Failed true))
  lost news = record {
    looked = gone.looked;
    ready = ready_again s t old (moved_on old walk (Failed true)) ready (keeps_looked s t gone.looked) (record { view = refl; caps = refl; first = gone.first }) gone.leaves gone.can tt;
    same = record { view = refl; caps = refl; first = gone.first };
    failed = refl;
    row = refl;
    goes_on = refl;
    news = news;
  }

-- ---- rows

-- a list with tags makes none where its leaves stay
nothing_made : (view : ViewTree ℕ) (way : ℕ → Way) → ((leaf : ℕ) → (way leaf).from ≡ (way leaf).to) → (tags : Option Enumeration) → tags_after tags (flow way view) ≡ tags
nothing_made (signal_view e) way still None = refl
nothing_made (signal_view e) way still (Some op) = refl
nothing_made (vector_view e) way still None = refl
nothing_made (vector_view e) way still (Some op) = rw (still_list way still e) refl
nothing_made (map_view m) way still None = refl
nothing_made (map_view m) way still (Some op) = refl
nothing_made (entries_view m) way still None = refl
nothing_made (entries_view m) way still (Some op) = refl
nothing_made (tagged_view e) way still None = refl
nothing_made (tagged_view e) way still (Some op) = rw (still_list way still e) refl

pub go_on_length : (from to : List ℕ) → GoOn from to → length to ≡ length from
go_on_length [] [] goes = refl
go_on_length (old ∷ from) (new ∷ to) goes = ap suc (go_on_length from to goes.1)
go_on_length [] (new ∷ to) goes = absurd goes
go_on_length (old ∷ from) [] goes = absurd goes

module _ (s t : PortState) (old new : ViewTask) (body : Body) (ready : IsReady s old) (stepped : HasStepped s t old new body) where
  -- the leaves hold what they held
  pub before_is : contents_at (sources_of t new) (positions_of old) ≡ contents_of s old
  before_is =
      let leaves : length (positions_of new) ≡ length (positions_of old) = go_on_length (positions_of old) (positions_of new) stepped.walked.goes_on in
      rw (stepped.same.first, leaves) (same_contents s t stepped.looked old.walk.first (length (positions_of old)) (positions_of old) ready.can.within)

  module _ (seen : Seen) (shows_it : IsShownBy (view_of old) (contents_of s old) seen) (same_tags : tags_of seen ≡ tags_at old) where
    in_order : (leaf : ℕ) → IsInOrder (leaf_source (sources_of t new) leaf).plan.start
    in_order = seen_in_order t stepped.ready.can.sound new.walk.first (length (positions_of new))

    showed : IsShownBy (view_of old) (contents_at (sources_of t new) (positions_of old)) seen
    showed = record { kind = shows_it.kind; shows = rw before_is shows_it.shows; tags = shows_it.tags }

    body_is : body ≡ with_tags (tags_of seen) (flow (ways (sources_of t new) (positions_of old) (positions_of new)) (view_of old))
    body_is = rw same_tags stepped.flow_is

    pub sound_row : new.walk.moved ≡ true → IsNextRow (view_of old) (sources_of t new) (positions_of old) seen (positions_of new) body
    sound_row moved = rw body_is (next_row (view_of old) (sources_of t new) in_order (positions_of old) (positions_of new) stepped.walked.goes_on seen showed
        stepped.ready.can.within (stepped.walked.moves moved refl) stepped.walked.others)

    pub next_tags : tags_of (seen_after seen body) ≡ tags_at new
    next_tags = rw body_is ((next_reaches (view_of old) (sources_of t new) in_order (positions_of old) (positions_of new) stepped.walked.goes_on seen showed).follow
        ∙ ap (λ (tags : Option Enumeration). tags_after tags (flow (ways (sources_of t new) (positions_of old) (positions_of new)) (view_of old))) same_tags ∙ sym stepped.tags)

  -- memory was wanting for the row
  pub lost_after : (after : ViewTask) → after ≡ failed_now new → new.walk.moved ≡ true → HasLost s t old after
  lost_after after is moved =
      let leaves : length (positions_of new) ≡ length (positions_of old) = go_on_length (positions_of old) (positions_of new) stepped.walked.goes_on in
      let gone : HasGone s t old.walk new.walk = record { looked = stepped.looked; first = stepped.same.first; leaves = leaves; can = stepped.ready.can } in
      let news : HasNews t old.walk = risen_news gone stepped.walked.goes_on (stepped.walked.moves moved refl) in
      let keeps : KeepsPort t t = record { is_own = refl; source = refl; task = refl; plan = refl } in
      rw is (record {
        looked = stepped.looked;
        ready = ready_again t t new (failed_now new) stepped.ready keeps (record { view = refl; caps = refl; first = refl }) refl stepped.ready.can tt;
        same = record { view = stepped.same.view; caps = stepped.same.caps; first = stepped.same.first };
        failed = refl;
        row = refl;
        goes_on = refl;
        news = news;
      })

  -- where no leaf has gone on the tags stay
  pub tags_stay : new.walk.moved ≡ false → tags_at new ≡ tags_at old
  tags_stay still =
      stepped.tags ∙ nothing_made (view_of old) (ways (sources_of t new) (positions_of old) (positions_of new))
      (λ leaf. ap (λ (positions : List ℕ). slice_index positions leaf) (sym (stepped.walked.stays still).1)) (tags_at old)
