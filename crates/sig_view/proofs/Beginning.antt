-- A view's task before its first poll, and what the polls before its first row answer.
use Rattle.std.proofs.Common.{◌≡◌, ◌∙◌, ℕ, zero, suc, ◌+◌, ◌<◌, ◌≤◌, ◌^◌, List, length, slice_get, replicate, true, false, Option, None, Some, refl, sym, ap, arith, zero-le, le_trans, slice_index}
use Rattle.std.proofs.lemmas.List.{length-replicate}
use Rattle.std.proofs.lemmas.Option.{slice_get_within}
use Rattle.sig_diff.specs.declared.contents.Content.{Content}
use Rattle.sig_expr.specs.Bounds.{cap_of}
use Rattle.sig_expr.specs.Leaves.{leaves}
use Rattle.sig_expr.specs.Shapes.{view_tree}
use Rattle.sig_expr.specs.Trees.{ViewTree}
use Rattle.sig_hist.specs.Ports.{IsSoundPort, PortState}
use Rattle.sig_view.proofs.Stepping.{keeps_looked, ready_again}
use Rattle.sig_walk.proofs.Leaving.{polled_by_looks}
use Rattle.sig_walk.proofs.AllTried.{is_there}
use Rattle.sig_walk.proofs.Fetched.{all_fetched}
use Rattle.sig_nodes.proofs.FirstRows.{leaf_within}
use Rattle.sig_rows.proofs.Numbering.{same_leaves, view_short, within_caps}
use Rattle.sig_view.specs.FirstPolls.{HasBegun}
use Rattle.sig_walk.specs.Fetching.{AreFetched, HasTried, LacksBy, at_start, content_in, is_missing, is_nothing}
use Rattle.sig_expr.specs.Lengths.{longest}
use Rattle.sig_nodes.specs.Nodes.{view_ops}
use Rattle.sig_view.specs.Polling.{HasFetched, IsPoll, IsSameTask}
use Rattle.sig_hist.specs.Ways.{AreWithin}
use Rattle.sig_rows.specs.SoundRows.{IsFirstRow, nothing_seen, seen_after, tags_of}
use Rattle.sig_nodes.specs.Starting.{IsViewStarted, leaf_length}
use Rattle.sig_view.specs.Tasks.{CanPoll, Holds, IsNew, IsReady, begun, contents_got, contents_of, ended, failed, has_row, is_lacking, positions_of, rows_given, sources_of, tags_at, view_of}
use Rattle.sig_walk.specs.Walking.{CanWalk, HasGone, IsFresh, seen_sources, set_out}
use Rattle.sig_nodes.specs.declared.nodes.ViewNode.{ViewNode}
use Rattle.sig_rows.specs.declared.rows.Row.{Row}
use Rattle.sig_view.specs.declared.task.Polled.TheVariants as polled
use Rattle.sig_view.specs.declared.task.Stage.{Stage}
use Rattle.sig_view.specs.declared.task.Stage.TheVariants.{Fetching, Following}
use Rattle.sig_view.specs.declared.task.ViewTask.{ViewTask}

-- ---- before the first poll

start_within : (s : PortState) (first count : ℕ) → AreWithin (seen_sources s first count) (replicate count 0)
start_within s first zero = tt
start_within s first (suc count) = (zero-le, start_within s (first + 1) count)

can_start : (s : PortState) (first count : ℕ) → IsSoundPort s → first + count < 2 ^ 64 → ((leaf : ℕ) → leaf < count → s.is_own (first + leaf) ≡ true) → CanWalk s (at_start first count)
can_start s first count sound numbers own =
    let none : ℕ = 0 in
    record {
      sound = sound;
      numbers = rw (length-replicate count none) numbers;
      own = λ leaf below. own leaf (rw (length-replicate count none) at below);
      within = rw (length-replicate count none) (start_within s first count);
      marks = length-replicate count _ ∙ sym (length-replicate count none);
    }

none_got : (count leaf : ℕ) (content : Content) → slice_get (replicate count None) leaf ≡ Some (Some content) → ⊥
none_got zero leaf content is = cc
none_got (suc count) zero content is = cc
none_got (suc count) (suc leaf) content is = none_got count leaf content is

pub ready_at_start : (s : PortState) (task : ViewTask) (first : ℕ) → longest (cap_of task.caps.value) (view_tree task.view) ≤ 65536 →
    task.walk ≡ at_start first (length (leaves (view_tree task.view))) → begun task.stage ≡ false → contents_got task.stage ≡ replicate (length (leaves (view_tree task.view))) None →
    CanPoll s task.view task.caps.value first → IsReady s task
ready_at_start s task first short walk fetching none port = record {
  is_task = record { short = short; leaf_each = rw walk (length-replicate {A = ℕ} _ 0) };
  port = rw walk port;
  can = rw walk (can_start s first (length (leaves (view_tree task.view))) port.sound port.numbers port.own);
  holds = holds_nothing task.stage fetching none;
}
  where
    holds_nothing : (stage : Stage) → begun stage ≡ false → contents_got stage ≡ replicate (length (leaves (view_tree task.view))) None → Holds (contents_of s task) (view_of task) stage
    holds_nothing (Fetching contents) is got = record {
      each = ap length got ∙ length-replicate _ None ∙ sym (same_leaves (view_tree task.view));
      fetched = λ leaf content found. absurd (none_got _ leaf content (rw got at found));
    }
    holds_nothing stage is got = absurd cc

-- ---- polls before the first row

-- whether a leaf is lacking
lacking_by : (stage : Stage) → begun stage ≡ false → (leaf : ℕ) (place : Option (Option Content)) → slice_get (contents_got stage) leaf ≡ place → is_lacking stage leaf ≡ is_nothing place
lacking_by (Fetching contents) before leaf None is = rw is refl
lacking_by (Fetching contents) before leaf (Some None) is = rw is refl
lacking_by (Fetching contents) before leaf (Some (Some content)) is = rw is refl
lacking_by stage before leaf place is = absurd cc

pub lacking_is : (stage : Stage) → begun stage ≡ false → (leaf : ℕ) → is_lacking stage leaf ≡ is_missing (contents_got stage) leaf
lacking_is stage before leaf = lacking_by stage before leaf (slice_get (contents_got stage) leaf) refl

-- no row was given, and nothing has failed or ended
no_row : (stage : Stage) → begun stage ≡ false → rows_given stage ≡ false
no_row (Fetching contents) is = refl
no_row stage is = absurd cc

no_failure : (stage : Stage) → begun stage ≡ false → failed stage ≡ false
no_failure (Fetching contents) is = refl
no_failure stage is = absurd cc

no_end : (stage : Stage) → begun stage ≡ false → ended stage ≡ false
no_end (Fetching contents) is = refl
no_end stage is = absurd cc

holds_fetched : (s : ℕ → Content) (view : ViewTree ℕ) (stage : Stage) → begun stage ≡ false → Holds s view stage → AreFetched s (length (leaves view)) (contents_got stage)
holds_fetched s view (Fetching contents) is holds = holds
holds_fetched s view stage is holds = absurd cc

fetched_holds : (s : ℕ → Content) (view : ViewTree ℕ) (stage : Stage) → begun stage ≡ false → AreFetched s (length (leaves view)) (contents_got stage) → Holds s view stage
fetched_holds s view (Fetching contents) is holds = holds
fetched_holds s view stage is holds = absurd cc

pub count_each : (s : PortState) (task : ViewTask) → IsReady s task → begun task.stage ≡ false → length (contents_got task.stage) ≡ length (positions_of task)
count_each s task ready before =
    (holds_fetched (contents_of s task) (view_of task) task.stage before ready.holds).each ∙ same_leaves (view_tree task.view) ∙ sym ready.is_task.leaf_each

-- the lists that the operators start on are short
pub starts_short : (t : PortState) (task : ViewTask) (contents : List (Option Content)) → IsReady t task → content_in contents ≡ contents_of t task → longest (leaf_length (content_in contents)) (view_of task) ≤ 65536
starts_short t task contents ready all =
    let view : ViewTree ℕ = view_tree task.view in
    let caps : ℕ → ℕ = cap_of task.caps.value in
    let lengths : ℕ → ℕ = leaf_length (contents_of t task) in
    let each : (leaf : ℕ) → leaf < length (leaves view) → lengths (0 + leaf) ≤ caps (slice_index (leaves view) leaf) = λ leaf within.
    let here : 0 + leaf ≡ leaf = omega arith in
    let fits : lengths leaf ≤ (t.plan (t.source (task.walk.first + leaf))).cap =
    leaf_within t task.walk.first (length task.walk.positions) leaf task.walk.positions ready.can.sound (omega (arith, within, ready.is_task.leaf_each)) in
    rw here (le_trans fits (ready.port.within_caps leaf within)) in
    rw all (le_trans (view_short caps lengths view (within_caps caps lengths 0 (leaves view) each)) ready.is_task.short)

module _ (s t : PortState) (old new : ViewTask) (ready : IsReady s old) (before : begun old.stage ≡ false) (same : IsSameTask old new) (gone : HasGone s t old.walk new.walk) where
  ready_after : Holds (contents_of t new) (view_of new) new.stage → IsReady t new
  ready_after holds = ready_again s t old new ready (keeps_looked s t gone.looked) same gone.leaves gone.can holds

  module _ (contents : List (Option Content)) (tried : HasTried s t (set_out old.walk) new.walk (contents_got old.stage) contents (length (contents_got old.stage))) where
    lacking_fresh : (leaf : ℕ) → is_missing (contents_got old.stage) leaf ≡ true → IsFresh s t new.walk leaf
    lacking_fresh leaf missing = tried.fresh leaf (slice_get_within (contents_got old.stage) leaf None (is_there _ missing)) missing

    has_fetched : HasFetched s t old new
    has_fetched = record {
      no_row = no_row old.stage before;
      stays = λ leaf is. tried.stays leaf (sym (lacking_is old.stage before leaf) ∙ is);
      fresh = λ leaf is. lacking_fresh leaf (sym (lacking_is old.stage before leaf) ∙ is);
    }

    same_count : length (contents_got old.stage) ≡ length (leaves (view_of new))
    same_count = rw same.view ((holds_fetched (contents_of s old) (view_of old) old.stage before ready.holds).each)

    -- where a leaf is lacking
    pub poll_again : {T : Type 0} (told : T) (word : ℕ) → begun new.stage ≡ false → contents_got new.stage ≡ contents → new.walk.held ≡ Some word → IsPoll {T = T} s t old new told (polled.Again word told)
    poll_again told word fetching got held =
        let lacks : LacksBy (Some word) contents (length (contents_got old.stage)) = rw held at tried.lacks in
        let are : AreFetched (contents_of t new) (length (leaves (view_of new))) contents = rw same_count at tried.are in
        let row : has_row old ≡ false = no_row old.stage before in
        record {
          ready = ready_after (fetched_holds (contents_of t new) (view_of new) new.stage fetching (rw got are));
          same = same;
          polled = polled_by_looks s t old.walk gone.looked;
          next = record {
            refused = sym (no_failure old.stage before);
            failed = rw (no_failure old.stage before) (no_failure new.stage fetching);
            ended = no_end new.stage fetching;
            row = rw (no_row old.stage before) (no_row new.stage fetching);
          };
          answer_is = record {
            held_up = rw row (has_fetched, (lacks.0, lacking_is new.stage fetching lacks.0 ∙ rw got lacks.2));
            same_token = refl;
            first_held = sym held ∙ tried.held;
          };
        }

    -- where none is, the lists that the operators start on are short
    count_now : length (contents_got old.stage) ≡ length new.walk.positions
    count_now = count_each s old ready before ∙ sym gone.leaves

    all_there : new.walk.held ≡ None → content_in contents ≡ contents_of t new
    all_there held =
        let lacks : LacksBy None contents (length (contents_got old.stage)) = rw held at tried.lacks in
        let are : AreFetched (contents_of t new) (length new.walk.positions) contents = rw count_now at tried.are in
        let none : (leaf : ℕ) → leaf < length new.walk.positions → is_missing contents leaf ≡ false = rw count_now at lacks in
        all_fetched t new.walk.first new.walk.positions contents are none

    pub short_first : begun new.stage ≡ false → contents_got new.stage ≡ contents → new.walk.held ≡ None → longest (leaf_length (content_in contents)) (view_of new) ≤ 65536
    short_first fetching got held =
        let are : AreFetched (contents_of t new) (length (leaves (view_of new))) contents = rw same_count at tried.are in
        starts_short t new contents (ready_after (fetched_holds (contents_of t new) (view_of new) new.stage fetching (rw got are))) (all_there held)

    -- and the first row is given
    pub poll_first : {T : Type 0} (told : T) (node : ViewNode) (row : Row) → new.stage ≡ Following node → new.walk.held ≡ None → row.at ≡ new.walk.positions →
        IsViewStarted (content_in contents) (view_of new) (view_ops node) row.body → IsPoll {T = T} s t old new told (polled.Batch row told None)
    poll_first told node row is held at started =
        let all : content_in contents ≡ contents_of t new = all_there held in
        let stands : IsViewStarted (contents_of t new) (view_of new) (view_ops node) row.body = rw all at started in
        let first : IsFirstRow (view_of old) (sources_of t new) row = record { within = rw at gone.can.within; whole = rw at (rw same.view at stands.body_is) } in
        let no_row_yet : has_row old ≡ false = no_row old.stage before in
        let tags : tags_of (seen_after (nothing_seen (view_of old)) row.body) ≡ tags_at new = rw is (rw same.view at stands.tags) in
        record {
          ready = ready_after (rw is (stands.tree_is, stands.stands));
          same = same;
          polled = polled_by_looks s t old.walk gone.looked;
          next = record { refused = sym (no_failure old.stage before); failed = rw (is, no_failure old.stage before) refl; ended = rw is refl; row = rw (is, no_row old.stage before) refl };
          answer_is = record { at = at; sound = rw no_row_yet (first, has_fetched, tags); same_token = refl; first_held = sym held ∙ tried.held };
        }

module _ (s t : PortState) (old new : ViewTask) (begun_is : HasBegun s t old new) where
  pub short_begun : new.walk.held ≡ None → longest (leaf_length (content_in (contents_got new.stage))) (view_of new) ≤ 65536
  short_begun held = short_first s t old new begun_is.ready begun_is.before begun_is.same begun_is.gone (contents_got new.stage) begun_is.tried begun_is.fetching refl held

  -- there is a place for each leaf
  pub room_begun : length (leaves (view_tree new.view)) ≤ length (contents_got new.stage)
  room_begun =
      let was = count_each s old begun_is.ready begun_is.before in
      let is = begun_is.tried.are.each in
      let leaf_each = begun_is.ready.is_task.leaf_each in
      rw begun_is.same.view (omega (arith, was, is, leaf_each))

  pub again_begun : {T : Type 0} (told : T) (word : ℕ) → new.walk.held ≡ Some word → IsPoll {T = T} s t old new told (polled.Again word told)
  again_begun told word held = poll_again s t old new begun_is.ready begun_is.before begun_is.same begun_is.gone (contents_got new.stage) begun_is.tried told word begun_is.fetching refl held

-- ---- the start

all_missing : (count leaf : ℕ) → leaf < count → is_missing (replicate count None) leaf ≡ true
all_missing zero leaf within = absurd (omega (arith, within))
all_missing (suc count) zero within = refl
all_missing (suc count) (suc leaf) within = all_missing count leaf (omega (arith, within))

pub new_at_start : (task : ViewTask) (first : ℕ) → longest (cap_of task.caps.value) (view_tree task.view) ≤ 65536 → task.walk ≡ at_start first (length (leaves (view_tree task.view))) →
    begun task.stage ≡ false → contents_got task.stage ≡ replicate (length (leaves (view_tree task.view))) None → IsNew task.view task.caps.value first task
new_at_start task first short walk fetching none = record {
  expression = refl;
  first_leaf = rw walk refl;
  no_row = no_row task.stage fetching;
  goes_on = no_end task.stage fetching;
  works = no_failure task.stage fetching;
  lacks = λ leaf within. lacking_is task.stage fetching leaf ∙ ap (λ (contents : List (Option Content)). is_missing contents leaf) none ∙ all_missing (length (leaves (view_tree task.view))) leaf within;
  ready = λ s can. ready_at_start s task first short walk fetching none can;
}
