-- What a poll does to a view that follows its sources on the port of one thread.
use Rattle.std.proofs.Common.{◌≡◌, ◌≢◌, ◌∙◌, ℕ, ◌+◌, ◌<◌, List, [], ◌∷◌, ◌++◌, length, map, get_or, slice_index, nat_eq, Bool, true, false, ◌||◌, if◌then◌else◌, Option, suc, refl, sym, ap, ap₂, subst, arith}
use Rattle.std.proofs.lemmas.Bool.{and_from, and_parts, eq-eqb}
use Rattle.std.proofs.lemmas.List.{append-nil, ext_get_or, length-map}
use Rattle.std.specs.Cmp.Lexicographic.{bytes_decides, pointwise, same_text}
use Rattle.sig_expr.specs.Leaves.{leaves, numbered}
use Rattle.sig_expr.specs.Shapes.{view_tree}
use Rattle.sig_expr.specs.Trees.{ViewTree}
use Rattle.sig_expr.specs.declared.expressions.View.{View}
use Rattle.sig_hist.proofs.Ways.{within_each}
use Rattle.sig_hist.specs.Histories.{is_closed}
use Rattle.sig_hist.specs.Plain.{OneThread, known, leaf_at, no_source, source_at}
use Rattle.sig_hist.specs.Sources.{Source, writers_of}
use Rattle.sig_hist.specs.Ways.{contents_at, leaf_source, ways}
use Rattle.sig_report.proofs.Advancing.{advanced_only}
use Rattle.sig_report.proofs.Events.{map_at}
use Rattle.sig_report.proofs.Numbering.{numbered_looks}
use Rattle.sig_report.proofs.Polls.{all_are_done, each_is_done, polled_is}
use Rattle.sig_report.specs.Playing.{Watched, advanced, is_at_end, polled, polled_later, with_row}
use Rattle.sig_rows.proofs.Numbering.{awaited_within}
use Rattle.sig_rows.specs.Flow.{first_body, flow, with_tags}
use Rattle.sig_rows.specs.SoundRows.{are_complete, is_awaited, nothing_seen, seen_of, tags_of}
use Rattle.sig_rows.specs.declared.rows.Body.{Body}
use Rattle.sig_rows.specs.declared.rows.Body.TheVariants.{Ended}
use Rattle.sig_rows.specs.declared.rows.Row.{Row}
use Rattle.sig_run.specs.Watching.{IsFollowing, sources_under, tree_of, watched_of}
use Rattle.sig_view.proofs.WatchedRows.{rows_show}
use Rattle.sig_view.specs.Polling.{HasStayed, IsEnd, IsRow, IsSameTask}
use Rattle.sig_view.specs.Tasks.{IsReady, expression_of, first_of, has_row, is_ended, positions_of, sources_of, view_of}
use Rattle.sig_view.specs.Watching.{HasRows, IsGiven, IsWatching, seen_by}
use Rattle.sig_view.specs.declared.watching.WatchedView.{WatchedView}
use Rattle.sig_view.specs.declared.task.Polled.TheVariants as answer
use Rattle.sig_view.specs.declared.task.ViewTask.{ViewTask}
use Rattle.sig_walk.proofs.Staying.{source_of_leaf}
use Rattle.sig_walk.specs.Walking.{IsFresh, is_seen_closed, seen_source, seen_sources}

-- ---- lists of leaves

or_true : (a : Bool) → (a || true) ≡ true
or_true true = refl
or_true false = refl

-- leaves from this one on, each on the source with its label
sources_are : (port : OneThread) (first : ℕ) (at labels : List ℕ) → length at ≡ length labels → ((leaf : ℕ) → leaf < length at → (leaf_at port (first + leaf)).source ≡ slice_index labels leaf) →
    seen_sources (known port) first (length at) ≡ map (source_at port) labels
sources_are port first [] [] long on = refl
sources_are port first [] (label ∷ labels) long on = absurd (omega (arith, long))
sources_are port first (position ∷ at) [] long on = absurd (omega (arith, long))
sources_are port first (position ∷ at) (label ∷ labels) long on =
    let here : first ≡ first + 0 = omega arith in
    ap₂ (λ (source : ℕ) (others : List Source). source_at port source ∷ others) (ap (λ (place : ℕ). (leaf_at port place).source) here ∙ on 0 (omega arith))
    (sources_are port (first + 1) at labels (omega (arith, long)) (λ leaf within.
    let later : first + 1 + leaf ≡ first + suc leaf = omega arith in
    ap (λ (place : ℕ). (leaf_at port place).source) later ∙ on (suc leaf) (omega (arith, within))))

-- ---- a later poll, by where the leaves go

module _ (view : ViewTree ℕ) (sources : List Source) (from at : List ℕ) (goes : at ≡ advanced view sources [] from) where
  -- by whether all leaves stay, and whether the view is at its end
  later_poll : (rows : List Row) (stays ends : Bool) → rows ≢ [] → are_complete rows ≡ false → pointwise nat_eq from at ≡ stays → is_at_end view sources at ≡ ends →
      let watched : Watched = record { at = from; rows = rows } in
      polled view sources watched ≡ (if stays then (if ends then with_row at Ended watched else watched) else with_row at (with_tags (tags_of (seen_of (nothing_seen view) rows)) (flow (ways sources from at) view)) watched)
  later_poll [] stays ends some incomplete still at_end = absurd (some refl)
  later_poll (first ∷ rows) stays ends some incomplete still at_end =
      let watched : Watched = record { at = from; rows = first ∷ rows } in
      polled_is view sources from first rows incomplete
      ∙ ap (λ (next : List ℕ). polled_later view sources next watched) (sym goes)
      ∙ ap₂ (λ (stays ends : Bool). if stays then (if ends then with_row at Ended watched else watched) else with_row at (with_tags (tags_of (seen_of (nothing_seen view) (first ∷ rows))) (flow (ways sources from at) view)) watched) still at_end

  moved_by : (stays : Bool) → pointwise nat_eq from at ≡ stays → at ≢ from → pointwise nat_eq from at ≡ false
  moved_by true still moves = absurd (moves (sym (same_text from at (sym still))))
  moved_by false still moves = still

-- the first poll
first_poll : (view : ViewTree ℕ) (sources : List Source) (at : List ℕ) (rows : List Row) (given : Body) → rows ≡ [] → at ≡ map (λ (source : Source). length source.history) sources → given ≡ first_body view (contents_at sources at) →
    with_row at given (record { at = []; rows = rows }) ≡ polled view sources (record { at = []; rows = rows })
first_poll view sources at rows given nothing ends whole = rw (nothing, whole, ends) refl

-- ---- the view

-- what a poll makes of a view
pub record IsPolled (port next : OneThread) (view later : WatchedView) : Type 0 where
  pub polled : watched_of later ≡ polled (numbered (tree_of view)) (sources_under port.sources (tree_of view)) (watched_of view)
  pub expression : expression_of later.task ≡ expression_of view.task
  pub following : IsFollowing next later

-- a poll that leaves this task
module _ (port next : OneThread) (view : WatchedView) (new : ViewTask) (is : IsFollowing port view) (same : next.sources ≡ port.sources) (open_ : is_ended view.task ≡ false)
    (ready : IsReady (known next) new) (same_task : IsSameTask view.task new) (same_leaves : (known next).source ≡ (known port).source) where
  abbrev tree : ViewTree ℕ
  tree = tree_of view

  abbrev from : List ℕ
  from = positions_of view.task

  abbrev at : List ℕ
  at = positions_of new

  abbrev sources : List Source
  sources = sources_of (known next) new

  abbrev IsFreshLeaf : ℕ → Type 0
  IsFreshLeaf leaf = IsFresh (known port) (known next) new.walk leaf

  incomplete : are_complete view.rows ≡ false
  incomplete = is.watching.complete ∙ open_

  same_tree : view_of new ≡ numbered tree
  same_tree = ap (λ (shown : View). numbered (view_tree shown)) same_task.view

  -- ---- its leaves

  as_many : length at ≡ length (leaves tree)
  as_many = ready.is_task.leaf_each ∙ ap (λ (shown : View). length (leaves (view_tree shown))) same_task.view

  still_on : (leaf : ℕ) → leaf < length at → (leaf_at next (first_of new + leaf)).source ≡ slice_index (leaves tree) leaf
  still_on leaf within =
      ap (λ (first : ℕ). (leaf_at next (first + leaf)).source) same_task.first
      ∙ ap (λ (source : ℕ → ℕ). source (first_of view.task + leaf)) same_leaves
      ∙ is.on_source leaf (omega (arith, within, as_many, is.watching.ready.is_task.leaf_each))

  old_sources : sources_of (known port) view.task ≡ sources_under port.sources tree
  old_sources = sources_are port (first_of view.task) from (leaves tree) is.watching.ready.is_task.leaf_each is.on_source

  new_sources : sources ≡ sources_under port.sources tree
  new_sources = sources_are next (first_of new) at (leaves tree) as_many still_on ∙ ap (λ (sources : List Source). sources_under sources tree) same

  its_source : (leaf : ℕ) → leaf < length at → leaf_source sources leaf ≡ seen_source (known next) (first_of new + leaf)
  its_source leaf within = source_of_leaf (known next) (first_of new) (length at) leaf within

  its_closed : (leaf : ℕ) → leaf < length at → is_closed (writers_of (leaf_source sources leaf).plan.allow) (leaf_source sources leaf).history ≡ is_seen_closed (known next) (first_of new + leaf)
  its_closed leaf within = ap (λ (source : Source). is_closed (writers_of source.plan.allow) source.history) (its_source leaf within)

  same_source : (leaf : ℕ) → seen_source (known next) leaf ≡ seen_source (known port) leaf
  same_source leaf = ap (λ (source : ℕ → ℕ). source_at next (source leaf)) same_leaves ∙ ap (λ (sources : List Source). get_or sources (leaf_at port leaf).source no_source) same

  -- no word is held and all there is was seen, so a leaf that was looked at is at its end
  at_end : (leaf : ℕ) → leaf < length at → IsFreshLeaf leaf → slice_index at leaf ≡ length (leaf_source sources leaf).history
  at_end leaf within fresh =
      let seen : leaf_source sources leaf ≡ seen_source (known port) (first_of new + leaf) = its_source leaf within ∙ same_source (first_of new + leaf) in
      omega (arith, fresh refl, within_each sources at ready.can.within leaf, ap (λ (source : Source). length source.history) seen)

  same_awaited : (leaf : ℕ) → is_awaited (view_of new) sources at leaf ≡ is_awaited (numbered tree) sources at leaf
  same_awaited leaf = ap (λ (view : ViewTree ℕ). is_awaited view sources at leaf) same_tree

  its_within : (leaf : ℕ) → is_awaited (numbered tree) sources at leaf ≡ true → leaf < length at
  its_within leaf awaited = omega (arith, as_many, awaited_within tree (contents_at sources at) leaf awaited)

  -- the awaited leaves are at their ends, and the others have stayed
  goes : ((leaf : ℕ) → is_awaited (view_of new) sources at leaf ≡ true → IsFreshLeaf leaf) → ((leaf : ℕ) → is_awaited (numbered tree) sources at leaf ≡ false → slice_index at leaf ≡ slice_index from leaf) →
      at ≡ advanced (numbered tree) sources [] from
  goes fresh stays =
      let count : length at ≡ length from = as_many ∙ sym is.watching.ready.is_task.leaf_each in
      advanced_only (numbered tree) (numbered_looks tree) sources from at (record { same_length = count; each = λ leaf within. each leaf (omega (arith, within, count)) _ refl })
    where
      each : (leaf : ℕ) → leaf < length at → (awaited : Bool) → is_awaited (numbered tree) sources at leaf ≡ awaited → slice_index at leaf ≡ (if awaited then length (leaf_source sources leaf).history else slice_index from leaf)
      each leaf within true awaited = at_end leaf within (fresh leaf (same_awaited leaf ∙ awaited))
      each leaf within false unawaited = stays leaf unawaited

  -- ---- the view after the poll, with these rows

  polled_by : (given : has_row new ≡ true) (rows : List Row) → IsWatching (known next) (record { task = new; rows = rows }) → record { at = at; rows = rows } ≡ polled (numbered tree) sources (watched_of view) →
      IsPolled port next view (record { task = new; rows = rows })
  polled_by given rows watching is_polled = record {
    polled = (λ i. record { at = if given i then at else []; rows = rows }) ∙ is_polled ∙ ap (λ (sources : List Source). polled (numbered tree) sources (watched_of view)) new_sources;
    expression = same_task.view;
    following = record {
      watching = watching;
      on_source = λ leaf within. still_on leaf within ∙ ap (λ (shown : View). slice_index (leaves (view_tree shown)) leaf) (sym same_task.view);
      lacks = λ none. cc;
    };
  }

  -- ---- a row

  module _ (row : Row) (at_is : row.at ≡ at) where
    -- it is the row of the definition
    abbrev IsRowPolled : Bool → Type 0
    IsRowPolled given = with_row at row.body (record { at = if given then from else []; rows = view.rows }) ≡ polled (numbered tree) sources (record { at = if given then from else []; rows = view.rows })

    -- before the first row each leaf was to be fetched
    module _ (none : has_row view.task ≡ false) (is_row : IsRow (known port) (known next) view.task new false row) where
      at_ends : at ≡ map (λ (source : Source). length source.history) sources
      at_ends =
          let count : length sources ≡ length (leaves tree) = ap length new_sources ∙ length-map (leaves tree) (source_at port) in
          ext_get_or 0 at _ (as_many ∙ sym count ∙ sym (length-map sources (λ (source : Source). length source.history))) (λ leaf within.
          at_end leaf within (is_row.1.fresh leaf (is.lacks none leaf (omega (arith, within, as_many, is.watching.ready.is_task.leaf_each))))
          ∙ sym (map_at (λ (source : Source). length source.history) sources leaf no_source))

    row_polled : (given : Bool) → has_row view.task ≡ given → HasRows given view → IsRow (known port) (known next) view.task new given row → IsRowPolled given
    row_polled false none has is_row =
        first_poll (numbered tree) sources at view.rows row.body has (at_ends none is_row) (is_row.0.whole ∙ ap (λ (at : List ℕ). first_body (numbered tree) (contents_at sources at)) at_is)
    row_polled true given has is_row =
        let next_row = is_row.sound (seen_by view) (rows_show (known port) view is.watching has) (has.2 open_) in
        let gone : at ≡ advanced (numbered tree) sources [] from = goes is_row.fresh (λ leaf unawaited.
        ap (λ (at : List ℕ). slice_index at leaf) (sym at_is) ∙ next_row.awaited leaf (ap (λ (at : List ℕ). is_awaited (numbered tree) sources at leaf) at_is ∙ unawaited)) in
        let moves : pointwise nat_eq from at ≡ false = moved_by (numbered tree) sources from at gone _ refl (λ stays. next_row.moves (at_is ∙ stays)) in
        let body : row.body ≡ with_tags (tags_of (seen_by view)) (flow (ways sources from at) (numbered tree)) =
        next_row.flow ∙ ap (λ (at : List ℕ). with_tags (tags_of (seen_by view)) (flow (ways sources from at) (numbered tree))) at_is in
        ap (λ (given : Body). with_row at given (record { at = from; rows = view.rows })) body
        ∙ sym (later_poll (numbered tree) sources from at gone view.rows false _ has.0 incomplete moves refl)

    row_gives : has_row new ≡ true → IsWatching (known next) (record { task = new; rows = view.rows ++ row ∷ [] }) → IsRow (known port) (known next) view.task new (has_row view.task) row →
        IsPolled port next view (record { task = new; rows = view.rows ++ row ∷ [] })
    row_gives given watching is_row =
        polled_by given (view.rows ++ row ∷ []) watching
        ((λ i. record { at = at; rows = view.rows ++ record { at = at_is i; body = row.body } ∷ [] }) ∙ row_polled (has_row view.task) refl is.watching.rows is_row)

  -- ---- no row

  -- the view has a row, and no leaf has gone on
  module _ (stayed : HasStayed (known port) (known next) view.task new) where
    has_some : view.rows ≢ []
    has_some = (rw stayed.row at is.watching.rows).0

    abbrev still : Watched
    still = record { at = from; rows = view.rows }

    watched_still : watched_of view ≡ still
    watched_still = λ i. record { at = if stayed.row i then from else []; rows = view.rows }

    rests_by : (ends : Bool) → is_at_end (numbered tree) sources at ≡ ends → polled (numbered tree) sources (watched_of view) ≡ (if ends then with_row at Ended still else still)
    rests_by ends over =
        let gone : at ≡ advanced (numbered tree) sources [] from = goes stayed.fresh (λ leaf unawaited. ap (λ (at : List ℕ). slice_index at leaf) stayed.stays) in
        let stays : pointwise nat_eq from at ≡ true = ap (pointwise nat_eq from) stayed.stays ∙ (bytes_decides from from).1 refl in
        ap (polled (numbered tree) sources) watched_still ∙ later_poll (numbered tree) sources from at gone view.rows true ends has_some incomplete stays over

    -- an awaited leaf can go on
    not_ended : (leaf : ℕ) (ends : Bool) → is_awaited (view_of new) sources at leaf ≡ true → is_seen_closed (known next) (first_of new + leaf) ≡ false → is_at_end (numbered tree) sources at ≡ ends → ends ≡ false
    not_ended leaf false awaited opens ends = refl
    not_ended leaf true awaited opens ends =
        let here = sym (same_awaited leaf) ∙ awaited in
        sym (and_parts _ _ (each_is_done (numbered tree) sources at leaf ends here)).1 ∙ its_closed leaf (its_within leaf here) ∙ opens

    rests : has_row new ≡ true → IsWatching (known next) (record { task = new; rows = view.rows }) → is_at_end (numbered tree) sources at ≡ false → IsPolled port next view (record { task = new; rows = view.rows })
    rests given watching opens = polled_by given view.rows watching ((λ i. record { at = stayed.stays i; rows = view.rows }) ∙ sym (rests_by false opens))

    all_ended : IsEnd (known port) (known next) view.task new → is_at_end (numbered tree) sources at ≡ true
    all_ended end =
        all_are_done (numbered tree) sources at (λ leaf awaited.
        let within = its_within leaf awaited in
        let before = same_awaited leaf ∙ awaited in
        and_from _ _ (eq-eqb _ _ (at_end leaf within (stayed.fresh leaf before))) (its_closed leaf within ∙ (end.ended leaf before).closed))

    abbrev last : Row
    last = record { at = at; body = Ended }

    ends : has_row new ≡ true → IsWatching (known next) (record { task = new; rows = view.rows ++ last ∷ [] }) → is_at_end (numbered tree) sources at ≡ true → IsPolled port next view (record { task = new; rows = view.rows ++ last ∷ [] })
    ends given watching at_last = polled_by given (view.rows ++ last ∷ []) watching (sym (rests_by true at_last))

-- ---- the answers

module _ {T : Type 0} (port next : OneThread) (view later : WatchedView) (told : T) (is : IsFollowing port view) (same : next.sources ≡ port.sources) (open_ : is_ended view.task ≡ false) where
  module _ (row : Row) (token : T) (held : Option ℕ) (given : IsGiven (known port) (known next) view later told (answer.Batch row token held) (row ∷ [])) where
    pub row_polls : IsPolled port next view later
    row_polls =
        let poll = given.poll in
        let watching : IsWatching (known next) (record { task = later.task; rows = view.rows ++ row ∷ [] }) = subst (λ (rows : List Row). IsWatching (known next) (record { task = later.task; rows = rows })) given.rows given.watching in
        let polls : IsPolled port next view (record { task = later.task; rows = view.rows ++ row ∷ [] }) =
        row_gives port next view later.task is same open_ poll.ready poll.same poll.polled.source row poll.answer_is.at (poll.next.row ∙ or_true (has_row view.task)) watching poll.answer_is.sound in
        subst (λ (rows : List Row). IsPolled port next view (record { task = later.task; rows = rows })) (sym given.rows) polls

  pub pending_polls : IsGiven (known port) (known next) view later told answer.Pending [] → IsPolled port next view later
  pending_polls given =
      let poll = given.poll in
      let stayed = poll.answer_is.stayed in
      let some = poll.answer_is.some in
      let rows : later.rows ≡ view.rows = given.rows ∙ append-nil view.rows in
      let watching : IsWatching (known next) (record { task = later.task; rows = view.rows }) = subst (λ (rows : List Row). IsWatching (known next) (record { task = later.task; rows = rows })) rows given.watching in
      let polls : IsPolled port next view (record { task = later.task; rows = view.rows }) =
      rests port next view later.task is same open_ poll.ready poll.same poll.polled.source stayed (poll.next.row ∙ rw stayed.row refl) watching
      (not_ended port next view later.task is same open_ poll.ready poll.same poll.polled.source stayed some.0 _ some.1 some.2 refl) in
      subst (λ (rows : List Row). IsPolled port next view (record { task = later.task; rows = rows })) (sym rows) polls

  pub end_polls : IsGiven (known port) (known next) view later told answer.Ended (record { at = positions_of later.task; body = Ended } ∷ []) → IsPolled port next view later
  end_polls given =
      let poll = given.poll in
      let stayed = poll.answer_is.stayed in
      let rows : later.rows ≡ view.rows ++ record { at = positions_of later.task; body = Ended } ∷ [] = given.rows in
      let watching = subst (λ (rows : List Row). IsWatching (known next) (record { task = later.task; rows = rows })) rows given.watching in
      let polls = ends port next view later.task is same open_ poll.ready poll.same poll.polled.source stayed (poll.next.row ∙ rw stayed.row refl) watching
      (all_ended port next view later.task is same open_ poll.ready poll.same poll.polled.source stayed poll.answer_is) in
      subst (λ (rows : List Row). IsPolled port next view (record { task = later.task; rows = rows })) (sym rows) polls
