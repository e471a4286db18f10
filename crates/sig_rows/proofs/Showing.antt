-- What rows show is what the view shows.
use Rattle.std.proofs.Common.{◌≡◌, ◌≢◌, ◌∙◌, slice_index, false, ℕ, List, length, Option, None, Some, ◌+◌, refl, ap, arith}
use Rattle.sig_diff.specs.declared.contents.Content.{Content}
use Rattle.sig_expr.specs.Evaluation.{list_of}
use Rattle.sig_expr.specs.Trees.{ViewTree, signal_view, vector_view, map_view, entries_view, tagged_view}
use Rattle.sig_expr.specs.declared.shown.Shown.{Shown}
use Rattle.sig_expr.specs.declared.shown.Shown.TheVariants as shown
use Rattle.sig_hist.specs.Sources.{Source}
use Rattle.sig_rows.proofs.RowSteps.{IsOpenBody}
use Rattle.sig_ops.specs.laws.Enumerating.{enumeration_stands}
use Rattle.sig_ops.specs.Enumerating.{Enumeration, tagged_from}
use Rattle.sig_rows.proofs.Tags.{as_many_tags}
use Rattle.sig_hist.proofs.Ways.{go_on_at}
use Rattle.sig_hist.specs.Changes.{IsInOrder}
use Rattle.sig_hist.specs.Ways.{AreWithin, GoOn, GoesAhead, Way, contents_at, leaf_source, ways}
use Rattle.sig_rows.proofs.Reaching.{BodyLeads, view_reaches}
use Rattle.sig_rows.specs.Flow.{first_body, flow, with_tags}
use Rattle.sig_rows.specs.SoundRows.{IsNextRow, IsShownBy, IsSoundRow, Seen, TagsDiffer, has_tags, is_awaited, nothing_seen, seen_after, shown_after, tags_of}
use Rattle.sig_rows.specs.declared.rows.Body.{Body}
use Rattle.sig_rows.specs.declared.rows.Body.TheVariants as body
use Rattle.sig_rows.specs.declared.rows.Body.TheVariants.{Ended}
use Rattle.sig_rows.specs.declared.rows.Row.{Row}

pub first_is_open_body : (view : ViewTree ℕ) (s : ℕ → Content) → IsOpenBody (first_body view s)
first_is_open_body (signal_view e) s = tt
first_is_open_body (vector_view e) s = tt
first_is_open_body (map_view m) s = tt
first_is_open_body (entries_view m) s = tt
first_is_open_body (tagged_view e) s = tt

pub first_shown : (view : ViewTree ℕ) (s : ℕ → Content) → IsShownBy view s (seen_after (nothing_seen view) (first_body view s))
first_shown (signal_view e) s = record { kind = refl; shows = refl; tags = tt }
first_shown (vector_view e) s = record { kind = refl; shows = refl; tags = tt }
first_shown (map_view m) s = record { kind = refl; shows = refl; tags = tt }
first_shown (entries_view m) s = record { kind = refl; shows = refl; tags = tt }
first_shown (tagged_view e) s =
    let stands = enumeration_stands (list_of s e) in
    let count : 0 + (length (tagged_from 0 (list_of s e)) + 0) ≡ length (list_of s e) = omega (arith, as_many_tags 0 (list_of s e)) in
    record { kind = refl; shows = ap shown.Vector stands.values; tags = rw count (record { values = refl; distinct = stands.distinct; given_out = stands.given_out }) }

pub kind_stays : (seen : Shown) (given : Body) → has_tags (shown_after seen given) ≡ has_tags seen
kind_stays (shown.Signal old) (body.Signal value) = refl
kind_stays (shown.Vector items) (body.Vector diffs) = refl
kind_stays (shown.Map entries) (body.Map diffs) = refl
kind_stays (shown.Pairs pairs) (body.Pairs diffs) = refl
kind_stays (shown.Tagged elements) (body.Tagged diffs) = refl
kind_stays seen given = refl

pub flow_is_open : (view : ViewTree ℕ) (tags : Option Enumeration) (way : ℕ → Way) → IsOpenBody (with_tags tags (flow way view))
flow_is_open (signal_view e) None way = tt
flow_is_open (signal_view e) (Some op) way = tt
flow_is_open (vector_view e) None way = tt
flow_is_open (vector_view e) (Some op) way = tt
flow_is_open (map_view m) None way = tt
flow_is_open (map_view m) (Some op) way = tt
flow_is_open (entries_view m) None way = tt
flow_is_open (entries_view m) (Some op) way = tt
flow_is_open (tagged_view e) None way = tt
flow_is_open (tagged_view e) (Some op) way = tt

-- a row that isn't an ended one is sound where it is a sound next one
pub next_is_sound : (view : ViewTree ℕ) (sources : List Source) (from : List ℕ) (seen : Seen) (at : List ℕ) (given : Body) (later : List Row) → IsOpenBody given →
    IsNextRow view sources from seen at given → IsSoundRow view sources from seen at given later
next_is_sound view sources from seen at Ended later open_ is = absurd open_
next_is_sound view sources from seen at given later open_ is = is

-- ---- the next row

-- what a view gives on the way of leaves that go ahead, where what was seen is what it showed
module _ (view : ViewTree ℕ) (sources : List Source) (in_order : (leaf : ℕ) → IsInOrder (leaf_source sources leaf).plan.start) (from at : List ℕ) (goes_on : GoOn from at)
    (seen : Seen) (shows_it : IsShownBy view (contents_at sources from) seen) where
  abbrev pub next_given : Body
  next_given = with_tags (tags_of seen) (flow (ways sources from at) view)

  pub next_goes : (leaf : ℕ) → GoesAhead (ways sources from at leaf)
  next_goes leaf = record { ahead = go_on_at from at goes_on leaf; in_order = in_order leaf }

  pub next_reaches : BodyLeads (ways sources from at) next_goes view seen.shown seen.next
  next_reaches = view_reaches (ways sources from at) next_goes view seen.shown seen.next (record { kind = shows_it.kind; shows = shows_it.shows; tags = shows_it.tags })

  next_tags : TagsDiffer (tags_of (seen_after seen next_given))
  next_tags = rw next_reaches.follow next_reaches.differ

  pub next_row : AreWithin sources at → at ≢ from → ((leaf : ℕ) → is_awaited view sources at leaf ≡ false → slice_index at leaf ≡ slice_index from leaf) → IsNextRow view sources from seen at next_given
  next_row within moves others_stay = record {
    within = within;
    goes_on = goes_on;
    moves = moves;
    awaited = others_stay;
    flow = refl;
    lawful = next_reaches.lawful;
    replay = next_reaches.replay;
    tags = next_tags;
  }

  pub next_shows : IsShownBy view (contents_at sources at) (seen_after seen next_given)
  next_shows = record { kind = kind_stays seen.shown next_given ∙ shows_it.kind; shows = next_reaches.replay; tags = next_tags }
