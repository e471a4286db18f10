-- Sound and complete rows: what the rows of a view say is true of the histories of its leaves' sources.
use Rattle.sig_hist.specs.Ways.{AreWithin, contents_at, leaf_source, GoOn, ways}
use Rattle.std.specs.Prelude.{◌≡◌, ◌≢◌, ℕ, ◌+◌, ◌==◌, pos, List, [], ◌∷◌, length, slice_index, Bool, true, false, Option, None, Some, unwrap_or}
use Rattle.std.specs.List.{list_any}
use Rattle.sig_diff.specs.Replaying.{AreLawful, MapAreLawful, replayed, map_replayed}
use Rattle.sig_diff.specs.declared.contents.Content.{Content}
use Rattle.sig_diff.specs.declared.differences.VecDiff.{VecDiff}
use Rattle.sig_expr.specs.Awaited.{awaits}
use Rattle.sig_expr.specs.Shows.{shows}
use Rattle.sig_expr.specs.Trees.{ViewTree, signal_view, vector_view, map_view, entries_view, tagged_view}
use Rattle.sig_expr.specs.declared.shown.Shown.{Shown}
use Rattle.sig_expr.specs.declared.shown.Shown.TheVariants.{Signal, Vector, Map, Pairs, Tagged as Tags}
use Rattle.sig_hist.specs.Histories.{is_closed}
use Rattle.sig_hist.specs.Sources.{Source, writers_of}
use Rattle.sig_ops.specs.Enumerating.{Enumeration, IsEnumeration, made, values_of}
use Rattle.sig_rows.specs.Flow.{first_body, flow, with_tags}
use Rattle.sig_rows.specs.declared.rows.Body.{Body}
use Rattle.sig_rows.specs.declared.rows.Body.TheVariants as body
use Rattle.sig_rows.specs.declared.rows.Row.{Row}

-- whether a view awaits a leaf at its positions
abbrev pub is_awaited : ViewTree ℕ → List Source → List ℕ → ℕ → Bool
is_awaited view sources positions leaf = list_any (λ awaited. awaited == leaf) (awaits (contents_at sources positions) view)

-- ---- what is shown

-- what a view shows before its first row
abbrev pub nothing_shown : {L : Type 0} → ViewTree L → Shown
nothing_shown (signal_view e) = Signal (pos 0)
nothing_shown (vector_view e) = Vector []
nothing_shown (map_view m) = Map []
nothing_shown (entries_view m) = Pairs []
nothing_shown (tagged_view e) = Tags []

-- what is shown after a row
abbrev pub shown_after : Shown → Body → Shown
shown_after (Signal old) (body.Signal value) = Signal (unwrap_or value old)
shown_after (Vector items) (body.Vector diffs) = Vector (replayed items diffs)
shown_after (Map entries) (body.Map diffs) = Map (map_replayed entries diffs)
shown_after (Pairs pairs) (body.Pairs diffs) = Pairs (replayed pairs diffs)
shown_after (Tags elements) (body.Tagged diffs) = Tags (replayed elements diffs)
shown_after shown _ = shown

abbrev pub without_tags : Shown → Shown
without_tags (Tags elements) = Vector (values_of elements)
without_tags shown = shown

-- whether elements have tags in what is shown, and in what a view shows
abbrev pub has_tags : Shown → Bool
has_tags (Tags elements) = true
has_tags shown = false

-- how many elements differences make, and a body whose elements have tags
abbrev pub all_made : {T : Type 0} → List (VecDiff T) → ℕ
all_made [] = 0
all_made (diff ∷ diffs) = made diff + all_made diffs

abbrev pub tags_made : Body → ℕ
tags_made (body.Tagged diffs) = all_made diffs
tags_made _ = 0

-- what rows have shown, and the next tag: how many elements with tags they have made
pub record Seen : Type 0 where
  pub shown : Shown
  pub next : ℕ

abbrev pub nothing_seen : {L : Type 0} → ViewTree L → Seen
nothing_seen view = record { shown = nothing_shown view; next = 0 }

abbrev pub seen_after : Seen → Body → Seen
seen_after seen given = record { shown = shown_after seen.shown given; next = seen.next + tags_made given }

-- the elements with their tags, where they have tags
abbrev pub tags_in : Shown → ℕ → Option Enumeration
tags_in (Tags elements) next = Some (record { elements = elements; next = next })
tags_in shown next = None

abbrev pub tags_of : Seen → Option Enumeration
tags_of seen = tags_in seen.shown seen.next

-- no two tags are the same, and all are below the next one
abbrev pub TagsDiffer : Option Enumeration → Type 0
TagsDiffer (Some op) = IsEnumeration op (values_of op.elements)
TagsDiffer None = Unit {0}

-- what is shown is what the view shows of these contents
pub record IsShownBy {L : Type 0} (view : ViewTree L) (contents : L → Content) (seen : Seen) : Type 0 where
  pub kind : has_tags seen.shown ≡ has_tags (nothing_shown view)
  pub shows : without_tags seen.shown ≡ shows view contents
  pub tags : TagsDiffer (tags_of seen)

-- a body is of the kind that is shown, and each of its differences is lawful at its turn
abbrev pub IsLawfulBody : Shown → Body → Type 0
IsLawfulBody (Signal old) (body.Signal value) = Unit {0}
IsLawfulBody (Vector items) (body.Vector diffs) = AreLawful items diffs
IsLawfulBody (Map entries) (body.Map diffs) = MapAreLawful entries diffs
IsLawfulBody (Pairs pairs) (body.Pairs diffs) = AreLawful pairs diffs
IsLawfulBody (Tags elements) (body.Tagged diffs) = AreLawful elements diffs
IsLawfulBody _ _ = ⊥

-- ---- rows

-- the first row: the view from scratch at once
pub record IsFirstRow (view : ViewTree ℕ) (sources : List Source) (row : Row) : Type 0 where
  pub within : AreWithin sources row.at
  pub whole : row.body ≡ first_body view (contents_at sources row.at)

-- a later row: some leaf has gone on, none has gone back, and one that isn't awaited has stayed. The body is what the view gives on
-- the way, each difference lawful where it stands, and after it the view from scratch is shown. Elements that are made have the next tags, and no two tags are the same
pub record IsNextRow (view : ViewTree ℕ) (sources : List Source) (from : List ℕ) (seen : Seen) (at : List ℕ) (given : Body) : Type 0 where
  pub within : AreWithin sources at
  pub goes_on : GoOn from at
  pub moves : at ≢ from
  pub awaited : (leaf : ℕ) → is_awaited view sources at leaf ≡ false → slice_index at leaf ≡ slice_index from leaf
  pub flow : given ≡ with_tags (tags_of seen) (flow (ways sources from at) view)
  pub lawful : IsLawfulBody seen.shown given
  pub replay : without_tags (shown_after seen.shown given) ≡ shows view (contents_at sources at)
  pub tags : TagsDiffer (tags_of (seen_after seen given))

-- an ended row: the positions stay, each awaited leaf stands at the end of a closed history, and no row follows
pub record IsEndedRow (view : ViewTree ℕ) (sources : List Source) (from : List ℕ) (at : List ℕ) (later : List Row) : Type 0 where
  pub stays : at ≡ from
  pub end : (leaf : ℕ) → is_awaited view sources at leaf ≡ true → slice_index at leaf ≡ length (leaf_source sources leaf).history
  pub closed : (leaf : ℕ) → is_awaited view sources at leaf ≡ true → is_closed (writers_of (leaf_source sources leaf).plan.allow) (leaf_source sources leaf).history ≡ true
  pub last : later ≡ []

abbrev pub IsSoundRow : ViewTree ℕ → List Source → List ℕ → Seen → List ℕ → Body → List Row → Type 0
IsSoundRow view sources from seen at body.Ended later = IsEndedRow view sources from at later
IsSoundRow view sources from seen at given later = IsNextRow view sources from seen at given

abbrev pub AreSoundAfter : ViewTree ℕ → List Source → List ℕ → Seen → List Row → Type 0
AreSoundAfter view sources from seen [] = Unit {0}
AreSoundAfter view sources from seen (row ∷ rows) =
    IsSoundRow view sources from seen row.at row.body rows × AreSoundAfter view sources row.at (seen_after seen row.body) rows

-- rows that are sound for these sources
abbrev pub AreSound : ViewTree ℕ → List Source → List Row → Type 0
AreSound view sources [] = Unit {0}
AreSound view sources (row ∷ rows) = IsFirstRow view sources row × AreSoundAfter view sources row.at (seen_after (nothing_seen view) row.body) rows

abbrev pub is_end : Body → Bool
is_end body.Ended = true
is_end _ = false

-- rows of which the last is an ended row
abbrev pub are_complete : List Row → Bool
are_complete [] = false
are_complete (row ∷ []) = is_end row.body
are_complete (row ∷ next ∷ rows) = are_complete (next ∷ rows)

-- what is shown after all rows, and what they have shown with their tags
abbrev pub replay_of : Shown → List Row → Shown
replay_of shown [] = shown
replay_of shown (row ∷ rows) = replay_of (shown_after shown row.body) rows

abbrev pub seen_of : Seen → List Row → Seen
seen_of seen [] = seen
seen_of seen (row ∷ rows) = seen_of (seen_after seen row.body) rows

-- the positions of the last row
abbrev pub last_at : List ℕ → List Row → List ℕ
last_at at [] = at
last_at at (row ∷ rows) = last_at row.at rows
