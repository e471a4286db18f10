-- What holds of sound rows: they stay sound, they go on by one more, and what they have shown is what the view shows.
use Rattle.std.specs.Prelude.{◌≡◌, ◌≢◌, ℕ, List, [], ◌∷◌, ◌++◌, true, false}
use Rattle.sig_diff.specs.declared.contents.Content.{Content}
use Rattle.sig_expr.specs.Awaited.{awaits}
use Rattle.sig_expr.specs.Shows.{shows}
use Rattle.sig_expr.specs.Trees.{ViewTree}
use Rattle.sig_hist.specs.Histories.{is_closed}
use Rattle.sig_hist.specs.Sources.{Source, content_of, is_among, writers_of}
use Rattle.sig_hist.specs.Ways.{AllGrow, contents_at, leaf_source}
use Rattle.sig_rows.specs.SoundRows.{AreSound, IsFirstRow, IsShownBy, IsSoundRow, are_complete, last_at, nothing_seen, nothing_shown, replay_of, seen_of, without_tags}
use Rattle.sig_rows.specs.declared.rows.Row.{Row}

-- rows that are sound for sources are sound for all that the sources become as their histories go on
abbrev pub StaySound : List Row → Type 0
StaySound rows = (view : ViewTree ℕ) (sources later : List Source) → AllGrow sources later → AreSound view sources rows → AreSound view later rows

-- a row goes on from rows: it is the first one, or gives by flow what its leaves have gone on by, or is an ended row
abbrev pub GoesOnFrom : ViewTree ℕ → List Source → List Row → Row → Type 0
GoesOnFrom view sources [] row = IsFirstRow view sources row
GoesOnFrom view sources rows row = IsSoundRow view sources (last_at [] rows) (seen_of (nothing_seen view) rows) row.at row.body []

-- sound rows that haven't ended are sound with one more that goes on from them
abbrev pub GoOnSoundly : List Row → Row → Type 0
GoOnSoundly rows row = (view : ViewTree ℕ) (sources : List Source) → AreSound view sources rows → are_complete rows ≡ false → GoesOnFrom view sources rows row → AreSound view sources (rows ++ row ∷ [])

-- what sound rows have shown is what the view shows at the positions of the last of them
abbrev pub ShowTheView : List Row → Type 0
ShowTheView rows = (view : ViewTree ℕ) (sources : List Source) → rows ≢ [] → AreSound view sources rows → IsShownBy view (contents_at sources (last_at [] rows)) (seen_of (nothing_seen view) rows)

-- what the leaves hold after all entries of their sources
abbrev pub last_contents : List Source → ℕ → Content
last_contents sources leaf = content_of (leaf_source sources leaf)

-- the view is shown as it is after all entries, and the sources that it awaits then are closed
pub record IsShownAtEnd (view : ViewTree ℕ) (sources : List Source) (rows : List Row) : Type 0 where
  pub shows : without_tags (replay_of (nothing_shown view) rows) ≡ shows view (last_contents sources)
  pub closed : (leaf : ℕ) → is_among leaf (awaits (last_contents sources) view) ≡ true → is_closed (writers_of (leaf_source sources leaf).plan.allow) (leaf_source sources leaf).history ≡ true

-- sound rows that have ended show the view from scratch of its sources' last contents
abbrev pub ShowTheEnd : List Row → Type 0
ShowTheEnd rows = (view : ViewTree ℕ) (sources : List Source) → AreSound view sources rows → are_complete rows ≡ true → IsShownAtEnd view sources rows
