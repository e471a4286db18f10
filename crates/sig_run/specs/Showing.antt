-- What a view shows at the end of a play, by its rows and by the last contents of its leaves' sources.
use Rattle.std.specs.Prelude.{◌≡◌, ℕ, pos, List, [], ◌∷◌, map, get_or}
use Rattle.sig_diff.specs.declared.contents.Content.{Content}
use Rattle.sig_diff.specs.declared.contents.Content.TheVariants.{Cell}
use Rattle.sig_expr.specs.Leaves.{leaves, numbered}
use Rattle.sig_expr.specs.Shapes.{view_tree}
use Rattle.sig_expr.specs.Shows.{content_of, shows}
use Rattle.sig_expr.specs.declared.expressions.View.{View}
use Rattle.sig_expr.specs.declared.shown.Shown.{Shown}
use Rattle.sig_report.specs.declared.report.SourceReport.{SourceReport}
use Rattle.sig_rows.specs.SoundRows.{IsLawfulBody, nothing_shown, replay_of, shown_after, without_tags}
use Rattle.sig_rows.specs.declared.rows.Body.{Body}
use Rattle.sig_rows.specs.declared.rows.Body.TheVariants.{Ended}
use Rattle.sig_rows.specs.declared.rows.Row.{Row}

-- a body that what is shown can go on by
abbrev pub IsShowable : Shown → Body → Type 0
IsShowable shown Ended = Unit {0}
IsShowable shown body = IsLawfulBody shown body

-- rows that what is shown can go on by, one after another
abbrev pub AreShowable : Shown → List Row → Type 0
AreShowable shown [] = Unit {0}
AreShowable shown (row ∷ rows) = IsShowable shown row.body × AreShowable (shown_after shown row.body) rows

abbrev pub no_report : SourceReport
no_report = record { name = []; start = Cell (pos 0); history = []; last = Cell (pos 0) }

-- the last content of the source with this number
abbrev pub last_of : List SourceReport → ℕ → Content
last_of reports source = (get_or reports source no_report).last

-- the last contents of leaves, by the numbers of their sources
abbrev pub contents_under : List SourceReport → List ℕ → List Content
contents_under reports labels = map (last_of reports) labels

-- a view's rows can be shown, and show in the end the view from scratch of its sources' last contents
pub record IsOver (reports : List SourceReport) (shown : View) (rows : List Row) : Type 0 where
  pub showable : AreShowable (nothing_shown (view_tree shown)) rows
  pub ends : without_tags (replay_of (nothing_shown (view_tree shown)) rows) ≡ shows (numbered (view_tree shown)) (content_of (contents_under reports (leaves (view_tree shown))))
