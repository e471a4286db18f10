-- What a whole view shows, and that what it doesn't await doesn't matter.
use Rattle.std.specs.Prelude.{◌≡◌, ℕ, pos, List, get_or}
use Rattle.sig_diff.specs.declared.contents.Content.{Content}
use Rattle.sig_diff.specs.declared.contents.Content.TheVariants.{Cell}
use Rattle.sig_expr.specs.declared.shown.Shown.{Shown}
use Rattle.sig_expr.specs.declared.shown.Shown.TheVariants.{Signal, Vector, Map, Pairs}
use Rattle.sig_expr.specs.Awaited.{Agree, awaits}
use Rattle.sig_expr.specs.Evaluation.{value_of, list_of, entries_of}
use Rattle.sig_expr.specs.Trees.{ViewTree, signal_view, vector_view, map_view, entries_view, tagged_view}

-- what the view shows, without tags
abbrev pub shows : {L : Type 0} → ViewTree L → (L → Content) → Shown
shows (signal_view e) s = Signal (value_of s e)
shows (vector_view e) s = Vector (list_of s e)
shows (map_view m) s = Map (entries_of s m)
shows (entries_view m) s = Pairs (entries_of s m)
shows (tagged_view e) s = Vector (list_of s e)

-- the content of the leaf with this number
abbrev pub content_of : List Content → ℕ → Content
content_of contents leaf = get_or contents leaf (Cell (pos 0))

-- the view shows the same for any contents that agree on the leaves it awaits, and awaits the same leaves
abbrev pub DependsOnAwaited : {L : Type 0} → ViewTree L → (L → Content) → Type 0
DependsOnAwaited {L} view s = (t : L → Content) → Agree s t (awaits s view) → (shows view s ≡ shows view t) × (awaits s view ≡ awaits t view)
