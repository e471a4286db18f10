-- A poll of one of the views.
use Rattle.std.proofs.Common.{◌≡◌, ◌∙◌, ℕ, zero, suc, ◌==◌, List, [], ◌∷◌, ◌++◌, length, map, get_or, codes, Bool, true, false, Option, None, Some, refl, sym, ap}
use Rattle.std.proofs.lemmas.Bool.{eqb-true}
use Rattle.std.proofs.lemmas.List.{length-map, nil_from_length}
use Rattle.std.specs.Option.{option_or}
use Rattle.sig_expr.specs.Leaves.{leaves, numbered}
use Rattle.sig_expr.specs.Shapes.{view_tree}
use Rattle.sig_expr.specs.declared.expressions.View.{View}
use Rattle.sig_expr.specs.declared.expressions.View.TheVariants.{Signal}
use Rattle.sig_hist.specs.Changes.{IsInOrder}
use Rattle.sig_hist.specs.Histories.{is_closed}
use Rattle.sig_hist.specs.Plain.{no_source}
use Rattle.sig_hist.specs.Sources.{Source, writers_of}
use Rattle.sig_hist.specs.Ways.{AllGrow, Grows, leaf_source}
use Rattle.sig_rows.proofs.Growing.{grows_not}
use Rattle.sig_report.proofs.Numbering.{numbered_looks}
use Rattle.sig_report.proofs.Polls.{IsPolled, Sees, last_poll, poll, polled_sees, sees_more, sound_at_end}
use Rattle.sig_report.specs.Lawful.{all_views, sources_of}
use Rattle.sig_report.specs.Playing.{Watched, polled}
use Rattle.sig_script.specs.Built.{unbuilt}
use Rattle.sig_script.specs.Paths.{below, here_unless}
use Rattle.sig_script.specs.declared.types.Script.{Script}
use Rattle.sig_script.specs.declared.types.ShareDef.{ShareDef}
use Rattle.sig_script.specs.declared.types.ViewDef.{ViewDef}
use Rattle.sig_rows.specs.SoundRows.{AreSound, are_complete}

-- ---- no refusals

pub below_none : (step : List ℕ) (fault : Option (List ℕ)) → below step fault ≡ None → fault ≡ None
below_none step None none = refl
below_none step (Some path) none = cc

pub or_none : (first second : Option (List ℕ)) → option_or first second ≡ None → (first ≡ None) × (second ≡ None)
or_none None second none = (refl, none)
or_none (Some path) second none = cc

-- neither in a field nor behind it
pub field_none : (step : List ℕ) (fault rest : Option (List ℕ)) → option_or (below step fault) rest ≡ None → (fault ≡ None) × (rest ≡ None)
field_none step fault rest none = let each = or_none (below step fault) rest none in (below_none step fault each.0, each.1)

-- nor in either of two fields
pub fields_none : (step other : List ℕ) (first second : Option (List ℕ)) → option_or (below step first) (below other second) ≡ None → (first ≡ None) × (second ≡ None)
fields_none step other first second none = let each = field_none step first _ none in (each.0, below_none other second each.1)

-- a script that is built has no share
unshared : (shares : List ShareDef) (none : Bool) → (length shares == 0) ≡ none → here_unless none ≡ None → shares ≡ []
unshared shares true is none = nil_from_length shares (eqb-true (length shares) 0 is)
unshared shares false is none = cc

pub no_shares : (script : Script) → unbuilt script ≡ None → script.shares ≡ []
no_shares script none = unshared script.shares _ refl (below_none (codes "shares") _ none)

pub views_are : (script : Script) → script.shares ≡ [] → all_views script ≡ map (λ (view : ViewDef). view.view) script.views
views_are script unshared = ap (λ (shares : List ShareDef). map (λ (share : ShareDef). Signal share.signal) shares ++ map (λ (view : ViewDef). view.view) script.views) unshared

-- ---- polls

-- each source of the play grows to be the one with its number
abbrev pub GrowOn : List Source → List Source → Type 0
GrowOn sources later = (number : ℕ) → Grows (get_or sources number no_source) (get_or later number no_source)

leaf_grows : (sources later : List Source) (labels : List ℕ) → GrowOn sources later → (leaf : ℕ) →
    Grows (leaf_source (map (λ source. get_or sources source no_source) labels) leaf) (leaf_source (map (λ source. get_or later source no_source) labels) leaf)
leaf_grows sources later [] grow leaf = grows_not no_source
leaf_grows sources later (label ∷ labels) grow zero = grow label
leaf_grows sources later (label ∷ labels) grow (suc leaf) = leaf_grows sources later labels grow leaf

abbrev pub IsClosed : Source → Type 0
IsClosed source = is_closed (writers_of source.plan.allow) source.history ≡ true

-- no source of the play takes any more
abbrev pub AllClosed : List Source → Type 0
AllClosed sources = (number : ℕ) → IsClosed (get_or sources number no_source)

leaf_closed : (sources : List Source) (labels : List ℕ) → AllClosed sources → (leaf : ℕ) → IsClosed (leaf_source (map (λ source. get_or sources source no_source) labels) leaf)
leaf_closed sources [] closed leaf = refl
leaf_closed sources (label ∷ labels) closed zero = closed label
leaf_closed sources (label ∷ labels) closed (suc leaf) = leaf_closed sources labels closed leaf

-- each source of the play starts in order
abbrev pub AllInOrder : List Source → Type 0
AllInOrder sources = (number : ℕ) → IsInOrder (get_or sources number no_source).plan.start

leaf_in_order : (sources : List Source) (labels : List ℕ) → AllInOrder sources → (leaf : ℕ) → IsInOrder (leaf_source (map (λ source. get_or sources source no_source) labels) leaf).plan.start
leaf_in_order sources [] in_order leaf = tt
leaf_in_order sources (label ∷ labels) in_order zero = in_order label
leaf_in_order sources (label ∷ labels) in_order (suc leaf) = leaf_in_order sources labels in_order leaf

module _ (shown : View) where
  leaves_grow : (sources later : List Source) → GrowOn sources later → AllGrow (sources_of sources shown) (sources_of later shown)
  leaves_grow sources later grow = record {
    count = length-map (leaves (view_tree shown)) _ ∙ sym (length-map (leaves (view_tree shown)) _);
    each = leaf_grows sources later (leaves (view_tree shown)) grow;
  }

  abbrev pub SeesView : List Source → List Source → Watched → Type 0
  SeesView sources final watched = Sees (numbered (view_tree shown)) (sources_of sources shown) (sources_of final shown) watched.at watched.rows

  abbrev pub PolledView : List Source → List Source → Watched → Type 0
  PolledView sources final watched = IsPolled (numbered (view_tree shown)) (sources_of sources shown) (sources_of final shown) watched.at watched.rows

  pub view_more : (sources later final : List Source) (watched : Watched) → GrowOn sources later → SeesView sources final watched → SeesView later final watched
  view_more sources later final watched grow sees = sees_more _ _ _ _ watched.at watched.rows (leaves_grow sources later grow) sees

  pub view_sees : (sources final : List Source) (watched : Watched) → PolledView sources final watched → SeesView sources final watched
  view_sees sources final watched is = polled_sees _ _ _ watched.at watched.rows is

  pub view_sound : (sources final : List Source) (watched : Watched) → SeesView sources final watched → are_complete watched.rows ≡ true → AreSound (numbered (view_tree shown)) (sources_of final shown) watched.rows
  view_sound sources final watched sees complete = sound_at_end _ _ _ watched.at watched.rows sees complete

  module _ (sources final : List Source) (watched : Watched) (grow : GrowOn sources final) (in_order : AllInOrder final) where
    pub view_polled : SeesView sources final watched → PolledView sources final (polled (numbered (view_tree shown)) (sources_of sources shown) watched)
    view_polled sees = poll _ (numbered_looks (view_tree shown)) _ _ (leaves_grow sources final grow) (leaf_in_order final (leaves (view_tree shown)) in_order) watched.at watched.rows sees

    pub view_ends : AllClosed sources → PolledView sources final watched → are_complete (polled (numbered (view_tree shown)) (sources_of sources shown) watched).rows ≡ true
    view_ends closed is = last_poll _ (numbered_looks (view_tree shown)) _ _ (leaves_grow sources final grow) (leaf_in_order final (leaves (view_tree shown)) in_order) watched.at watched.rows (leaf_closed sources (leaves (view_tree shown)) closed) is
