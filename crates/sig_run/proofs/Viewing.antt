-- The views of a stage: each follows its sources as the port sees more, and as the views are polled.
use Rattle.std.proofs.Common.{◌≡◌, ◌∙◌, ℕ, zero, suc, ◌+◌, ◌<◌, List, [], ◌∷◌, length, map, get_or, slice_set, Bool, true, false, refl, sym, ap, subst, arith}
use Rattle.std.proofs.lemmas.List.{get_or-map, map-set}
use Rattle.sig_expr.specs.Leaves.{numbered}
use Rattle.sig_expr.specs.Shapes.{view_tree}
use Rattle.sig_expr.specs.declared.expressions.VecExpr.{VecExpr}
use Rattle.sig_expr.specs.declared.expressions.View.{View}
use Rattle.sig_hist.specs.Plain.{OneThread, known}
use Rattle.sig_hist.specs.Sources.{Source}
use Rattle.sig_report.specs.Lawful.{all_views, sources_of}
use Rattle.sig_report.specs.Playing.{Watched, polled, view_at}
use Rattle.sig_run.specs.Stages.{AreViewsOf, IsViewOf}
use Rattle.sig_run.specs.Watching.{IsFollowing, sources_under, tree_of, watched_of}
use Rattle.sig_view.specs.declared.watching.WatchedView.{WatchedView}
use Rattle.sig_script.specs.declared.types.Script.{Script}
use Rattle.sig_view.proofs.WatchedRows.{watching_later}
use Rattle.sig_walk.specs.Walking.{HasSeenMore}
use Rattle.sig_view.specs.Tasks.{expression_of, first_of}

module _ (port later : OneThread) (more : HasSeenMore (known port) (known later)) where
  -- ---- one view

  module _ (view : WatchedView) (is : IsFollowing port view) where
    pub follows_later : IsFollowing later view
    follows_later = record {
      watching = watching_later (known port) (known later) more view is.watching;
      on_source = λ leaf within. ap (λ (source : ℕ → ℕ). source (first_of view.task + leaf)) more.source ∙ is.on_source leaf within;
      lacks = is.lacks;
    }

  -- ---- all views

  pub views_later : (shown : List View) (views : List WatchedView) → AreViewsOf port shown views → AreViewsOf later shown views
  views_later [] [] are = tt
  views_later (one ∷ shown) (view ∷ views) are = (record { expression = are.0.expression; following = follows_later view are.0.following }, views_later shown views are.1)
  views_later [] (view ∷ views) are = absurd are
  views_later (one ∷ shown) [] are = absurd are

module _ (port : OneThread) where
  pub as_many : (shown : List View) (views : List WatchedView) → AreViewsOf port shown views → length views ≡ length shown
  as_many [] [] are = refl
  as_many (one ∷ shown) (view ∷ views) are = ap suc (as_many shown views are.1)
  as_many [] (view ∷ views) are = absurd are
  as_many (one ∷ shown) [] are = absurd are

  view_of : (shown : List View) (views : List WatchedView) (number : ℕ) (no_view : View) (none : WatchedView) → number < length shown → AreViewsOf port shown views →
      IsViewOf port (get_or shown number no_view) (get_or views number none)
  view_of [] views number no_view none within are = absurd (omega arith)
  view_of (one ∷ shown) [] number no_view none within are = absurd are
  view_of (one ∷ shown) (view ∷ views) zero no_view none within are = are.0
  view_of (one ∷ shown) (view ∷ views) (suc number) no_view none within are = view_of shown views number no_view none (omega arith) are.1

  -- a view that was read
  pub view_read : (script : Script) (views : List WatchedView) (number : ℕ) (view : WatchedView) → view ≡ get_or views number view → number < length (all_views script) → AreViewsOf port (all_views script) views →
      IsViewOf port (view_at script number) view
  view_read script views number view read within are =
      subst (λ (view : WatchedView). IsViewOf port (view_at script number) view) (sym read) (view_of (all_views script) views number (View.Vector (VecExpr.Vector 0)) view within are)

  pub view_set : (shown : List View) (views : List WatchedView) (number : ℕ) (no_view : View) (view : WatchedView) → AreViewsOf port shown views → IsViewOf port (get_or shown number no_view) view →
      AreViewsOf port shown (slice_set views number view)
  view_set [] [] number no_view view are is = tt
  view_set [] (first ∷ views) number no_view view are is = absurd are
  view_set (one ∷ shown) [] number no_view view are is = absurd are
  view_set (one ∷ shown) (first ∷ views) zero no_view view are is = (is, are.1)
  view_set (one ∷ shown) (first ∷ views) (suc number) no_view view are is = (are.0, view_set shown views number no_view view are.1 is)

-- ---- a poll

pub polled_views : (sources : List Source) (shown : View) (views : List WatchedView) (number : ℕ) (view later : WatchedView) → number < length views → view ≡ get_or views number view → expression_of view.task ≡ shown →
    watched_of later ≡ polled (numbered (tree_of view)) (sources_under sources (tree_of view)) (watched_of view) →
    map watched_of (slice_set views number later)
    ≡ slice_set (map watched_of views) number (polled (numbered (view_tree shown)) (sources_of sources shown) (get_or (map watched_of views) number (record { at = []; rows = [] })))
polled_views sources shown views number view later within read expression is =
    let before : get_or (map watched_of views) number (record { at = []; rows = [] }) ≡ watched_of view = get_or-map watched_of views number view _ within ∙ ap watched_of (sym read) in
    map-set watched_of views number later ∙ ap (slice_set (map watched_of views) number) (is
    ∙ ap (λ (shown : View). polled (numbered (view_tree shown)) (sources_of sources shown) (watched_of view)) expression
    ∙ ap (λ (watched : Watched). polled (numbered (view_tree shown)) (sources_of sources shown) watched) (sym before))
