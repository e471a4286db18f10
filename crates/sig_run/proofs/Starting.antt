-- The views before their first polls follow their sources on the port at its start.
use Rattle.std.proofs.Common.{◌≡◌, ◌∙◌, ℕ, zero, suc, ◌+◌, ◌<◌, ◌^◌, List, [], ◌∷◌, ◌++◌, length, map, take, get_or, nat_lt, Bool, true, All, refl, sym, ap, ap₂, subst, append_assoc, arith}
use Rattle.std.proofs.lemmas.Bool.{and_parts}
use Rattle.std.proofs.lemmas.Bool.Decides.{nat_tests}
use Rattle.std.proofs.lemmas.Grind.{flat_map-append}
use Rattle.std.proofs.lemmas.List.{append-nil, get_or-append-add, get_or_append_left, length-append, length-map, take_more}
use Rattle.std.proofs.lemmas.List.Elements.{All-append, All-cons}
use Rattle.std.specs.List.{list_all}
use Rattle.sig_expr.specs.Bounds.{cap_of}
use Rattle.sig_expr.specs.Leaves.{leaves}
use Rattle.sig_expr.specs.Shapes.{view_tree}
use Rattle.sig_expr.specs.declared.expressions.View.{View}
use Rattle.sig_hist.specs.Plain.{OneThread, known, leaf_at, leaf_of, no_source, source_at, source_of}
use Rattle.sig_hist.specs.Ports.{IsSoundPort}
use Rattle.sig_hist.specs.declared.bells.PlainLeaf.{PlainLeaf}
use Rattle.sig_report.proofs.Allowing.{length_plans_of, plans_are}
use Rattle.sig_report.proofs.Events.{map_at}
use Rattle.sig_report.specs.Playing.{Watched}
use Rattle.sig_run.specs.Stages.{AreFresh, AreViewsOf, IsViewOf, leaf_sources}
use Rattle.sig_run.specs.Watching.{tree_of, watched_of}
use Rattle.sig_view.specs.Watching.{IsUnpolled}
use Rattle.sig_view.specs.declared.watching.WatchedView.{WatchedView}
use Rattle.sig_script.specs.Plans.{plans_of, source_plans}
use Rattle.sig_script.specs.Rooms.{caps_of, source_caps}
use Rattle.sig_script.specs.SelfContained.{has_shown, has_source}
use Rattle.sig_script.specs.declared.types.Script.{Script}
use Rattle.sig_script.specs.declared.types.ShareDef.{ShareDef}
use Rattle.sig_script.specs.declared.types.SourceDef.{SourceDef}
use Rattle.sig_script.specs.declared.types.ViewDef.{ViewDef}
use Rattle.sig_script.specs.declared.types.WriterDef.{WriterDef}
use Rattle.sig_view.proofs.WatchedRows.{unpolled_watching}
use Rattle.sig_view.specs.Tasks.{CanPoll, IsReady, positions_of}

-- ---- one view more

leaves_next : (defs : List ViewDef) (place : ℕ) (default : ViewDef) → place < length defs → leaf_sources (take (place + 1) defs) ≡ leaf_sources (take place defs) ++ leaves (view_tree (get_or defs place default).view)
leaves_next defs place default within =
    ap leaf_sources (take_more defs place default within)
    ∙ flat_map-append (λ (def : ViewDef). leaves (view_tree def.view)) (take place defs) (get_or defs place default ∷ [])
    ∙ ap (λ (labels : List ℕ). leaf_sources (take place defs) ++ labels) (append-nil (leaves (view_tree (get_or defs place default).view)))

pub first_next : (defs : List ViewDef) (place first next : ℕ) (default : ViewDef) → place < length defs → first ≡ length (leaf_sources (take place defs)) → next ≡ first + length (leaves (view_tree (get_or defs place default).view)) →
    next ≡ length (leaf_sources (take (place + 1) defs))
first_next defs place first next default within is goes =
    goes ∙ ap (λ (first : ℕ). first + length (leaves (view_tree (get_or defs place default).view))) is
    ∙ sym (ap length (leaves_next defs place default within) ∙ length-append (leaf_sources (take place defs)) (leaves (view_tree (get_or defs place default).view)))

fresh_push : (caps : List ℕ) (first : ℕ) (defs : List ViewDef) (views : List WatchedView) (def : ViewDef) (view : WatchedView) → AreFresh caps first defs views → IsUnpolled def.view caps (first + length (leaf_sources defs)) view →
    AreFresh caps first (defs ++ def ∷ []) (views ++ view ∷ [])
fresh_push caps first [] [] def view are is = (subst (λ (first : ℕ). IsUnpolled def.view caps first view) (omega arith) is, tt)
fresh_push caps first [] (seen ∷ views) def view are is = absurd are
fresh_push caps first (one ∷ defs) [] def view are is = absurd are
fresh_push caps first (one ∷ defs) (seen ∷ views) def view are is =
    let labels : List ℕ = leaves (view_tree one.view) in
    let far : first + length (labels ++ leaf_sources defs) ≡ first + length labels + length (leaf_sources defs) = omega (arith, length-append labels (leaf_sources defs)) in
    (are.0, fresh_push caps (first + length labels) defs views def view are.1 (subst (λ (first : ℕ). IsUnpolled def.view caps first view) far is))

pub fresh_next : (caps : List ℕ) (defs : List ViewDef) (place first : ℕ) (default : ViewDef) (views : List WatchedView) (view : WatchedView) → place < length defs → first ≡ length (leaf_sources (take place defs)) →
    AreFresh caps 0 (take place defs) views → IsUnpolled (get_or defs place default).view caps first view → AreFresh caps 0 (take (place + 1) defs) (views ++ view ∷ [])
fresh_next caps defs place first default views view within at are is =
    rw (take_more defs place default within) (fresh_push caps 0 (take place defs) views (get_or defs place default) view are (subst (λ (first : ℕ). IsUnpolled (get_or defs place default).view caps first view) (at ∙ omega arith) is))

pub fresh_watched : (caps : List ℕ) (first : ℕ) (defs : List ViewDef) (views : List WatchedView) → AreFresh caps first defs views →
    map watched_of views ≡ map (λ (view : View). record { at = []; rows = [] }) (map (λ (def : ViewDef). def.view) defs)
fresh_watched caps first [] [] are = refl
fresh_watched caps first [] (view ∷ views) are = absurd are
fresh_watched caps first (def ∷ defs) [] are = absurd are
fresh_watched caps first (def ∷ defs) (view ∷ views) are =
    let nothing : watched_of view ≡ record { at = []; rows = [] } = rw (are.0.is_new.no_row, are.0.no_rows) refl in
    ap₂ (λ (watched : Watched) (others : List Watched). watched ∷ others) nothing (fresh_watched caps (first + length (leaves (view_tree def.view))) defs views are.1)

-- ---- leaves

at_place : {X : Type 0} (p : X → Bool) (xs : List X) (place : ℕ) (default : X) → list_all p xs ≡ true → place < length xs → p (get_or xs place default) ≡ true
at_place p [] place default all within = absurd (omega arith)
at_place p (x ∷ xs) zero default all within = (and_parts _ _ all).0
at_place p (x ∷ xs) (suc place) default all within = at_place p xs place default (and_parts _ _ all).1 (omega arith)

source_within : (script : Script) → script.shares ≡ [] → (source : ℕ) → has_source script source ≡ true → source < length script.sources
source_within script unshared source has =
    let none : length script.shares ≡ 0 = ap length unshared in
    grind (arith, nat_tests)

module _ (script : Script) (unshared : script.shares ≡ []) where
  labels_within : (labels : List ℕ) → list_all (has_source script) labels ≡ true → All (λ source. source < length (plans_of script)) labels
  labels_within [] all = λ place default within. absurd (omega arith)
  labels_within (label ∷ labels) all =
      let both = and_parts _ _ all in
      All-cons (λ source. source < length (plans_of script)) label labels (rw (length_plans_of script unshared) (source_within script unshared label both.0)) (labels_within labels both.1)

  -- each leaf is of a source that there is
  pub leaves_within : (defs : List ViewDef) → list_all (λ (def : ViewDef). has_shown script def.view) defs ≡ true → All (λ source. source < length (plans_of script)) (leaf_sources defs)
  leaves_within [] all = λ place default within. absurd (omega arith)
  leaves_within (def ∷ defs) all =
      let both = and_parts (has_shown script def.view) _ all in
      All-append (λ source. source < length (plans_of script)) (leaves (view_tree def.view)) (leaf_sources defs) (labels_within (leaves (view_tree def.view)) both.0) (leaves_within defs both.1)

-- ---- caps

cap_is : (writers : List WriterDef) (number : ℕ) (defs : List SourceDef) (source : ℕ) → source < length defs →
    (get_or (map source_of (source_plans writers number defs)) source no_source).plan.cap ≡ cap_of (source_caps writers number defs) source
cap_is writers number [] source within = absurd (omega arith)
cap_is writers number (def ∷ defs) zero within = refl
cap_is writers number (def ∷ defs) (suc source) within = cap_is writers (number + 1) defs source (omega arith)

-- ---- the views at the start

module _ (script : Script) (unshared : script.shares ≡ []) (port : OneThread) (sources : port.sources ≡ map source_of (plans_of script)) (sound : IsSoundPort (known port)) (few : length port.leaves < 2 ^ 64) where
  planned_cap : (source : ℕ) → source < length script.sources → (source_at port source).plan.cap ≡ cap_of (caps_of script) source
  planned_cap source within =
      let plans : plans_of script ≡ source_plans script.writers 0 script.sources = plans_are script unshared in
      let caps : caps_of script ≡ source_caps script.writers 0 script.sources =
      ap (λ (shares : List ShareDef). source_caps script.writers 0 script.sources ++ map (λ (share : ShareDef). 1) shares) unshared ∙ append-nil _ in
      rw (sources, plans, caps) (cap_is script.writers 0 script.sources source within)

  module _ (front rest : List ℕ) (shown : View) (placed : port.leaves ≡ map leaf_of (front ++ (leaves (view_tree shown) ++ rest))) (has : has_shown script shown ≡ true) where
    abbrev labels : List ℕ
    labels = leaves (view_tree shown)

    long : length port.leaves ≡ length front + (length labels + length rest)
    long = ap length placed ∙ length-map (front ++ (labels ++ rest)) leaf_of ∙ length-append front (labels ++ rest) ∙ ap (λ (behind : ℕ). length front + behind) (length-append labels rest)

    source_is : (leaf : ℕ) → leaf < length labels → (leaf_at port (length front + leaf)).source ≡ get_or labels leaf 0
    source_is leaf within =
        ap (λ (leaves : List PlainLeaf). (get_or leaves (length front + leaf) (leaf_of 0)).source) placed
        ∙ ap (λ (leaf : PlainLeaf). leaf.source) (map_at leaf_of (front ++ (labels ++ rest)) (length front + leaf) 0)
        ∙ get_or-append-add front (labels ++ rest) leaf 0
        ∙ get_or_append_left labels rest 0 leaf within

    can_poll : CanPoll (known port) shown (caps_of script) (length front)
    can_poll = record {
      sound = sound;
      numbers = omega (arith, few, long);
      own = λ leaf within. own_leaf leaf within;
      one_task = λ leaf within. refl;
      within_caps = λ leaf within.
          let label : ℕ = get_or labels leaf 0 in
          let cap = planned_cap label (source_within script unshared label (at_place (has_source script) labels leaf 0 has within)) in
          rw (source_is leaf within, cap) (omega arith);
    }
      where
        own_leaf : (leaf : ℕ) → leaf < length labels → nat_lt (length front + leaf) (length port.leaves) ≡ true
        own_leaf leaf within = let far = long in grind (arith, nat_tests)

    fresh_follows : (view : WatchedView) → IsUnpolled shown (caps_of script) (length front) view → IsViewOf port shown view
    fresh_follows view is =
        let ready : IsReady (known port) view.task = is.is_new.ready (known port) can_poll in
        let tree : tree_of view ≡ view_tree shown = ap view_tree is.is_new.expression in
        let leaf_each : length (positions_of view.task) ≡ length labels = rw tree at ready.is_task.leaf_each in
        record {
          expression = is.is_new.expression;
          following = record {
            watching = unpolled_watching (known port) shown (caps_of script) (length front) view is ready;
            on_source = λ leaf within. rw (is.is_new.first_leaf, tree) (source_is leaf (rw leaf_each at within));
            lacks = λ none leaf within. is.is_new.lacks leaf (rw leaf_each at within);
          };
        }

  pub fresh_views : (front : List ℕ) (defs : List ViewDef) (views : List WatchedView) → port.leaves ≡ map leaf_of (front ++ leaf_sources defs) → list_all (λ (def : ViewDef). has_shown script def.view) defs ≡ true →
      AreFresh (caps_of script) (length front) defs views → AreViewsOf port (map (λ (def : ViewDef). def.view) defs) views
  fresh_views front [] [] placed has are = tt
  fresh_views front [] (view ∷ views) placed has are = absurd are
  fresh_views front (def ∷ defs) [] placed has are = absurd are
  fresh_views front (def ∷ defs) (view ∷ views) placed has are =
      let labels : List ℕ = leaves (view_tree def.view) in
      let both = and_parts (has_shown script def.view) _ has in
      let behind : port.leaves ≡ map leaf_of ((front ++ labels) ++ leaf_sources defs) = placed ∙ ap (map leaf_of) (sym (append_assoc front labels (leaf_sources defs))) in (
        fresh_follows front (leaf_sources defs) def.view placed both.0 view are.0,
        fresh_views (front ++ labels) defs views behind both.1 (subst (λ (first : ℕ). AreFresh (caps_of script) first defs views) (sym (length-append front labels)) are.1),
      )
