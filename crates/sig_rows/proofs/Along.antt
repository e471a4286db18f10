-- What a part of a view gives and awaits is decided by how its own leaves go.
use Rattle.std.proofs.Common.{◌≡◌, ℕ, ◌==◌, ℤ, Bool, true, false, ◌||◌, arith, List, [], ◌∷◌, ◌++◌, Option, option_map, refl, ap, ap₂}
use Rattle.std.specs.List.{flat_map}
use Rattle.sig_diff.specs.declared.contents.Content.{Content}
use Rattle.sig_diff.specs.declared.differences.VecDiff.{VecDiff}
use Rattle.sig_expr.proofs.Awaiting.{agree_among, map_same, sig_among, sig_same, sigs_among, sigs_same, vec_among, vec_same, vecs_among, vecs_same}
use Rattle.sig_expr.specs.Awaited.{Agree, sig_awaits, vec_awaits}
use Rattle.sig_expr.specs.Functions.{image, passes}
use Rattle.sig_expr.specs.Leaves.{map_leaves, sig_leaves, sigs_leaves, vec_leaves, vecs_leaves}
use Rattle.sig_expr.specs.Evaluation.{entries_of, list_of, lists_of, signals_of, value_of}
use Rattle.sig_expr.specs.Trees.{MapTree, map_source, mapped_values, SigTree, cell, mapped_signal, deduped, switched, length_of, total_of, at_key, VecTree, vector, mapped, filtered, filtered_by, mapped_by, sorted, joined, flattened, picked, keys_in, values_in, SigTrees, no_signals, more_signals, VecTrees, no_lists, more_lists}
use Rattle.sig_hist.specs.Sources.{is_among}
use Rattle.sig_maps.specs.Tables.{keys_gives, map_value_gives, values_gives}
use Rattle.sig_ops.specs.Tables.{filter_gives, map_gives}
use Rattle.sig_sort.specs.Sorting.{sorted_gives}
use Rattle.sig_hist.specs.Ways.{Way, before, behind, passed}
use Rattle.sig_rows.specs.Flow.{list_flow, list_flows, map_flow, new, of_map, old, through, value_flow, value_flows}

-- ---- contents that agree on all leaves of a part

module _ {L : Type 0} (s t : L → Content) where
  pub same_value : (e : SigTree L) → Agree s t (sig_leaves e) → value_of s e ≡ value_of t e
  same_value e agree = (sig_same s t e (agree_among s t (sig_among s e) agree)).shown

  pub same_awaited_value : (e : SigTree L) → Agree s t (sig_leaves e) → sig_awaits s e ≡ sig_awaits t e
  same_awaited_value e agree = (sig_same s t e (agree_among s t (sig_among s e) agree)).awaited

  pub same_list : (e : VecTree L) → Agree s t (vec_leaves e) → list_of s e ≡ list_of t e
  same_list e agree = (vec_same s t e (agree_among s t (vec_among s e) agree)).shown

  pub same_awaited_list : (e : VecTree L) → Agree s t (vec_leaves e) → vec_awaits s e ≡ vec_awaits t e
  same_awaited_list e agree = (vec_same s t e (agree_among s t (vec_among s e) agree)).awaited

  pub same_signals : (bank : SigTrees L) → Agree s t (sigs_leaves bank) → signals_of s bank ≡ signals_of t bank
  same_signals bank agree = (sigs_same s t bank (agree_among s t (sigs_among s bank) agree)).shown

  pub same_lists : (bank : VecTrees L) → Agree s t (vecs_leaves bank) → lists_of s bank ≡ lists_of t bank
  same_lists bank agree = (vecs_same s t bank (agree_among s t (vecs_among s bank) agree)).shown

-- ---- ways that are alike

-- the same is passed, from the same content to the same
pub record AreAlike (way other : Way) : Type 0 where
  pub cap : way.source.plan.cap ≡ other.source.plan.cap
  pub before : before way ≡ before other
  pub behind : behind way ≡ behind other
  pub passed : passed way ≡ passed other

module _ {L : Type 0} (way other : L → Way) where
  abbrev pub AlikeOn : List L → Type 0
  AlikeOn [] = Unit {0}
  AlikeOn (l ∷ labels) = AreAlike (way l) (other l) × AlikeOn labels

  pub alike_front : (labels more : List L) → AlikeOn (labels ++ more) → AlikeOn labels
  alike_front [] more alike = tt
  alike_front (l ∷ labels) more alike = (alike.0, alike_front labels more alike.1)

  pub alike_back : (labels more : List L) → AlikeOn (labels ++ more) → AlikeOn more
  alike_back [] more alike = alike
  alike_back (l ∷ labels) more alike = alike_back labels more alike.1

  pub agree_before : (labels : List L) → AlikeOn labels → Agree (old way) (old other) labels
  agree_before [] alike = tt
  agree_before (l ∷ labels) alike = (alike.0.before, agree_before labels alike.1)

  pub agree_behind : (labels : List L) → AlikeOn labels → Agree (new way) (new other) labels
  agree_behind [] alike = tt
  agree_behind (l ∷ labels) alike = (alike.0.behind, agree_behind labels alike.1)

  old_list : (e : VecTree L) → AlikeOn (vec_leaves e) → list_of (old way) e ≡ list_of (old other) e
  old_list e alike = same_list (old way) (old other) e (agree_before (vec_leaves e) alike)

  new_list : (e : VecTree L) → AlikeOn (vec_leaves e) → list_of (new way) e ≡ list_of (new other) e
  new_list e alike = same_list (new way) (new other) e (agree_behind (vec_leaves e) alike)

  old_value : (e : SigTree L) → AlikeOn (sig_leaves e) → value_of (old way) e ≡ value_of (old other) e
  old_value e alike = same_value (old way) (old other) e (agree_before (sig_leaves e) alike)

  new_value : (e : SigTree L) → AlikeOn (sig_leaves e) → value_of (new way) e ≡ value_of (new other) e
  new_value e alike = same_value (new way) (new other) e (agree_behind (sig_leaves e) alike)

  old_signals : (bank : SigTrees L) → AlikeOn (sigs_leaves bank) → signals_of (old way) bank ≡ signals_of (old other) bank
  old_signals bank alike = same_signals (old way) (old other) bank (agree_before (sigs_leaves bank) alike)

  old_lists : (bank : VecTrees L) → AlikeOn (vecs_leaves bank) → lists_of (old way) bank ≡ lists_of (old other) bank
  old_lists bank alike = same_lists (old way) (old other) bank (agree_before (vecs_leaves bank) alike)

  pub same_map_flow : (m : MapTree L) → AlikeOn (map_leaves m) → map_flow way m ≡ map_flow other m
  same_map_flow (map_source leaf) alike = rw (alike.0.before, alike.0.cap, alike.0.passed) refl
  same_map_flow (mapped_values f m) alike = ap (flat_map (map_value_gives (image f))) (same_map_flow m alike)

  pub old_map : (m : MapTree L) → AlikeOn (map_leaves m) → entries_of (old way) m ≡ entries_of (old other) m
  old_map m alike = map_same (old way) (old other) m (agree_before (map_leaves m) alike)

  new_map : (m : MapTree L) → AlikeOn (map_leaves m) → entries_of (new way) m ≡ entries_of (new other) m
  new_map m alike = map_same (new way) (new other) m (agree_behind (map_leaves m) alike)

  mutual
    pub same_list_flow : (e : VecTree L) → AlikeOn (vec_leaves e) → list_flow way e ≡ list_flow other e
    same_list_flow (vector leaf) alike = rw (alike.0.before, alike.0.cap, alike.0.passed) refl
    same_list_flow (mapped f e) alike = ap (flat_map (map_gives (image f))) (same_list_flow e alike)
    same_list_flow (filtered p e) alike = ap₂ (through (filter_gives (passes p))) (old_list e alike) (same_list_flow e alike)
    same_list_flow (sorted f e) alike = ap₂ (through (sorted_gives (image f))) (old_list e alike) (same_list_flow e alike)
    same_list_flow (filtered_by e bank) alike =
        let one = alike_front (vec_leaves e) (sigs_leaves bank) alike in
        let others = alike_back (vec_leaves e) (sigs_leaves bank) alike in
        rw (old_list e one, new_list e one, old_signals bank others, same_list_flow e one, same_value_flows bank others) refl
    same_list_flow (mapped_by e bank) alike =
        let one = alike_front (vec_leaves e) (sigs_leaves bank) alike in
        let others = alike_back (vec_leaves e) (sigs_leaves bank) alike in
        rw (new_list e one, old_signals bank others, same_list_flow e one, same_value_flows bank others) refl
    same_list_flow (joined a b) alike =
        let one = alike_front (vec_leaves a) (vec_leaves b) alike in
        let other = alike_back (vec_leaves a) (vec_leaves b) alike in
        rw (old_list a one, new_list a one, old_list b other, same_list_flow a one, same_list_flow b other) refl
    same_list_flow (flattened e bank) alike =
        let one = alike_front (vec_leaves e) (vecs_leaves bank) alike in
        let others = alike_back (vec_leaves e) (vecs_leaves bank) alike in
        rw (old_list e one, new_list e one, old_lists bank others, same_list_flow e one, same_list_flows bank others) refl
    same_list_flow (picked e bank) alike =
        let one = alike_front (sig_leaves e) (vecs_leaves bank) alike in
        let others = alike_back (sig_leaves e) (vecs_leaves bank) alike in
        rw (old_value e one, new_value e one, old_lists bank others, same_value_flow e one, same_list_flows bank others) refl
    same_list_flow (keys_in m) alike = ap₂ (of_map keys_gives) (old_map m alike) (same_map_flow m alike)
    same_list_flow (values_in m) alike = ap₂ (of_map values_gives) (old_map m alike) (same_map_flow m alike)

    pub same_value_flow : (e : SigTree L) → AlikeOn (sig_leaves e) → value_flow way e ≡ value_flow other e
    same_value_flow (cell leaf) alike = rw (alike.0.before, alike.0.cap, alike.0.passed) refl
    same_value_flow (mapped_signal f e) alike = ap (option_map (image f)) (same_value_flow e alike)
    same_value_flow (deduped e) alike = rw (old_value e alike, same_value_flow e alike) refl
    same_value_flow (switched e bank) alike =
        let one = alike_front (sig_leaves e) (sigs_leaves bank) alike in
        let others = alike_back (sig_leaves e) (sigs_leaves bank) alike in
        rw (old_value e one, new_value e one, old_signals bank others, same_value_flow e one, same_value_flows bank others) refl
    same_value_flow (length_of e) alike = rw (old_list e alike, new_list e alike) refl
    same_value_flow (total_of e) alike = rw (old_list e alike, new_list e alike) refl
    same_value_flow (at_key key default m) alike = rw (old_map m alike, new_map m alike) refl

    pub same_value_flows : (bank : SigTrees L) → AlikeOn (sigs_leaves bank) → value_flows way bank ≡ value_flows other bank
    same_value_flows no_signals alike = refl
    same_value_flows (more_signals e bank) alike =
        ap₂ (λ (value : Option ℤ) (values : List (Option ℤ)). value ∷ values) (same_value_flow e (alike_front (sig_leaves e) (sigs_leaves bank) alike)) (same_value_flows bank (alike_back (sig_leaves e) (sigs_leaves bank) alike))

    pub same_list_flows : (bank : VecTrees L) → AlikeOn (vecs_leaves bank) → list_flows way bank ≡ list_flows other bank
    same_list_flows no_lists alike = refl
    same_list_flows (more_lists e bank) alike =
        ap₂ (λ (diffs : List (VecDiff ℤ)) (others : List (List (VecDiff ℤ))). diffs ∷ others) (same_list_flow e (alike_front (vec_leaves e) (vecs_leaves bank) alike)) (same_list_flows bank (alike_back (vec_leaves e) (vecs_leaves bank) alike))

-- ---- by each leaf

among_first : (l : ℕ) (same other : Bool) → same ≡ (l == l) → (same || other) ≡ true
among_first l same other is = grind arith

among_later : (one other : Bool) → other ≡ true → (one || other) ≡ true
among_later true other is = refl
among_later false other is = is

-- what holds of each leaf of a part
pub each_agrees : (s t : ℕ → Content) (labels : List ℕ) → ((leaf : ℕ) → is_among leaf labels ≡ true → s leaf ≡ t leaf) → Agree s t labels
each_agrees s t [] each = tt
each_agrees s t (l ∷ labels) each = (each l (among_first l (l == l) _ refl), each_agrees s t labels (λ leaf among. each leaf (among_later (l == leaf) _ among)))

pub each_alike : (way other : ℕ → Way) (labels : List ℕ) → ((leaf : ℕ) → is_among leaf labels ≡ true → AreAlike (way leaf) (other leaf)) → AlikeOn way other labels
each_alike way other [] each = tt
each_alike way other (l ∷ labels) each = (each l (among_first l (l == l) _ refl), each_alike way other labels (λ leaf among. each leaf (among_later (l == leaf) _ among)))
