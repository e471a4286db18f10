-- What holds of the number for every name, and of 0, holds of every leaf of what is built.
use Rattle.std.proofs.Common.{◌≡◌, ℕ, zero, suc, List, ◌++◌, map, Bool, true, Option, None, Some, refl, rules}
use Rattle.std.proofs.lemmas.List.Folds.{list_all-append}
use Rattle.std.specs.List.{list_all}
use Rattle.std.specs.Option.{option_map_or}
use Rattle.sig_expr.specs.Leaves.{leaves, map_leaves, sig_leaves, sigs_leaves, vec_leaves, vecs_leaves}
use Rattle.sig_expr.specs.Shapes.{map_tree, sig_tree, sig_trees, vec_tree, vec_trees, view_tree}
use Rattle.sig_expr.specs.Trees.{switched, filtered_by, mapped_by, flattened, picked}
use Rattle.sig_expr.specs.declared.expressions.MapExpr
use Rattle.sig_expr.specs.declared.expressions.MapExpr.{MapExpr}
use Rattle.sig_expr.specs.declared.expressions.SigExpr
use Rattle.sig_expr.specs.declared.expressions.SigExpr.{SigExpr}
use Rattle.sig_expr.specs.declared.expressions.VecExpr
use Rattle.sig_expr.specs.declared.expressions.VecExpr.{VecExpr}
use Rattle.serde_json.specs.Data.{Data, Items, no_items, item}
use Rattle.sig_script.specs.Building.{defs, map_built, map_from, map_of, signal_built, signal_from, signal_of, source_for, value_of, vector_built, vector_from, vector_of, view_of}
use Rattle.sig_script.specs.Grammar.{Field, Form, form_of}
use Rattle.sig_script.specs.declared.grammar.Class.TheVariants as class
use Rattle.sig_script.specs.declared.grammar.Meaning.{Meaning}
use Rattle.sig_script.specs.declared.grammar.Node.{Node}
use Rattle.sig_script.specs.declared.grammar.Node.TheVariants as node
use Rattle.sig_script.specs.declared.grammar.ViewKind.{ViewKind}
use Rattle.sig_script.specs.declared.grammar.ViewKind.TheVariants as shown

-- expressions with banks as trees
switch : (e : SigExpr) (bank : List SigExpr) → sig_tree (SigExpr.Switch e bank) ≡ switched (sig_tree e) (sig_trees (map sig_tree bank))
switch e bank = search (rules, SigExpr.the_lemmas)

filter_by : (e : VecExpr) (bank : List SigExpr) → vec_tree (VecExpr.FilterBy e bank) ≡ filtered_by (vec_tree e) (sig_trees (map sig_tree bank))
filter_by e bank = search (rules, VecExpr.the_lemmas)

map_by : (e : VecExpr) (bank : List SigExpr) → vec_tree (VecExpr.MapBy e bank) ≡ mapped_by (vec_tree e) (sig_trees (map sig_tree bank))
map_by e bank = search (rules, VecExpr.the_lemmas)

flatten : (e : VecExpr) (bank : List VecExpr) → vec_tree (VecExpr.Flatten e bank) ≡ flattened (vec_tree e) (vec_trees (map vec_tree bank))
flatten e bank = search (rules, VecExpr.the_lemmas)

pick : (e : SigExpr) (bank : List VecExpr) → vec_tree (VecExpr.Pick e bank) ≡ picked (sig_tree e) (vec_trees (map vec_tree bank))
pick e bank = search (rules, VecExpr.the_lemmas)

pub optional : {T A : Type 0} (test : A → Bool) (f : T → A) (other : A) → ((x : T) → test (f x) ≡ true) → test other ≡ true → (found : Option T) → test (option_map_or f found other) ≡ true
optional test f other each rest None = rest
optional test f other each rest (Some x) = each x

module _ (has : ℕ → Bool) where
  both : (xs ys : List ℕ) → list_all has xs ≡ true → list_all has ys ≡ true → list_all has (xs ++ ys) ≡ true
  both xs ys first second = rw (list_all-append has xs ys, first, second)

  abbrev has_signal : SigExpr → Bool
  has_signal e = list_all has (sig_leaves (sig_tree e))

  abbrev has_vector : VecExpr → Bool
  has_vector e = list_all has (vec_leaves (vec_tree e))

  abbrev has_map : MapExpr → Bool
  has_map m = list_all has (map_leaves (map_tree m))

  has_cell : (source : ℕ) → has source ≡ true → has_signal (SigExpr.Cell source) ≡ true
  has_cell source holds = search (rules, SigExpr.the_lemmas, holds)

  pub has_source_vector : (source : ℕ) → has source ≡ true → has_vector (VecExpr.Vector source) ≡ true
  has_source_vector source holds = search (rules, VecExpr.the_lemmas, holds)

  has_source_map : (source : ℕ) → has source ≡ true → has_map (MapExpr.Map source) ≡ true
  has_source_map source holds = search (rules, MapExpr.the_lemmas, holds)

  has_signals : (f : Data → SigExpr) → ((value : Data) → has_signal (f value) ≡ true) → (values : Items) → list_all has (sigs_leaves (sig_trees (map sig_tree (defs f values)))) ≡ true
  has_signals f each no_items = refl
  has_signals f each (item value values) = both _ _ (each value) (has_signals f each values)

  has_vectors : (f : Data → VecExpr) → ((value : Data) → has_vector (f value) ≡ true) → (values : Items) → list_all has (vecs_leaves (vec_trees (map vec_tree (defs f values)))) ≡ true
  has_vectors f each no_items = refl
  has_vectors f each (item value values) = both _ _ (each value) (has_vectors f each values)

  -- it holds of the leaves of whatever these build
  record Builds (signal : Data → SigExpr) (vector : Data → VecExpr) (map : Data → MapExpr) : Type 0 where
    pub signals : (value : Data) → has_signal (signal value) ≡ true
    pub vectors : (value : Data) → has_vector (vector value) ≡ true
    pub maps : (value : Data) → has_map (map value) ≡ true

  module _ (names : List (List ℕ × Meaning)) (sources : ℕ) (named : (value : Data) → has (source_for names sources value) ≡ true) (other : has 0 ≡ true) where
    module _ (signal : Data → SigExpr) (vector : Data → VecExpr) (map : Data → MapExpr) (builds : Builds signal vector map) where
      signal_fits : (node : Node) (fields : List Field) → has_signal (signal_built names sources signal vector map node fields) ≡ true
      signal_fits node.Cell fields = has_cell _ (named (value_of fields 0))
      signal_fits node.MapSignal fields = search (rules, SigExpr.the_lemmas, builds.signals)
      signal_fits node.Dedupe fields = search (rules, SigExpr.the_lemmas, builds.signals)
      signal_fits node.Switch fields = rw (switch _ _) (both _ _ (builds.signals _) (has_signals _ builds.signals _))
      signal_fits node.Len fields = search (rules, SigExpr.the_lemmas, builds.vectors)
      signal_fits node.Sum fields = search (rules, SigExpr.the_lemmas, builds.vectors)
      signal_fits node.Key fields = search (rules, SigExpr.the_lemmas, builds.maps)
      signal_fits _ fields = has_cell _ other

      vector_fits : (node : Node) (fields : List Field) → has_vector (vector_built names sources signal vector map node fields) ≡ true
      vector_fits node.Vector fields = has_source_vector _ (named (value_of fields 0))
      vector_fits node.MapVector fields = search (rules, VecExpr.the_lemmas, builds.vectors)
      vector_fits node.Filter fields = search (rules, VecExpr.the_lemmas, builds.vectors)
      vector_fits node.FilterBy fields = rw (filter_by _ _) (both _ _ (builds.vectors _) (has_signals _ builds.signals _))
      vector_fits node.MapBy fields = rw (map_by _ _) (both _ _ (builds.vectors _) (has_signals _ builds.signals _))
      vector_fits node.Sorted fields = search (rules, VecExpr.the_lemmas, builds.vectors)
      vector_fits node.Concat fields = search (rules, VecExpr.the_lemmas, both, builds.vectors)
      vector_fits node.Flatten fields = rw (flatten _ _) (both _ _ (builds.vectors _) (has_vectors _ builds.vectors _))
      vector_fits node.Pick fields = rw (pick _ _) (both _ _ (builds.signals _) (has_vectors _ builds.vectors _))
      vector_fits node.Keys fields = search (rules, VecExpr.the_lemmas, builds.maps)
      vector_fits node.Values fields = search (rules, VecExpr.the_lemmas, builds.maps)
      vector_fits _ fields = has_source_vector _ other

      map_fits : (node : Node) (fields : List Field) → has_map (map_built names sources signal vector map node fields) ≡ true
      map_fits node.Map fields = has_source_map _ (named (value_of fields 0))
      map_fits node.MapValue fields = search (rules, MapExpr.the_lemmas, builds.maps)
      map_fits _ fields = has_source_map _ other

    by_levels : (levels : ℕ) → Builds (signal_from names sources levels) (vector_from names sources levels) (map_from names sources levels)
    by_levels zero = record { signals = λ value. has_cell _ other; vectors = λ value. has_source_vector _ other; maps = λ value. has_source_map _ other }
    by_levels (suc levels) =
        let builds = by_levels levels in
        record {
          signals = λ value. optional has_signal _ _ (λ (form : Form). signal_fits _ _ _ builds form.node form.fields) (has_cell _ other) (form_of class.Signal value);
          vectors = λ value. optional has_vector _ _ (λ (form : Form). vector_fits _ _ _ builds form.node form.fields) (has_source_vector _ other) (form_of class.Vector value);
          maps = λ value. optional has_map _ _ (λ (form : Form). map_fits _ _ _ builds form.node form.fields) (has_source_map _ other) (form_of class.Map value);
        }

    pub view_fits : (kind : ViewKind) (value : Data) → list_all has (leaves (view_tree (view_of names sources kind value))) ≡ true
    unfolding signal_of vector_of map_of
    view_fits shown.Signal value = (by_levels 127).signals value
    view_fits shown.Vector value = (by_levels 127).vectors value
    view_fits shown.Map value = (by_levels 127).maps value
    view_fits shown.Entries value = (by_levels 127).maps value
    view_fits shown.Enumerate value = (by_levels 127).vectors value
