-- Leaves that stay where they are give nothing.
use Rattle.std.proofs.Common.{◌≡◌, ℕ, zero, suc, ◌+◌, ℤ, pos, List, [], ◌∷◌, length, get_or, Option, None, unwrap_or, refl, ap, arith}
use Rattle.std.proofs.lemmas.Bool.Decides.{Decides-int_eq}
use Rattle.std.proofs.lemmas.List.{drop-take}
use Rattle.sig_bank.specs.Banks.{BySignals}
use Rattle.sig_diff.specs.Entries.{value_at}
use Rattle.sig_diff.specs.Numbers.{clamped, total}
use Rattle.sig_diff.specs.declared.contents.Content.{Content}
use Rattle.sig_diff.specs.declared.contents.Content.TheVariants.{Cell, Vector, Map}
use Rattle.sig_diff.specs.declared.differences.VecDiff.{VecDiff}
use Rattle.sig_expr.specs.Evaluation.{entries_of, list_of}
use Rattle.sig_expr.specs.Trees.{MapTree, map_source, mapped_values, SigTree, cell, mapped_signal, deduped, switched, length_of, total_of, at_key, VecTree, vector, mapped, filtered, filtered_by, mapped_by, sorted, joined, flattened, picked, keys_in, values_in, SigTrees, no_signals, more_signals, VecTrees, no_lists, more_lists}
use Rattle.sig_flat.specs.Flattening.{Blocks}
use Rattle.sig_hist.specs.Entering.{list_entering, map_entering, number_entering}
use Rattle.sig_ops.specs.Signals.{given}
use Rattle.sig_hist.specs.Ways.{Way, passed, state_at}
use Rattle.sig_rows.specs.Flow.{by_signals, list_flow, list_flows, map_flow, parts_flow, new, old, value_flow, value_flows}

-- all of a list are this
abbrev AllAre : {A : Type 0} → A → List A → Type 0
AllAre x [] = Unit {0}
AllAre x (y ∷ ys) = (y ≡ x) × AllAre x ys

one_of : {A : Type 0} (x : A) (ys : List A) (place : ℕ) → AllAre x ys → get_or ys place x ≡ x
one_of x [] place all = refl
one_of x (y ∷ ys) zero all = all.0
one_of x (y ∷ ys) (suc place) all = one_of x ys place all.1

none_by_parts : (place : ℕ) (op : Blocks) (lists : List (List (VecDiff ℤ))) → AllAre [] lists → parts_flow place op lists ≡ []
none_by_parts place op [] none = refl
none_by_parts place op (diffs ∷ lists) none = rw none.0 (none_by_parts (place + 1) op lists none.1)

none_by_signals : (gives : BySignals → ℕ → ℤ → List (VecDiff ℤ)) (op : BySignals) (place : ℕ) (values : List (Option ℤ)) → AllAre None values → by_signals gives op place values ≡ []
none_by_signals gives op place [] none = refl
none_by_signals gives op place (value ∷ values) none = rw none.0 (none_by_signals gives op (place + 1) values none.1)

no_list : (content : Content) (cap : ℕ) → list_entering content cap [] ≡ []
no_list (Cell x) cap = refl
no_list (Vector items) cap = refl
no_list (Map entries) cap = refl

no_map : (content : Content) (cap : ℕ) → map_entering content cap [] ≡ []
no_map (Cell x) cap = refl
no_map (Vector items) cap = refl
no_map (Map entries) cap = refl

no_number : (content : Content) (cap : ℕ) → number_entering content cap [] ≡ None
no_number (Cell x) cap = refl
no_number (Vector items) cap = refl
no_number (Map entries) cap = refl

given_again : (x y : ℤ) → x ≡ y → given x y ≡ None
given_again x y same = rw ((Decides-int_eq x y).1 same) refl

module _ {L : Type 0} (way : L → Way) (still : (leaf : L) → (way leaf).from ≡ (way leaf).to) where
  same_contents : old way ≡ new way
  same_contents = λ i leaf. state_at (way leaf).source (still leaf i)

  nothing_passed : (leaf : L) → passed (way leaf) ≡ []
  nothing_passed leaf =
      let same : (way leaf).from + 0 ≡ (way leaf).to = omega (arith, still leaf) in
      rw (← same) (drop-take (way leaf).from 0 (way leaf).source.history)

  pub still_map : (m : MapTree L) → map_flow way m ≡ []
  still_map (map_source leaf) = rw (nothing_passed leaf) (no_map _ _)
  still_map (mapped_values f m) = rw (still_map m) refl

  mutual
    pub still_list : (e : VecTree L) → list_flow way e ≡ []
    still_list (vector leaf) = rw (nothing_passed leaf) (no_list _ _)
    still_list (mapped f e) = rw (still_list e) refl
    still_list (filtered p e) = rw (still_list e) refl
    still_list (sorted f e) = rw (still_list e) refl
    still_list (filtered_by e bank) = rw (still_list e) (none_by_signals _ _ 0 (value_flows way bank) (still_values bank))
    still_list (mapped_by e bank) = rw (still_list e) (none_by_signals _ _ 0 (value_flows way bank) (still_values bank))
    still_list (picked e bank) = rw (still_value e) (one_of [] (list_flows way bank) _ (still_lists bank))
    still_list (joined a b) = rw (still_list a, still_list b) refl
    still_list (flattened e bank) = rw (still_list e) (none_by_parts 0 _ (list_flows way bank) (still_lists bank))
    still_list (keys_in m) = rw (still_map m) refl
    still_list (values_in m) = rw (still_map m) refl

    pub still_value : (e : SigTree L) → value_flow way e ≡ None
    still_value (cell leaf) = rw (nothing_passed leaf) (no_number _ _)
    still_value (mapped_signal f e) = rw (still_value e) refl
    still_value (deduped e) = rw (still_value e) refl
    still_value (switched e bank) = rw (still_value e, one_of None (value_flows way bank) _ (still_values bank)) refl
    still_value (length_of e) = given_again _ _ (ap (λ s. pos (length (list_of s e))) same_contents)
    still_value (total_of e) = given_again _ _ (ap (λ s. clamped (total (list_of s e))) same_contents)
    still_value (at_key key default m) = given_again _ _ (ap (λ s. unwrap_or (value_at key (entries_of s m)) default) same_contents)

    still_values : (bank : SigTrees L) → AllAre None (value_flows way bank)
    still_values no_signals = tt
    still_values (more_signals e bank) = (still_value e, still_values bank)

    still_lists : (bank : VecTrees L) → AllAre [] (list_flows way bank)
    still_lists no_lists = tt
    still_lists (more_lists e bank) = (still_list e, still_lists bank)
