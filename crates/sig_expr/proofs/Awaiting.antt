-- What isn't awaited doesn't matter: contents that agree on the awaited leaves show the same, and the same leaves are awaited.
use Rattle.std.proofs.Common.{◌≡◌, ℕ, zero, suc, ℤ, pos, List, [], ◌∷◌, ◌++◌, map, length, get_or, filter, refl, sym, ap, ap₂}
use Rattle.std.specs.List.{flat_map}
use Rattle.std.specs.Option.{unwrap_or}
use Rattle.sig_diff.specs.Entries.{value_at, keys_of, values_of, values_mapped}
use Rattle.sig_diff.specs.Numbers.{class_of, clamped, total}
use Rattle.sig_diff.specs.Sorting.{by_key, in_order}
use Rattle.sig_diff.specs.declared.contents.Content.{Content}
use Rattle.sig_expr.specs.Functions.{image, passes}
use Rattle.sig_expr.specs.Awaited.{all_of, sig_awaits, vec_awaits, each_sig_awaits, each_vec_awaits, awaits, Agree}
use Rattle.sig_expr.specs.Shows.{DependsOnAwaited}
use Rattle.sig_expr.specs.declared.shown.Shown.TheVariants.{Signal, Vector, Map, Pairs}
use Rattle.sig_expr.specs.Leaves.{map_leaves, sig_leaves, vec_leaves, sigs_leaves, vecs_leaves, leaves}
use Rattle.sig_diff.specs.Contents.{number_in, list_in, entries_in}
use Rattle.sig_diff.specs.Choosing.{chosen, list_for, is_let_in, raised_by}
use Rattle.sig_expr.specs.Evaluation.{entries_of, value_of, list_of, signals_of, lists_of}
use Rattle.sig_expr.specs.Trees.{MapTree, map_source, mapped_values, SigTree, cell, mapped_signal, deduped, switched, length_of, total_of, at_key, VecTree, vector, mapped, filtered, filtered_by, mapped_by, sorted, joined, flattened, picked, keys_in, values_in, SigTrees, no_signals, more_signals, VecTrees, no_lists, more_lists, ViewTree, signal_view, vector_view, map_view, entries_view, tagged_view}

-- the same is shown, and the same leaves are awaited for it
pub record Same {L A : Type 0} (x y : A) (awaited_for_x awaited_for_y : List L) : Type 0 where
  pub shown : x ≡ y
  pub awaited : awaited_for_x ≡ awaited_for_y

-- some of the leaves, in their order
pub data IsAmong {L : Type 0} : List L → List L → Type 0 where
  none : IsAmong [] []
  kept : {labels all : List L} (l : L) → IsAmong labels all → IsAmong (l ∷ labels) (l ∷ all)
  left_out : {labels all : List L} (l : L) → IsAmong labels all → IsAmong labels (l ∷ all)

module _ {L : Type 0} where
  among_nothing : (all : List L) → IsAmong [] all
  among_nothing [] = none
  among_nothing (l ∷ all) = left_out l (among_nothing all)

  among_itself : (all : List L) → IsAmong all all
  among_itself [] = none
  among_itself (l ∷ all) = kept l (among_itself all)

  among_back : {labels more : List L} (all : List L) → IsAmong labels more → IsAmong labels (all ++ more)
  among_back [] among = among
  among_back (l ∷ all) among = left_out l (among_back all among)

  among_append : {labels all more all_more : List L} → IsAmong labels all → IsAmong more all_more → IsAmong (labels ++ more) (all ++ all_more)
  among_append none second = second
  among_append (kept l first) second = kept l (among_append first second)
  among_append (left_out l first) second = left_out l (among_append first second)

  among_front : {labels all : List L} (more : List L) → IsAmong labels all → IsAmong labels (all ++ more)
  among_front more none = among_nothing more
  among_front more (kept l among) = kept l (among_front more among)
  among_front more (left_out l among) = left_out l (among_front more among)

module _ {L : Type 0} (s t : L → Content) where
  -- contents that agree on leaves agree the other way round
  pub agree_symmetric : (labels : List L) → Agree s t labels → Agree t s labels
  agree_symmetric [] agree = tt
  agree_symmetric (l ∷ labels) agree = (sym agree.0, agree_symmetric labels agree.1)

  -- contents that agree on leaves agree on the front ones
  pub agree_front : (labels more : List L) → Agree s t (labels ++ more) → Agree s t labels
  agree_front [] more agree = tt
  agree_front (l ∷ labels) more agree = (agree.0, agree_front labels more agree.1)

  -- contents that agree on leaves agree on the ones at the back
  pub agree_back : (labels more : List L) → Agree s t (labels ++ more) → Agree s t more
  agree_back [] more agree = agree
  agree_back (l ∷ labels) more agree = agree_back labels more agree.1

  -- contents that agree on leaves agree on any of them
  pub agree_among : {labels all : List L} → IsAmong labels all → Agree s t all → Agree s t labels
  agree_among none agree = tt
  agree_among (kept l among) agree = (agree.0, agree_among among agree.1)
  agree_among (left_out l among) agree = agree_among among agree.1

  -- a bank has as many signals, whatever the contents
  pub length_signals : (bank : SigTrees L) → length (signals_of t bank) ≡ length (signals_of s bank)
  length_signals no_signals = refl
  length_signals (more_signals e bank) = ap suc (length_signals bank)

  -- a bank has as many parts as it has signals, whatever the contents
  pub length_each_sig : (bank : SigTrees L) → length (each_sig_awaits t bank) ≡ length (signals_of s bank)
  length_each_sig no_signals = refl
  length_each_sig (more_signals e bank) = ap suc (length_each_sig bank)

  -- a bank has as many lists, whatever the contents
  pub length_lists : (bank : VecTrees L) → length (lists_of t bank) ≡ length (lists_of s bank)
  length_lists no_lists = refl
  length_lists (more_lists e bank) = ap suc (length_lists bank)

  -- a bank has as many parts as it has lists, whatever the contents
  pub length_each_vec : (bank : VecTrees L) → length (each_vec_awaits t bank) ≡ length (lists_of s bank)
  length_each_vec no_lists = refl
  length_each_vec (more_lists e bank) = ap suc (length_each_vec bank)

-- ---- the awaited leaves are among the leaves

module _ {L : Type 0} (s : L → Content) where
  mutual
    -- the leaves that a signal awaits are among its leaves
    pub sig_among : (e : SigTree L) → IsAmong (sig_awaits s e) (sig_leaves e)
    sig_among (cell l) = among_itself (l ∷ [])
    sig_among (mapped_signal f e) = sig_among e
    sig_among (deduped e) = sig_among e
    sig_among (switched e bank) = among_append (sig_among e) (sig_part_among bank (class_of (length (each_sig_awaits s bank)) (value_of s e)))
    sig_among (length_of e) = vec_among e
    sig_among (total_of e) = vec_among e
    sig_among (at_key key default m) = among_itself (map_leaves m)

    -- the leaves that a list awaits are among its leaves
    pub vec_among : (e : VecTree L) → IsAmong (vec_awaits s e) (vec_leaves e)
    vec_among (vector l) = among_itself (l ∷ [])
    vec_among (mapped f e) = vec_among e
    vec_among (filtered p e) = vec_among e
    vec_among (filtered_by e bank) = among_append (vec_among e) (sigs_among bank)
    vec_among (mapped_by e bank) = among_append (vec_among e) (sigs_among bank)
    vec_among (sorted f e) = vec_among e
    vec_among (joined a b) = among_append (vec_among a) (vec_among b)
    vec_among (flattened e bank) = among_append (vec_among e) (vecs_among bank)
    vec_among (picked e bank) = among_append (sig_among e) (vec_part_among bank (class_of (length (each_vec_awaits s bank)) (value_of s e)))
    vec_among (keys_in m) = among_itself (map_leaves m)
    vec_among (values_in m) = among_itself (map_leaves m)

    pub sigs_among : (bank : SigTrees L) → IsAmong (all_of (each_sig_awaits s bank)) (sigs_leaves bank)
    sigs_among no_signals = none
    sigs_among (more_signals e bank) = among_append (sig_among e) (sigs_among bank)

    pub vecs_among : (bank : VecTrees L) → IsAmong (all_of (each_vec_awaits s bank)) (vecs_leaves bank)
    vecs_among no_lists = none
    vecs_among (more_lists e bank) = among_append (vec_among e) (vecs_among bank)

    pub sig_part_among : (bank : SigTrees L) (index : ℕ) → IsAmong (get_or (each_sig_awaits s bank) index []) (sigs_leaves bank)
    sig_part_among no_signals index = none
    sig_part_among (more_signals e bank) zero = among_front (sigs_leaves bank) (sig_among e)
    sig_part_among (more_signals e bank) (suc index) = among_back (sig_leaves e) (sig_part_among bank index)

    pub vec_part_among : (bank : VecTrees L) (index : ℕ) → IsAmong (get_or (each_vec_awaits s bank) index []) (vecs_leaves bank)
    vec_part_among no_lists index = none
    vec_part_among (more_lists e bank) zero = among_front (vecs_leaves bank) (vec_among e)
    vec_part_among (more_lists e bank) (suc index) = among_back (vec_leaves e) (vec_part_among bank index)

  -- the leaves that a view awaits are among its leaves, in their order
  pub awaits_among : (view : ViewTree L) → IsAmong (awaits s view) (leaves view)
  awaits_among (signal_view e) = sig_among e
  awaits_among (vector_view e) = vec_among e
  awaits_among (map_view m) = among_itself (map_leaves m)
  awaits_among (entries_view m) = among_itself (map_leaves m)
  awaits_among (tagged_view e) = vec_among e

-- ---- what is shown

module _ {L : Type 0} (s t : L → Content) where
  same_by : {A B : Type 0} {x y : A} {ls ms : List L} (f : A → B) → Same x y ls ms → Same (f x) (f y) ls ms
  same_by f same = record { shown = ap f same.shown; awaited = same.awaited }

  -- what two expressions together show
  both_same : {A B C : Type 0} {x y : A} {v w : B} {ls ms ns ps : List L} (f : A → B → C) → (Agree s t ls → Same x y ls ms) → (Agree s t ns → Same v w ns ps) → Agree s t (ls ++ ns) → Same (f x v) (f y w) (ls ++ ns) (ms ++ ps)
  both_same {ls = ls} {ns = ns} f first second agree =
      let front = first (agree_front s t ls ns agree) in
      let back = second (agree_back s t ls ns agree) in
      record { shown = ap₂ f front.shown back.shown; awaited = ap₂ ◌++◌ front.awaited back.awaited }

  -- what the part shows that an expression chooses of a bank
  choice_same : {A : Type 0} {x y : ℤ} {ls ms : List L} (xs ys : List A) (lss mss : List (List L)) (default : A) → length ys ≡ length xs → length lss ≡ length xs → length mss ≡ length xs → (Agree s t ls → Same x y ls ms) →
      ((index : ℕ) → Agree s t (get_or lss index []) → Same (get_or xs index default) (get_or ys index default) (get_or lss index []) (get_or mss index [])) →
      Agree s t (ls ++ chosen lss x []) → Same (chosen xs x default) (chosen ys y default) (ls ++ chosen lss x []) (ms ++ chosen mss y [])
  choice_same {x = x} {ls = ls} xs ys lss mss default count_ys count_lss count_mss first parts agree =
      let chooser = first (agree_front s t ls (chosen lss x []) agree) in
      let part = parts (class_of (length lss) x) (agree_back s t ls (chosen lss x []) agree) in
      record { shown = cc; awaited = cc }

  -- contents that agree on a map's leaves give it the same entries
  pub map_same : (m : MapTree L) → Agree s t (map_leaves m) → entries_of s m ≡ entries_of t m
  map_same (map_source l) agree = ap entries_in agree.0
  map_same (mapped_values f m) agree = ap (values_mapped (image f)) (map_same m agree)

  mutual
    -- contents that agree on the leaves that a signal awaits give it the same value, and then it awaits the same
    pub sig_same : (e : SigTree L) → Agree s t (sig_awaits s e) → Same (value_of s e) (value_of t e) (sig_awaits s e) (sig_awaits t e)
    sig_same (cell l) agree = record { shown = ap number_in agree.0; awaited = refl }
    sig_same (mapped_signal f e) agree = same_by (image f) (sig_same e agree)
    sig_same (deduped e) agree = sig_same e agree
    sig_same (switched e bank) agree =
        choice_same (signals_of s bank) (signals_of t bank) (each_sig_awaits s bank) (each_sig_awaits t bank) (pos 0) (length_signals s t bank) (length_each_sig s s bank) (length_each_sig s t bank) (sig_same e) (sig_part_same bank) agree
    sig_same (length_of e) agree = same_by (λ xs. pos (length xs)) (vec_same e agree)
    sig_same (total_of e) agree = same_by (λ xs. clamped (total xs)) (vec_same e agree)
    sig_same (at_key key default m) agree = record { shown = ap (λ entries. unwrap_or (value_at key entries) default) (map_same m agree); awaited = refl }

    -- contents that agree on the leaves that a list awaits give it the same items, and then it awaits the same
    pub vec_same : (e : VecTree L) → Agree s t (vec_awaits s e) → Same (list_of s e) (list_of t e) (vec_awaits s e) (vec_awaits t e)
    vec_same (vector l) agree = record { shown = ap list_in agree.0; awaited = refl }
    vec_same (mapped f e) agree = same_by (map (image f)) (vec_same e agree)
    vec_same (filtered p e) agree = same_by (filter (passes p)) (vec_same e agree)
    vec_same (filtered_by e bank) agree = both_same (λ xs signals. filter (is_let_in signals) xs) (vec_same e) (sigs_same bank) agree
    vec_same (mapped_by e bank) agree = both_same (λ xs signals. map (raised_by signals) xs) (vec_same e) (sigs_same bank) agree
    vec_same (sorted f e) agree = same_by (in_order (by_key (image f))) (vec_same e agree)
    vec_same (joined a b) agree = both_same ◌++◌ (vec_same a) (vec_same b) agree
    vec_same (flattened e bank) agree = both_same (λ xs lists. flat_map (list_for lists) xs) (vec_same e) (vecs_same bank) agree
    vec_same (picked e bank) agree =
        choice_same (lists_of s bank) (lists_of t bank) (each_vec_awaits s bank) (each_vec_awaits t bank) [] (length_lists s t bank) (length_each_vec s s bank) (length_each_vec s t bank) (sig_same e) (vec_part_same bank) agree
    vec_same (keys_in m) agree = record { shown = ap keys_of (map_same m agree); awaited = refl }
    vec_same (values_in m) agree = record { shown = ap values_of (map_same m agree); awaited = refl }

    -- the same for all signals of a bank
    pub sigs_same : (bank : SigTrees L) → Agree s t (all_of (each_sig_awaits s bank)) → Same (signals_of s bank) (signals_of t bank) (all_of (each_sig_awaits s bank)) (all_of (each_sig_awaits t bank))
    sigs_same no_signals agree = record { shown = refl; awaited = refl }
    sigs_same (more_signals e bank) agree = both_same ◌∷◌ (sig_same e) (sigs_same bank) agree

    -- the same for all lists of a bank
    pub vecs_same : (bank : VecTrees L) → Agree s t (all_of (each_vec_awaits s bank)) → Same (lists_of s bank) (lists_of t bank) (all_of (each_vec_awaits s bank)) (all_of (each_vec_awaits t bank))
    vecs_same no_lists agree = record { shown = refl; awaited = refl }
    vecs_same (more_lists e bank) agree = both_same ◌∷◌ (vec_same e) (vecs_same bank) agree

    -- the same for one signal of a bank
    pub sig_part_same : (bank : SigTrees L) (index : ℕ) → Agree s t (get_or (each_sig_awaits s bank) index []) →
        Same (get_or (signals_of s bank) index (pos 0)) (get_or (signals_of t bank) index (pos 0)) (get_or (each_sig_awaits s bank) index []) (get_or (each_sig_awaits t bank) index [])
    sig_part_same no_signals index agree = record { shown = refl; awaited = refl }
    sig_part_same (more_signals e bank) zero agree = sig_same e agree
    sig_part_same (more_signals e bank) (suc index) agree = sig_part_same bank index agree

    -- the same for one list of a bank
    pub vec_part_same : (bank : VecTrees L) (index : ℕ) → Agree s t (get_or (each_vec_awaits s bank) index []) →
        Same (get_or (lists_of s bank) index []) (get_or (lists_of t bank) index []) (get_or (each_vec_awaits s bank) index []) (get_or (each_vec_awaits t bank) index [])
    vec_part_same no_lists index agree = record { shown = refl; awaited = refl }
    vec_part_same (more_lists e bank) zero agree = vec_same e agree
    vec_part_same (more_lists e bank) (suc index) agree = vec_part_same bank index agree

  -- contents that agree on all leaves of a view agree on those that it awaits
  pub agree_awaits : (view : ViewTree L) → Agree s t (leaves view) → Agree s t (awaits s view)
  agree_awaits view agree = agree_among s t (awaits_among s view) agree

-- a view shows the same for any contents that agree on the leaves it awaits, and awaits the same leaves
pub depends_on_awaited : {L : Type 0} (view : ViewTree L) (s : L → Content) → DependsOnAwaited view s
depends_on_awaited (signal_view e) s t agree = let same = sig_same s t e agree in (ap Signal same.shown, same.awaited)
depends_on_awaited (vector_view e) s t agree = let same = vec_same s t e agree in (ap Vector same.shown, same.awaited)
depends_on_awaited (map_view m) s t agree = (ap Map (map_same s t m agree), refl)
depends_on_awaited (entries_view m) s t agree = (ap Pairs (map_same s t m agree), refl)
depends_on_awaited (tagged_view e) s t agree = let same = vec_same s t e agree in (ap Vector same.shown, same.awaited)
