-- What a view gives as its leaves go on along the histories of their sources.
use Rattle.sig_hist.specs.Ways.{Way, before, behind, passed}
use Rattle.std.specs.Prelude.{ℕ, ◌+◌, ℤ, pos, List, [], ◌∷◌, ◌++◌, length, Option, None, Some, option_map, option_and_then}
use Rattle.std.specs.Option.{option_map_or, option_or, unwrap_or}
use Rattle.std.specs.List.{flat_map, fold}
use Rattle.sig_bank.specs.Banks.{BySignals, signals_next}
use Rattle.sig_bank.specs.Tables.{filter_by_signal, map_by_signal, pick_gives, switch_gives}
use Rattle.sig_diff.specs.Choosing.{chosen, is_let_in, raised_by}
use Rattle.sig_diff.specs.Differences.{applied}
use Rattle.sig_diff.specs.Entries.{value_at}
use Rattle.sig_diff.specs.MapDifferences.{map_applied}
use Rattle.sig_diff.specs.Numbers.{clamped, total}
use Rattle.sig_diff.specs.declared.contents.Content.{Content}
use Rattle.sig_diff.specs.declared.differences.VecDiff.{VecDiff}
use Rattle.sig_diff.specs.declared.differences.VecDiff.TheVariants.{Replace}
use Rattle.sig_diff.specs.declared.map_differences.MapDiff.{MapDiff}
use Rattle.sig_diff.specs.declared.map_differences.MapDiff.TheVariants as changed
use Rattle.sig_expr.specs.Functions.{image, passes}
use Rattle.sig_expr.specs.Evaluation.{entries_of, list_of, lists_of, signals_of, value_of}
use Rattle.sig_expr.specs.Shows.{shows}
use Rattle.sig_expr.specs.Trees.{MapTree, map_source, mapped_values, SigTree, cell, mapped_signal, deduped, switched, length_of, total_of, at_key, VecTree, vector, mapped, filtered, filtered_by, mapped_by, sorted, picked, keys_in, values_in, SigTrees, no_signals, more_signals, VecTrees, no_lists, more_lists, ViewTree, signal_view, vector_view, map_view, entries_view, tagged_view, joined, flattened}
use Rattle.sig_expr.specs.declared.shown.Shown.{Shown}
use Rattle.sig_expr.specs.declared.shown.Shown.TheVariants as shown
use Rattle.sig_flat.specs.Flattening.{Blocks, bank_gives, bank_next, outer_gives, outer_next}
use Rattle.sig_flat.specs.Joining.{Halves, joined_gives, joined_next}
use Rattle.sig_hist.specs.Entering.{list_entering, map_entering, number_entering}
use Rattle.sig_hist.specs.Histories.{state}
use Rattle.sig_maps.specs.Tables.{entries_gives, keys_gives, map_value_gives, values_gives}
use Rattle.sig_ops.specs.Enumerating.{Enumeration, enumerate_gives, enumeration_next, tagged_from}
use Rattle.sig_ops.specs.Following.{after_all, all_given}
use Rattle.sig_ops.specs.Signals.{given}
use Rattle.sig_ops.specs.Tables.{filter_gives, map_gives}
use Rattle.sig_sort.specs.Sorting.{sorted_gives}
use Rattle.sig_rows.specs.declared.rows.Body.{Body}
use Rattle.sig_rows.specs.declared.rows.Body.TheVariants as body

-- what an operator on a list gives for differences of it, one after another
abbrev pub through : {T U : Type 0} → (List T → VecDiff T → List (VecDiff U)) → List T → List (VecDiff T) → List (VecDiff U)
through gives xs [] = []
through gives xs (diff ∷ diffs) = gives xs diff ++ through gives (applied xs diff) diffs

-- what an operator that keeps a state gives for differences, one after another
abbrev pub given_along : {O D U : Type 0} → (O → D → List U) → (O → D → O) → O → List D → List U
given_along gives next op [] = []
given_along gives next op (diff ∷ diffs) = gives op diff ++ given_along gives next (next op diff) diffs

-- what a view of a map gives for differences of it
abbrev pub of_map : {U : Type 0} → (List (ℤ × ℤ) → MapDiff ℤ → List (VecDiff U)) → List (ℤ × ℤ) → List (MapDiff ℤ) → List (VecDiff U)
of_map gives = given_along gives map_applied

-- what two lists, one behind the other, give for differences of one of them
abbrev pub half_flow : ℕ → Halves → List (VecDiff ℤ) → List (VecDiff ℤ)
half_flow child = given_along (λ op. joined_gives op child) (λ op. joined_next op child)

-- what blocks give for differences of the list at a place of the bank, and what they are after those
abbrev pub part_flow : ℕ → Blocks → List (VecDiff ℤ) → List (VecDiff ℤ)
part_flow place = given_along (λ op. bank_gives op place) (λ op. bank_next op place)

abbrev pub after_part : ℕ → Blocks → List (VecDiff ℤ) → Blocks
after_part place = fold (λ op. bank_next op place)

-- and for what each list of the bank in turn gives, from this place on
abbrev pub parts_flow : ℕ → Blocks → List (List (VecDiff ℤ)) → List (VecDiff ℤ)
parts_flow place op [] = []
parts_flow place op (diffs ∷ more) = part_flow place op diffs ++ parts_flow (place + 1) (after_part place op diffs) more

abbrev pub after_parts : ℕ → Blocks → List (List (VecDiff ℤ)) → Blocks
after_parts place op [] = op
after_parts place op (diffs ∷ more) = after_parts (place + 1) (after_part place op diffs) more

-- what an operator gives where a signal gives a value, if it gives one
abbrev pub given_list : {A : Type 0} → (ℤ → List A) → Option ℤ → List A
given_list gives value = option_map_or gives value []

-- what an operator on a list by signals gives where each signal in turn gives a value, if it gives one, from this place on
abbrev pub by_signals : (BySignals → ℕ → ℤ → List (VecDiff ℤ)) → BySignals → ℕ → List (Option ℤ) → List (VecDiff ℤ)
by_signals gives op place [] = []
by_signals gives op place (None ∷ values) = by_signals gives op (place + 1) values
by_signals gives op place (Some value ∷ values) = gives op place value ++ by_signals gives (signals_next op place value) (place + 1) values

-- and what such an operator is after that
abbrev pub after_signals : BySignals → ℕ → List (Option ℤ) → BySignals
after_signals op place [] = op
after_signals op place (None ∷ values) = after_signals op (place + 1) values
after_signals op place (Some value ∷ values) = after_signals (signals_next op place value) (place + 1) values

module _ {L : Type 0} (way : L → Way) where
  -- the contents of the leaves before and after
  abbrev pub old : L → Content
  old leaf = before (way leaf)

  abbrev pub new : L → Content
  new leaf = behind (way leaf)

  abbrev pub map_flow : MapTree L → List (MapDiff ℤ)
  map_flow (map_source leaf) = map_entering (old leaf) (way leaf).source.plan.cap (passed (way leaf))
  map_flow (mapped_values f m) = flat_map (map_value_gives (image f)) (map_flow m)

  abbrev mutual
    pub list_flow : VecTree L → List (VecDiff ℤ)
    list_flow (vector leaf) = list_entering (old leaf) (way leaf).source.plan.cap (passed (way leaf))
    list_flow (mapped f e) = flat_map (map_gives (image f)) (list_flow e)
    list_flow (filtered p e) = through (filter_gives (passes p)) (list_of old e) (list_flow e)
    list_flow (sorted f e) = through (sorted_gives (image f)) (list_of old e) (list_flow e)
    list_flow (filtered_by e bank) =
        through (filter_gives (is_let_in (signals_of old bank))) (list_of old e) (list_flow e)
        ++ by_signals filter_by_signal (record { items = list_of new e; signals = signals_of old bank }) 0 (value_flows bank)
    list_flow (mapped_by e bank) =
        flat_map (map_gives (raised_by (signals_of old bank))) (list_flow e)
        ++ by_signals map_by_signal (record { items = list_of new e; signals = signals_of old bank }) 0 (value_flows bank)
    list_flow (joined a b) =
        half_flow 0 (record { left = length (list_of old a); right = length (list_of old b) }) (list_flow a)
        ++ half_flow 1 (record { left = length (list_of new a); right = length (list_of old b) }) (list_flow b)
    list_flow (flattened e bank) =
        given_along outer_gives outer_next (record { outer = list_of old e; parts = lists_of old bank }) (list_flow e)
        ++ parts_flow 0 (record { outer = list_of new e; parts = lists_of old bank }) (list_flows bank)
    list_flow (picked e bank) =
        given_list (pick_gives (record { chooser = value_of old e; parts = lists_of old bank })) (value_flow e)
        ++ chosen (list_flows bank) (value_of new e) []
    list_flow (keys_in m) = of_map keys_gives (entries_of old m) (map_flow m)
    list_flow (values_in m) = of_map values_gives (entries_of old m) (map_flow m)

    -- the value that a signal gives, where it gives one
    pub value_flow : SigTree L → Option ℤ
    value_flow (cell leaf) = number_entering (old leaf) (way leaf).source.plan.cap (passed (way leaf))
    value_flow (mapped_signal f e) = option_map (image f) (value_flow e)
    value_flow (deduped e) = option_and_then (given (value_of old e)) (value_flow e)
    value_flow (switched e bank) =
        option_or (chosen (value_flows bank) (value_of new e) None)
        (option_and_then (switch_gives (record { chooser = value_of old e; parts = signals_of old bank }) 0) (value_flow e))
    value_flow (length_of e) = given (pos (length (list_of old e))) (pos (length (list_of new e)))
    value_flow (total_of e) = given (clamped (total (list_of old e))) (clamped (total (list_of new e)))
    value_flow (at_key key default m) = given (unwrap_or (value_at key (entries_of old m)) default) (unwrap_or (value_at key (entries_of new m)) default)

    -- what each part of a bank gives
    pub value_flows : SigTrees L → List (Option ℤ)
    value_flows no_signals = []
    value_flows (more_signals e bank) = value_flow e ∷ value_flows bank

    pub list_flows : VecTrees L → List (List (VecDiff ℤ))
    list_flows no_lists = []
    list_flows (more_lists e bank) = list_flow e ∷ list_flows bank

  -- without tags
  abbrev pub flow : ViewTree L → Body
  flow (signal_view e) = body.Signal (value_flow e)
  flow (vector_view e) = body.Vector (list_flow e)
  flow (map_view m) = body.Map (map_flow m)
  flow (entries_view m) = body.Pairs (of_map entries_gives (entries_of old m) (map_flow m))
  flow (tagged_view e) = body.Vector (list_flow e)

-- what a view gives whose elements have tags, and the tags after that
abbrev pub with_tags : Option Enumeration → Body → Body
with_tags (Some op) (body.Vector diffs) = body.Tagged (all_given enumeration_next enumerate_gives op diffs)
with_tags _ given = given

abbrev pub tags_after : Option Enumeration → Body → Option Enumeration
tags_after (Some op) (body.Vector diffs) = Some (after_all enumeration_next op diffs)
tags_after tags given = tags

-- all that is shown, at once
abbrev pub whole_body : Shown → Body
whole_body (shown.Signal value) = body.Signal (Some value)
whole_body (shown.Vector items) = body.Vector (Replace items ∷ [])
whole_body (shown.Map entries) = body.Map (changed.Replace entries ∷ [])
whole_body (shown.Pairs pairs) = body.Pairs (Replace pairs ∷ [])
whole_body (shown.Tagged elements) = body.Tagged (Replace elements ∷ [])

-- the first row's body, by what the leaves hold
abbrev pub first_body : {L : Type 0} → ViewTree L → (L → Content) → Body
first_body (tagged_view e) s = body.Tagged (Replace (tagged_from 0 (list_of s e)) ∷ [])
first_body view s = whole_body (shows view s)
