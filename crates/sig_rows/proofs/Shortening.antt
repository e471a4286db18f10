-- No list on the way of a view is longer than the caps of its sources allow.
use Rattle.std.proofs.Common.{ℕ, ◌+◌, ◌*◌, ◌≤◌, ℤ, List, [], ◌∷◌, ◌++◌, length, take, map, filter_map, pos, cond, Bool, true, false, ◌&&◌, not, Option, None, Some, refl, arith, le_trans}
use Rattle.std.proofs.Math.Nat.{le-max_left}
use Rattle.std.specs.List.{flat_map}
use Rattle.std.specs.Option.{option_map_or, option_to_list}
use Rattle.sig_bank.specs.Banks.{BySignals}
use Rattle.sig_bank.specs.Tables.{pick_gives}
use Rattle.sig_diff.specs.Choosing.{chosen, is_let_in, list_for, raised_by}
use Rattle.sig_diff.specs.Contents.{entries_in, list_in}
use Rattle.sig_diff.specs.Differences.{applied, is_lawful}
use Rattle.sig_diff.specs.Replaying.{AreLawful, StaysShort}
use Rattle.sig_diff.specs.declared.contents.Content.{Content}
use Rattle.sig_diff.specs.declared.contents.Content.TheVariants.{Cell, Vector, Map}
use Rattle.sig_diff.specs.declared.differences.VecDiff.{VecDiff}
use Rattle.sig_diff.specs.declared.differences.VecDiff.TheVariants.{Replace}
use Rattle.sig_diff.specs.declared.map_differences.MapDiff.{MapDiff}
use Rattle.sig_expr.specs.Bounds.{map_bound, greatest_bound, vec_bound}
use Rattle.sig_expr.specs.Functions.{image, passes}
use Rattle.sig_expr.specs.Evaluation.{entries_of, list_of, lists_of, signals_of, value_of}
use Rattle.sig_expr.specs.Trees.{MapTree, VecTree, vector, mapped, filtered, filtered_by, mapped_by, sorted, picked, keys_in, values_in, VecTrees, no_lists, more_lists, joined, flattened}
use Rattle.sig_hist.proofs.Entries.{within_cap}
use Rattle.sig_hist.specs.Changes.{Change, after, change_of, edited, is_long, size_of}
use Rattle.sig_hist.specs.Entering.{as_list, is_far, list_entering}
use Rattle.sig_hist.specs.Histories.{changes_by, state}
use Rattle.sig_hist.specs.Plain.{no_source}
use Rattle.sig_hist.specs.Sources.{Source}
use Rattle.sig_hist.specs.declared.edits.Edit.{Edit}
use Rattle.sig_hist.specs.declared.edits.Entry.{Entry}
use Rattle.sig_ops.specs.Tables.{map_gives}
use Rattle.sig_ops.specs.laws.Leading.{stays_append}
use Rattle.sig_rows.proofs.BlocksReach.{PartShort, blocks_short}
use Rattle.sig_rows.proofs.ByClass.{EachGoes, no_part, one_part, GoesBySignals, IsGivenOrKept, SignalsGo, by_signals_reach, chosen_goes, filter_goes_by_signals, map_goes_by_signals, pick_leads}
use Rattle.sig_rows.proofs.ByMap.{FollowsMap, keys_follow, of_map_stays, values_follow}
use Rattle.sig_rows.proofs.MapShortening.{map_flow_short}
use Rattle.sig_rows.proofs.Reaching.{flow_reaches, map_flow_reaches, map_rises, signal_reaches, signals_reach}
use Rattle.sig_rows.proofs.GoingAlong.{GoesShort, short_after, short_for_more, stays_for_more}
use Rattle.sig_rows.proofs.HalvesReach.{halves_short}
use Rattle.sig_rows.proofs.Entered.{KeepsUp, Reaches, filter_keeps_up, map_keeps_up, map_reaches, map_through, sorted_keeps_up, through_follows, through_reaches}
use Rattle.sig_hist.specs.Ways.{GoesAhead, Way, before, passed, state_at}
use Rattle.sig_rows.specs.Flow.{by_signals, given_list, list_flow, list_flows, map_flow, new, of_map, old, through, value_flow}
use Rattle.sig_expr.specs.Lengths.{vec_longest, vecs_longest}

-- ---- sources

pub start_short : (content : Content) (cap : ℕ) → size_of content ≤ cap → length (list_in content) ≤ cap
start_short (Cell x) cap within = omega arith
start_short (Vector items) cap within = within
start_short (Map pairs) cap within = omega arith

cell_short : (x : ℤ) (cap : ℕ) (change : Option Change) → length (list_in (option_map_or (after (Cell x)) change (Cell x))) ≤ cap
cell_short x cap None = omega arith
cell_short x cap (Some (Change.number y)) = omega arith
cell_short x cap (Some (Change.list diff)) = omega arith
cell_short x cap (Some (Change.map diff)) = omega arith

map_content_short : (pairs : List (ℤ × ℤ)) (cap : ℕ) (change : Option Change) → length (list_in (option_map_or (after (Map pairs)) change (Map pairs))) ≤ cap
map_content_short pairs cap None = omega arith
map_content_short pairs cap (Some (Change.number y)) = omega arith
map_content_short pairs cap (Some (Change.list diff)) = omega arith
map_content_short pairs cap (Some (Change.map diff)) = omega arith

edit_short : (content : Content) (cap : ℕ) (edit : Edit) → length (list_in content) ≤ cap → length (list_in (edited content cap edit)) ≤ cap
edit_short (Cell x) cap edit within = cell_short x cap (change_of (Cell x) cap edit)
edit_short (Vector items) cap edit within = start_short (edited (Vector items) cap edit) cap (within_cap (Vector items) cap edit tt within)
edit_short (Map pairs) cap edit within = map_content_short pairs cap (change_of (Map pairs) cap edit)

pub state_short : (content : Content) (cap : ℕ) (entries : List Entry) → length (list_in content) ≤ cap → length (list_in (state content cap entries)) ≤ cap
state_short content cap [] within = within
state_short content cap (entry ∷ entries) within = state_short (edited content cap entry.edit) cap entries (edit_short content cap entry.edit within)

-- no list that a source holds is longer than its cap
abbrev pub IsShort : Source → Type 0
IsShort source = (position : ℕ) → length (list_in (state_at source position)) ≤ source.plan.cap

pub no_source_short : IsShort no_source
no_source_short position = state_short (Cell (pos 0)) 1 (take position []) (omega arith)

-- ---- what enters

abbrev ShortOn : ℕ → List Entry → Type 0
ShortOn cap entries = (items : List ℤ) → length items ≤ cap → StaysShort cap items (filter_map as_list (changes_by (Vector items) cap entries))

effect_short : (items : List ℤ) (cap : ℕ) (diff : VecDiff ℤ) (entries : List Entry) (takes : Bool) → length items ≤ cap →
    let change : Option Change = cond takes (Some (Change.list diff)) None in
    let next : Content = option_map_or (after (Vector items)) change (Vector items) in
    size_of next ≤ cap → ShortOn cap entries → StaysShort cap items (filter_map as_list (option_to_list change ++ changes_by next cap entries))
effect_short items cap diff entries true within short later = λ taken. (short, later (applied items diff) short)
effect_short items cap diff entries false within short later = later items within

change_short : (items : List ℤ) (cap : ℕ) (edit : Edit) (entries : List Entry) → length items ≤ cap → ShortOn cap entries → let next : Content = edited (Vector items) cap edit in
    StaysShort cap items (filter_map as_list (option_to_list (change_of (Vector items) cap edit) ++ changes_by next cap entries))
change_short items cap (Edit.Vector diff) entries within later =
    effect_short items cap diff entries (is_lawful diff (length items) && not (is_long diff (length items) cap)) within (within_cap (Vector items) cap (Edit.Vector diff) tt within) later
change_short items cap edit entries within later = later items within

changes_short : (cap : ℕ) (entries : List Entry) → ShortOn cap entries
changes_short cap [] items within = tt
changes_short cap (entry ∷ entries) items within = change_short items cap entry.edit entries within (changes_short cap entries)

far_short : (items : List ℤ) (cap : ℕ) (entries : List Entry) (far : Bool) → length items ≤ cap → let last : List ℤ = list_in (state (Vector items) cap entries) in
    StaysShort cap items (cond far (Replace last ∷ []) (filter_map as_list (changes_by (Vector items) cap entries)))
far_short items cap entries true within = λ taken. (state_short (Vector items) cap entries within, tt)
far_short items cap entries false within = changes_short cap entries items within

entering_short : (content : Content) (cap : ℕ) (entries : List Entry) → length (list_in content) ≤ cap → StaysShort cap (list_in content) (list_entering content cap entries)
entering_short (Cell x) cap entries within = tt
entering_short (Vector items) cap entries within = far_short items cap entries (is_far entries) within
entering_short (Map pairs) cap entries within = tt

-- ---- operators

module _ {T : Type 0} (most : ℕ) where
  -- an operator's view, too
  through_short : {U : Type 0} {gives : List T → VecDiff T → List (VecDiff U)} {view : List T → List U} → KeepsUp gives view → (xs : List T) (diffs : List (VecDiff T)) → AreLawful xs diffs →
      GoesShort most xs diffs → GoesShort most (view xs) (through gives xs diffs)
  through_short keeps_up xs diffs lawful below = record {
    before = le_trans (keeps_up.is_short xs) below.before;
    stays = (through_follows keeps_up xs diffs lawful).short most below.before below.stays;
  }

  map_short : {U : Type 0} (f : T → U) (xs : List T) (diffs : List (VecDiff T)) → AreLawful xs diffs → GoesShort most xs diffs → GoesShort most (map f xs) (flat_map (map_gives f) diffs)
  map_short f xs diffs lawful below = rw (map_through f xs diffs) (through_short (map_keeps_up f) xs diffs lawful below)

module _ (most : ℕ) where
  -- the view of a list by signals where its list and then its signals go on
  by_signals_short : {gives : BySignals → ℕ → ℤ → List (VecDiff ℤ)} {view : BySignals → List ℤ} (goes : GoesBySignals gives view) (ys : List ℤ) {olds news : List ℤ} {values : List (Option ℤ)} →
      length ys ≤ most → SignalsGo olds values news → (xs : List ℤ) (diffs : List (VecDiff ℤ)) → Reaches xs diffs (view (record { items = ys; signals = olds })) → GoesShort most xs diffs →
      GoesShort most xs (diffs ++ by_signals gives (record { items = ys; signals = olds }) 0 values)
  by_signals_short goes ys few signals_go xs diffs reaches below = record {
    before = below.before;
    stays = stays_append most xs diffs _ below.stays (rw reaches.replay (stays_for_more (length ys) most few _ _ (by_signals_reach goes ys signals_go).stays));
  }

  pick_short : (was : ℤ) (given : Option ℤ) (is : ℤ) (olds : List (List ℤ)) (flows : List (List (VecDiff ℤ))) (news : List (List ℤ)) → IsGivenOrKept was given is → EachGoes (PartShort most) olds flows news →
      GoesShort most (list_for olds was) (given_list (pick_gives (record { chooser = was; parts = olds })) given ++ chosen flows is [])
  pick_short was given is olds flows news same lists_short =
      let part = λ (chooser : ℤ). (chosen_goes {Goes = PartShort most} [] [] (record { reaches = record { lawful = tt; replay = refl }; short = record { before = omega arith; stays = tt } }) olds flows news chooser lists_short).short in
      let lead = pick_leads olds was given is same in
      record {
        before = (part was).before;
        stays = stays_append most (list_for olds was) _ (chosen flows is []) (lead.short most (part was).before (part is).before) (rw lead.replay (part is).stays);
      }

-- ---- lists

-- the static bound is among the lengths of the longest part
module _ {L : Type 0} (cap : L → ℕ) where
  mutual
    pub bound_within : (e : VecTree L) → vec_bound cap e ≤ vec_longest cap e
    bound_within (vector l) = omega arith
    bound_within (mapped f e) = bound_within e
    bound_within (filtered p e) = bound_within e
    bound_within (filtered_by e bank) = omega (arith, bound_within e)
    bound_within (mapped_by e bank) = omega (arith, bound_within e)
    bound_within (sorted f e) = bound_within e
    bound_within (joined a b) = omega arith
    bound_within (flattened e bank) = le-max_left _ _
    bound_within (picked e bank) = omega (arith, greatest_within bank)
    bound_within (keys_in m) = omega arith
    bound_within (values_in m) = omega arith

    pub greatest_within : (bank : VecTrees L) → greatest_bound cap bank ≤ vecs_longest cap bank
    greatest_within no_lists = omega arith
    greatest_within (more_lists e bank) = omega (arith, bound_within e, greatest_within bank)

module _ {L : Type 0} (way : L → Way) (goes : (leaf : L) → GoesAhead (way leaf)) (short : (leaf : L) → length (list_in (before (way leaf))) ≤ (way leaf).source.plan.cap)
    (short_map : (leaf : L) → length (entries_in (before (way leaf))) ≤ (way leaf).source.plan.cap) where
  abbrev cap : L → ℕ
  cap leaf = (way leaf).source.plan.cap

  of_map_short : (most : ℕ) → {gives : List (ℤ × ℤ) → MapDiff ℤ → List (VecDiff ℤ)} {view : List (ℤ × ℤ) → List ℤ} → FollowsMap gives view → (m : MapTree L) → map_bound cap m ≤ most →
      GoesShort most (view (entries_of (old way) m)) (of_map gives (entries_of (old way) m) (map_flow way m))
  of_map_short most follows m few =
      let below = map_flow_short way goes short_map most m few in
      let reaches = map_flow_reaches way goes m in
      record {
        before = rw (follows.long (entries_of (old way) m)) below.before;
        stays = of_map_stays follows most (entries_of (old way) m) (map_flow way m) (map_rises way goes m) reaches.lawful reaches.orderly below;
      }

  mutual
    pub flows_short : (most : ℕ) (e : VecTree L) → vec_bound cap e ≤ most → GoesShort most (list_of (old way) e) (list_flow way e)
    flows_short most (vector leaf) few = record {
      before = le_trans (short leaf) few;
      stays = stays_for_more (cap leaf) most few _ _ (entering_short (before (way leaf)) (cap leaf) (passed (way leaf)) (short leaf));
    }
    flows_short most (mapped f e) few = map_short most (image f) (list_of (old way) e) (list_flow way e) (flow_reaches way goes e).lawful (flows_short most e few)
    flows_short most (filtered p e) few = through_short most (filter_keeps_up (passes p)) (list_of (old way) e) (list_flow way e) (flow_reaches way goes e).lawful (flows_short most e few)
    flows_short most (sorted f e) few = through_short most (sorted_keeps_up (image f)) (list_of (old way) e) (list_flow way e) (flow_reaches way goes e).lawful (flows_short most e few)
    flows_short most (filtered_by e bank) few =
        let below = flows_short most e few in
        let reaches = flow_reaches way goes e in
        by_signals_short most filter_goes_by_signals (list_of (new way) e) (short_after most _ _ _ reaches below) (signals_reach way goes bank) _ _
        (through_reaches (filter_keeps_up (is_let_in (signals_of (old way) bank))) (list_of (old way) e) (list_flow way e) (list_of (new way) e) reaches)
        (through_short most (filter_keeps_up (is_let_in (signals_of (old way) bank))) (list_of (old way) e) (list_flow way e) reaches.lawful below)
    flows_short most (mapped_by e bank) few =
        let below = flows_short most e few in
        let reaches = flow_reaches way goes e in
        by_signals_short most map_goes_by_signals (list_of (new way) e) (short_after most _ _ _ reaches below) (signals_reach way goes bank) _ _
        (map_reaches (raised_by (signals_of (old way) bank)) (list_of (old way) e) (list_flow way e) (list_of (new way) e) reaches)
        (map_short most (raised_by (signals_of (old way) bank)) (list_of (old way) e) (list_flow way e) reaches.lawful below)
    flows_short most (joined a b) few =
        halves_short (list_of (old way) a) (list_flow way a) (list_of (new way) a) (list_of (old way) b) (list_flow way b) (list_of (new way) b) (flow_reaches way goes a) (flow_reaches way goes b)
        (vec_bound cap a) (vec_bound cap b) most few (flows_short (vec_bound cap a) a (omega arith)) (flows_short (vec_bound cap b) b (omega arith))
    flows_short most (flattened e bank) few =
        short_for_more (vec_bound cap e * greatest_bound cap bank) most few _ _
        (blocks_short (list_of (old way) e) (list_flow way e) (list_of (new way) e) (flow_reaches way goes e) (lists_of (old way) bank) (list_flows way bank) (lists_of (new way) bank)
        (vec_bound cap e) (greatest_bound cap bank) (flows_short (vec_bound cap e) e (omega arith)) (lists_short (greatest_bound cap bank) bank (omega arith)))
    flows_short most (picked e bank) few =
        pick_short most (value_of (old way) e) (value_flow way e) (value_of (new way) e) (lists_of (old way) bank) (list_flows way bank) (lists_of (new way) bank) (signal_reaches way goes e) (lists_short most bank few)
    flows_short most (keys_in m) few = of_map_short most keys_follow m few
    flows_short most (values_in m) few = of_map_short most values_follow m few

    pub lists_short : (most : ℕ) (bank : VecTrees L) → greatest_bound cap bank ≤ most → EachGoes (PartShort most) (lists_of (old way) bank) (list_flows way bank) (lists_of (new way) bank)
    lists_short most no_lists few = no_part
    lists_short most (more_lists e bank) few =
        one_part (list_of (old way) e) (list_flow way e) (list_of (new way) e) (record { reaches = flow_reaches way goes e; short = flows_short most e (omega (arith, few)) }) (lists_short most bank (omega (arith, few)))
