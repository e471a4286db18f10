-- What a view gives as its leaves go on leads from what it shows before to what it shows after.
use Rattle.std.proofs.Common.{◌≡◌, ◌≢◌, ◌∙◌, ℕ, ◌+◌, ℤ, pos, List, [], ◌∷◌, ◌++◌, length, take, filter_map, cond, Bool, true, false, not, Option, None, Some, option_map, option_and_then, refl, sym, ap}
use Rattle.std.specs.Option.{option_map_or, option_to_list, unwrap_or}
use Rattle.std.specs.Ordering.{int_eq}
use Rattle.std.proofs.lemmas.Bool.{and_parts}
use Rattle.std.proofs.lemmas.Bool.Decides.{Decides-int_eq}
use Rattle.sig_diff.proofs.Keeping.{rising_values_mapped}
use Rattle.sig_diff.specs.Contents.{entries_in, kind_of, number_in}
use Rattle.sig_diff.specs.Entries.{IsRising, has_key}
use Rattle.sig_diff.specs.MapDifferences.{MapIsLawful, map_applied}
use Rattle.sig_diff.specs.Numbers.{clamped, total}
use Rattle.sig_diff.specs.declared.differences.VecDiff.{VecDiff}
use Rattle.sig_diff.specs.declared.contents.Content.{Content}
use Rattle.sig_diff.specs.declared.contents.Content.TheVariants.{Cell, Vector, Map}
use Rattle.sig_diff.specs.declared.contents.Kind.{Kind}
use Rattle.sig_diff.specs.declared.map_differences.MapDiff.{MapDiff}
use Rattle.sig_diff.specs.declared.map_differences.MapDiff.TheVariants as changed
use Rattle.sig_expr.specs.Functions.{image, passes}
use Rattle.sig_expr.specs.Evaluation.{entries_of, list_of, lists_of, signals_of, value_of}
use Rattle.sig_expr.specs.Shows.{shows}
use Rattle.sig_expr.specs.Trees.{MapTree, map_source, mapped_values, SigTree, cell, mapped_signal, deduped, switched, length_of, total_of, at_key, VecTree, vector, mapped, filtered, filtered_by, mapped_by, sorted, picked, keys_in, values_in, SigTrees, no_signals, more_signals, VecTrees, no_lists, more_lists, ViewTree, signal_view, vector_view, map_view, entries_view, tagged_view, joined, flattened}
use Rattle.sig_expr.specs.declared.shown.Shown.{Shown}
use Rattle.sig_expr.specs.declared.shown.Shown.TheVariants as shown
use Rattle.sig_hist.proofs.InOrder.{state_in_order}
use Rattle.sig_hist.proofs.Telling.{kind_state}
use Rattle.sig_hist.specs.Changes.{Change, IsInOrder, after, can_load, change_of, put_change}
use Rattle.sig_hist.specs.Entering.{as_map, as_number, is_far, latest, map_entering, number_entering}
use Rattle.sig_hist.specs.Histories.{changes_by, state}
use Rattle.sig_hist.specs.declared.edits.Edit.{Edit}
use Rattle.sig_hist.specs.declared.edits.Edit.TheVariants.{Put, Delete, Load, Wipe}
use Rattle.sig_hist.specs.declared.edits.Entry.{Entry}
use Rattle.sig_ops.specs.Enumerating.{Enumeration, IsEnumeration, values_of}
use Rattle.sig_ops.specs.Signals.{given}
use Rattle.sig_rows.proofs.BlocksReach.{blocks_reach}
use Rattle.sig_rows.proofs.ByClass.{EachGoes, no_part, one_part, SignalsGo, filter_by_reaches, map_by_reaches, pick_reaches, switch_reaches}
use Rattle.sig_rows.proofs.ByMap.{FollowsMap, IsOrderly, MapReaches, entries_follow, keys_follow, of_map_reaches, values_follow, values_reach}
use Rattle.sig_rows.proofs.Tags.{tags_differ, tags_follow, tags_lawful, tags_replay}
use Rattle.sig_rows.proofs.HalvesReach.{halves_reach}
use Rattle.sig_rows.proofs.Entered.{Reaches, behind_is, entering_reaches, filter_keeps_up, map_reaches, sorted_keeps_up, through_reaches}
use Rattle.sig_hist.specs.Ways.{GoesAhead, Way, before, passed}
use Rattle.sig_rows.specs.Flow.{flow, list_flow, list_flows, map_flow, new, of_map, old, tags_after, value_flow, value_flows, with_tags}
use Rattle.sig_rows.specs.SoundRows.{IsLawfulBody, IsShownBy, TagsDiffer, shown_after, tags_in, tags_made, without_tags}

-- ---- maps

entries_rising : (content : Content) → IsInOrder content → IsRising (entries_in content)
entries_rising (Cell x) in_order = refl
entries_rising (Vector items) in_order = refl
entries_rising (Map pairs) in_order = in_order

abbrev LeadOn : ℕ → List Entry → Type 0
LeadOn cap entries = (pairs : List (ℤ × ℤ)) → MapReaches pairs (filter_map as_map (changes_by (Map pairs) cap entries)) (entries_in (state (Map pairs) cap entries))

-- a map takes what its edits change, and a map that is loaded has rising keys
abbrev IsTaken : List (ℤ × ℤ) → Option Change → Type 0
IsTaken pairs None = Unit {0}
IsTaken pairs (Some (Change.map diff)) = MapIsLawful diff pairs × IsOrderly diff
IsTaken pairs (Some change) = ⊥

put_taken : (pairs : List (ℤ × ℤ)) (key value : ℤ) (has room : Bool) → has_key key pairs ≡ has → IsTaken pairs (put_change has room key value)
put_taken pairs key value true room is = (is, tt)
put_taken pairs key value false true is = (ap not is, tt)
put_taken pairs key value false false is = tt

delete_taken : (pairs : List (ℤ × ℤ)) (key : ℤ) (has : Bool) → has_key key pairs ≡ has → IsTaken pairs (cond has (Some (Change.map (changed.Remove key))) None)
delete_taken pairs key true is = (is, tt)
delete_taken pairs key false is = tt

load_taken : (pairs others : List (ℤ × ℤ)) (cap : ℕ) (can : Bool) → can_load cap others ≡ can → IsTaken pairs (cond can (Some (Change.map (changed.Replace others))) None)
load_taken pairs others cap true is = (refl, (and_parts _ _ is).0)
load_taken pairs others cap false is = tt

edit_taken : (pairs : List (ℤ × ℤ)) (cap : ℕ) (edit : Edit) → IsTaken pairs (change_of (Map pairs) cap edit)
edit_taken pairs cap (Put key value) = put_taken pairs key value (has_key key pairs) _ refl
edit_taken pairs cap (Delete key) = delete_taken pairs key (has_key key pairs) refl
edit_taken pairs cap (Load others) = load_taken pairs others cap (can_load cap others) refl
edit_taken pairs cap Wipe = (refl, tt)
edit_taken pairs cap edit = tt

change_reaches : (pairs : List (ℤ × ℤ)) (cap : ℕ) (change : Option Change) (entries : List Entry) → IsTaken pairs change → LeadOn cap entries →
    let next : Content = option_map_or (after (Map pairs)) change (Map pairs) in
    MapReaches pairs (filter_map as_map (option_to_list change ++ changes_by next cap entries)) (entries_in (state next cap entries))
change_reaches pairs cap None entries taken later = later pairs
change_reaches pairs cap (Some (Change.map diff)) entries taken later =
    let rest = later (map_applied pairs diff) in record { lawful = (taken.0, rest.lawful); replay = rest.replay; orderly = (taken.1, rest.orderly) }
change_reaches pairs cap (Some change) entries taken later = absurd taken

changes_reach : (cap : ℕ) (entries : List Entry) → LeadOn cap entries
changes_reach cap [] pairs = record { lawful = tt; replay = refl; orderly = tt }
changes_reach cap (entry ∷ entries) pairs = change_reaches pairs cap (change_of (Map pairs) cap entry.edit) entries (edit_taken pairs cap entry.edit) (changes_reach cap entries)

far_reaches : (pairs : List (ℤ × ℤ)) (cap : ℕ) (entries : List Entry) (far : Bool) → IsRising pairs → let last : List (ℤ × ℤ) = entries_in (state (Map pairs) cap entries) in
    MapReaches pairs (cond far (changed.Replace last ∷ []) (filter_map as_map (changes_by (Map pairs) cap entries))) last
far_reaches pairs cap entries true rising = record { lawful = (refl, tt); replay = refl; orderly = (entries_rising (state (Map pairs) cap entries) (state_in_order (Map pairs) cap entries rising), tt) }
far_reaches pairs cap entries false rising = changes_reach cap entries pairs

no_map : (content : Content) (kind : Kind) → kind_of content ≡ kind → kind ≢ Kind.Map → MapReaches [] [] (entries_in content)
no_map (Map pairs) kind is other = absurd (other (sym is))
no_map (Cell x) kind is other = record { lawful = tt; replay = refl; orderly = tt }
no_map (Vector items) kind is other = record { lawful = tt; replay = refl; orderly = tt }

map_entering_reaches : (content : Content) (cap : ℕ) (entries : List Entry) → IsInOrder content → MapReaches (entries_in content) (map_entering content cap entries) (entries_in (state content cap entries))
map_entering_reaches (Cell x) cap entries in_order = no_map _ Kind.Cell (kind_state (Cell x) cap entries) (λ same. cc)
map_entering_reaches (Vector items) cap entries in_order = no_map _ Kind.Vector (kind_state (Vector items) cap entries) (λ same. cc)
map_entering_reaches (Map pairs) cap entries in_order = far_reaches pairs cap entries (is_far entries) in_order

-- ---- signals

-- a cell's number is the last that some entries give, where one of them gives any
abbrev NumberLeads : ℕ → List Entry → Type 0
NumberLeads cap entries = (x : ℤ) → number_in (state (Cell x) cap entries) ≡ unwrap_or (latest (filter_map as_number (changes_by (Cell x) cap entries)) (number_in (state (Cell x) cap entries))) x

number_change : (x : ℤ) (cap : ℕ) (change : Option Change) (entries : List Entry) → NumberLeads cap entries →
    let next : Content = option_map_or (after (Cell x)) change (Cell x) in
    number_in (state next cap entries) ≡ unwrap_or (latest (filter_map as_number (option_to_list change ++ changes_by next cap entries)) (number_in (state next cap entries))) x
number_change x cap None entries later = later x
number_change x cap (Some (Change.number y)) entries later = refl
number_change x cap (Some (Change.list diff)) entries later = later x
number_change x cap (Some (Change.map diff)) entries later = later x

numbers_reach : (cap : ℕ) (entries : List Entry) → NumberLeads cap entries
numbers_reach cap [] x = refl
numbers_reach cap (entry ∷ entries) x = number_change x cap (change_of (Cell x) cap entry.edit) entries (numbers_reach cap entries)

no_number : (content : Content) (kind : Kind) → kind_of content ≡ kind → kind ≢ Kind.Cell → number_in content ≡ pos 0
no_number (Cell x) kind is other = absurd (other (sym is))
no_number (Vector items) kind is other = refl
no_number (Map pairs) kind is other = refl

number_entering_reaches : (content : Content) (cap : ℕ) (entries : List Entry) → number_in (state content cap entries) ≡ unwrap_or (number_entering content cap entries) (number_in content)
number_entering_reaches (Cell x) cap entries = numbers_reach cap entries x
number_entering_reaches (Vector items) cap entries = no_number _ Kind.Vector (kind_state (Vector items) cap entries) (λ same. cc)
number_entering_reaches (Map pairs) cap entries = no_number _ Kind.Map (kind_state (Map pairs) cap entries) (λ same. cc)

-- a signal gives its present value, where that isn't the last
given_reaches : (last present : ℤ) (same : Bool) → int_eq last present ≡ same → present ≡ unwrap_or (cond same None (Some present)) last
given_reaches last present true is = sym ((Decides-int_eq last present).0 is)
given_reaches last present false is = refl

image_reaches : (f : ℤ → ℤ) (value : Option ℤ) (last : ℤ) → f (unwrap_or value last) ≡ unwrap_or (option_map f value) (f last)
image_reaches f None last = refl
image_reaches f (Some x) last = refl

dedupe_reaches : (value : Option ℤ) (last : ℤ) → unwrap_or value last ≡ unwrap_or (option_and_then (given last) value) last
dedupe_reaches None last = refl
dedupe_reaches (Some x) last = given_reaches last x (int_eq last x) refl

-- ---- views

module _ {L : Type 0} (way : L → Way) (goes : (leaf : L) → GoesAhead (way leaf)) where
  pub order_before : (leaf : L) → IsInOrder (before (way leaf))
  order_before leaf = state_in_order (way leaf).source.plan.start (way leaf).source.plan.cap (take (way leaf).from (way leaf).source.history) (goes leaf).in_order

  pub map_rises : (m : MapTree L) → IsRising (entries_of (old way) m)
  map_rises (map_source leaf) = entries_rising (before (way leaf)) (order_before leaf)
  map_rises (mapped_values f m) = rising_values_mapped (image f) (entries_of (old way) m) (map_rises m)

  pub map_flow_reaches : (m : MapTree L) → MapReaches (entries_of (old way) m) (map_flow way m) (entries_of (new way) m)
  map_flow_reaches (map_source leaf) = rw (behind_is (way leaf) (goes leaf).ahead) (map_entering_reaches (before (way leaf)) (way leaf).source.plan.cap (passed (way leaf)) (order_before leaf))
  map_flow_reaches (mapped_values f m) = values_reach (image f) (entries_of (old way) m) (entries_of (new way) m) (map_flow way m) (map_flow_reaches m)

  of_map_flow_reaches : {U : Type 0} {gives : List (ℤ × ℤ) → MapDiff ℤ → List (VecDiff U)} {view : List (ℤ × ℤ) → List U} → FollowsMap gives view → (m : MapTree L) →
      Reaches (view (entries_of (old way) m)) (of_map gives (entries_of (old way) m) (map_flow way m)) (view (entries_of (new way) m))
  of_map_flow_reaches follows m = of_map_reaches follows (entries_of (old way) m) (entries_of (new way) m) (map_flow way m) (map_rises m) (map_flow_reaches m)

  mutual
    -- a list
    pub flow_reaches : (e : VecTree L) → Reaches (list_of (old way) e) (list_flow way e) (list_of (new way) e)
    flow_reaches (vector leaf) = rw (behind_is (way leaf) (goes leaf).ahead) (entering_reaches (before (way leaf)) (way leaf).source.plan.cap (passed (way leaf)))
    flow_reaches (mapped f e) = map_reaches (image f) (list_of (old way) e) (list_flow way e) (list_of (new way) e) (flow_reaches e)
    flow_reaches (filtered p e) = through_reaches (filter_keeps_up (passes p)) (list_of (old way) e) (list_flow way e) (list_of (new way) e) (flow_reaches e)
    flow_reaches (sorted f e) = through_reaches (sorted_keeps_up (image f)) (list_of (old way) e) (list_flow way e) (list_of (new way) e) (flow_reaches e)
    flow_reaches (filtered_by e bank) =
        filter_by_reaches (list_of (old way) e) (list_flow way e) (list_of (new way) e) (signals_of (old way) bank) (value_flows way bank) (signals_of (new way) bank) (flow_reaches e) (signals_reach bank)
    flow_reaches (mapped_by e bank) =
        map_by_reaches (list_of (old way) e) (list_flow way e) (list_of (new way) e) (signals_of (old way) bank) (value_flows way bank) (signals_of (new way) bank) (flow_reaches e) (signals_reach bank)
    flow_reaches (joined a b) =
        halves_reach (list_of (old way) a) (list_flow way a) (list_of (new way) a) (list_of (old way) b) (list_flow way b) (list_of (new way) b) (flow_reaches a) (flow_reaches b)
    flow_reaches (flattened e bank) =
        blocks_reach (list_of (old way) e) (list_flow way e) (list_of (new way) e) (flow_reaches e) (lists_of (old way) bank) (list_flows way bank) (lists_of (new way) bank) (lists_reach bank)
    flow_reaches (picked e bank) =
        pick_reaches (value_of (old way) e) (value_flow way e) (value_of (new way) e) (lists_of (old way) bank) (list_flows way bank) (lists_of (new way) bank) (signal_reaches e) (lists_reach bank)
    flow_reaches (keys_in m) = of_map_flow_reaches keys_follow m
    flow_reaches (values_in m) = of_map_flow_reaches values_follow m

    -- a signal
    pub signal_reaches : (e : SigTree L) → value_of (new way) e ≡ unwrap_or (value_flow way e) (value_of (old way) e)
    signal_reaches (cell leaf) = rw (behind_is (way leaf) (goes leaf).ahead) (number_entering_reaches (before (way leaf)) (way leaf).source.plan.cap (passed (way leaf)))
    signal_reaches (mapped_signal f e) = ap (image f) (signal_reaches e) ∙ image_reaches (image f) (value_flow way e) (value_of (old way) e)
    signal_reaches (deduped e) = signal_reaches e ∙ dedupe_reaches (value_flow way e) (value_of (old way) e)
    signal_reaches (switched e bank) =
        switch_reaches (value_of (old way) e) (value_flow way e) (value_of (new way) e) (signals_of (old way) bank) (value_flows way bank) (signals_of (new way) bank) (signal_reaches e) (signals_reach bank)
    signal_reaches (length_of e) = given_reaches (pos (length (list_of (old way) e))) (pos (length (list_of (new way) e))) _ refl
    signal_reaches (total_of e) = given_reaches (clamped (total (list_of (old way) e))) (clamped (total (list_of (new way) e))) _ refl
    signal_reaches (at_key key default m) = given_reaches (value_of (old way) (at_key key default m)) (value_of (new way) (at_key key default m)) _ refl

    -- the parts of a bank
    pub signals_reach : (bank : SigTrees L) → SignalsGo (signals_of (old way) bank) (value_flows way bank) (signals_of (new way) bank)
    signals_reach no_signals = no_part
    signals_reach (more_signals e bank) = one_part (value_of (old way) e) (value_flow way e) (value_of (new way) e) (signal_reaches e) (signals_reach bank)

    pub lists_reach : (bank : VecTrees L) → EachGoes (Reaches {T = ℤ}) (lists_of (old way) bank) (list_flows way bank) (lists_of (new way) bank)
    lists_reach no_lists = no_part
    lists_reach (more_lists e bank) = one_part (list_of (old way) e) (list_flow way e) (list_of (new way) e) (flow_reaches e) (lists_reach bank)

  -- the body is lawful where the view's content before is shown, and the content after is shown then, with the tags that follow
  pub record BodyLeads (view : ViewTree L) (seen : Shown) (next : ℕ) : Type 0 where
    pub lawful : IsLawfulBody seen (with_tags (tags_in seen next) (flow way view))
    pub replay : without_tags (shown_after seen (with_tags (tags_in seen next) (flow way view))) ≡ shows view (new way)
    pub follow : tags_in (shown_after seen (with_tags (tags_in seen next) (flow way view))) (next + tags_made (with_tags (tags_in seen next) (flow way view))) ≡ tags_after (tags_in seen next) (flow way view)
    pub differ : TagsDiffer (tags_after (tags_in seen next) (flow way view))

  pub view_reaches : (view : ViewTree L) (seen : Shown) (next : ℕ) → IsShownBy view (old way) (record { shown = seen; next = next }) → BodyLeads view seen next
  view_reaches (signal_view e) (shown.Signal value) next shows_it =
      let same : value ≡ value_of (old way) e = (let shows = shows_it.shows in cc) in
      record { lawful = tt; replay = rw same (ap shown.Signal (sym (signal_reaches e))); follow = refl; differ = tt }
  view_reaches (vector_view e) (shown.Vector items) next shows_it =
      let same : items ≡ list_of (old way) e = (let shows = shows_it.shows in cc) in
      let reaches = flow_reaches e in
      record { lawful = rw same reaches.lawful; replay = rw same (ap shown.Vector reaches.replay); follow = refl; differ = tt }
  view_reaches (map_view m) (shown.Map pairs) next shows_it =
      let same : pairs ≡ entries_of (old way) m = (let shows = shows_it.shows in cc) in
      let reaches = map_flow_reaches m in
      record { lawful = rw same reaches.lawful; replay = rw same (ap shown.Map reaches.replay); follow = refl; differ = tt }
  view_reaches (entries_view m) (shown.Pairs pairs) next shows_it =
      let same : pairs ≡ entries_of (old way) m = (let shows = shows_it.shows in cc) in
      let reaches = of_map_flow_reaches entries_follow m in
      record { lawful = rw same reaches.lawful; replay = rw same (ap shown.Pairs reaches.replay); follow = refl; differ = tt }
  view_reaches (tagged_view e) (shown.Tagged elements) next shows_it =
      let op : Enumeration = record { elements = elements; next = next } in
      let same : values_of elements ≡ list_of (old way) e = (let shows = shows_it.shows in cc) in
      let stands : IsEnumeration op (list_of (old way) e) = record { values = same; distinct = shows_it.tags.distinct; given_out = shows_it.tags.given_out } in
      let reaches = flow_reaches e in
      record {
        lawful = tags_lawful op _ _ (list_flow way e) stands reaches;
        replay = ap shown.Vector (tags_replay op _ _ (list_flow way e) stands reaches);
        follow = ap Some (tags_follow op (list_flow way e));
        differ = tags_differ op _ _ (list_flow way e) stands reaches;
      }
  view_reaches _ _ next shows_it = (let kind = shows_it.kind in let shows = shows_it.shows in cc)
