-- What a list gives as its leaf goes on leads from what it shows before to what it shows after.
use Rattle.std.proofs.Common.{◌≡◌, ◌≢◌, ◌∙◌, ℕ, ◌≤◌, ℤ, List, [], ◌∷◌, ◌++◌, length, take, map, filter, filter_map, cond, Bool, true, false, ◌&&◌, not, Option, None, Some, refl, sym, ap}
use Rattle.std.proofs.lemmas.Bool.{and_parts}
use Rattle.std.proofs.lemmas.List.{take-append-drop, take-take}
use Rattle.std.proofs.lemmas.List.Sums.{fold-append}
use Rattle.std.specs.List.{flat_map}
use Rattle.std.specs.Option.{option_map_or, option_to_list}
use Rattle.sig_diff.proofs.Following.{are_taken_append}
use Rattle.sig_diff.specs.Contents.{kind_of, list_in}
use Rattle.sig_diff.specs.Differences.{IsLawful, applied, is_lawful}
use Rattle.sig_diff.specs.Replaying.{AreLawful, list_takes, replayed}
use Rattle.sig_diff.specs.Sorting.{by_key, in_order}
use Rattle.sig_diff.specs.declared.contents.Content.{Content}
use Rattle.sig_diff.specs.declared.contents.Content.TheVariants.{Cell, Vector, Map}
use Rattle.sig_diff.specs.declared.contents.Kind.{Kind}
use Rattle.sig_diff.specs.declared.differences.VecDiff.{VecDiff}
use Rattle.sig_diff.specs.declared.differences.VecDiff.TheVariants.{Replace}
use Rattle.sig_hist.proofs.Entries.{state_append}
use Rattle.sig_hist.proofs.Telling.{kind_state}
use Rattle.sig_hist.specs.Changes.{Change, after, change_of, edited, is_long}
use Rattle.sig_hist.specs.Entering.{as_list, is_far, list_entering}
use Rattle.sig_hist.specs.Histories.{changes_by, state}
use Rattle.sig_hist.specs.declared.edits.Edit.{Edit}
use Rattle.sig_hist.specs.declared.edits.Entry.{Entry}
use Rattle.sig_ops.specs.laws.Filtering.{filter_is_short, filter_leads}
use Rattle.sig_ops.specs.laws.Following.{follows}
use Rattle.sig_ops.specs.Following.{Follows, all_given}
use Rattle.sig_ops.specs.laws.Mapping.{map_is_short, map_leads}
use Rattle.sig_ops.specs.Tables.{filter_gives, map_gives}
use Rattle.sig_ops.specs.Leading.{LeadsTo}
use Rattle.sig_sort.specs.Sorting.{sorted_gives}
use Rattle.sig_sort.specs.laws.Sorting.{sorted_is_short, sorted_leads}
use Rattle.sig_hist.specs.Ways.{Way, before, behind, passed}
use Rattle.sig_rows.specs.Flow.{through}

-- differences lead from one list to another: each is lawful at its turn, and their replay is the other
pub record Reaches {T : Type 0} (from : List T) (diffs : List (VecDiff T)) (to : List T) : Type 0 where
  pub lawful : AreLawful from diffs
  pub replay : replayed from diffs ≡ to

pub reaches_append : {T : Type 0} (from between to : List T) (diffs more : List (VecDiff T)) → Reaches from diffs between → Reaches between more to → Reaches from (diffs ++ more) to
reaches_append from between to diffs more first later = record {
  lawful = are_taken_append list_takes applied from diffs more first.lawful (rw first.replay later.lawful);
  replay = fold-append applied from diffs more ∙ rw first.replay later.replay;
}

-- differences that turn one list into another lead from the one to the other
pub leads_reach : {T : Type 0} (from to : List T) (diffs : List (VecDiff T)) → LeadsTo from diffs to → Reaches from diffs to
leads_reach from to diffs leads = record { lawful = leads.lawful; replay = leads.replay }

-- ---- the changes of a source

-- what follows a change of one list leads on, whichever list the change gives
abbrev LeadOn : ℕ → List Entry → Type 0
LeadOn cap entries = (items : List ℤ) → Reaches items (filter_map as_list (changes_by (Vector items) cap entries)) (list_in (state (Vector items) cap entries))

-- by whether a difference takes effect
effect_reaches : (items : List ℤ) (cap : ℕ) (diff : VecDiff ℤ) (entries : List Entry) (takes : Bool) → (takes ≡ true → is_lawful diff (length items) ≡ true) → LeadOn cap entries →
    let change : Option Change = cond takes (Some (Change.list diff)) None in
    let next : Content = option_map_or (after (Vector items)) change (Vector items) in
    Reaches items (filter_map as_list (option_to_list change ++ changes_by next cap entries)) (list_in (state next cap entries))
effect_reaches items cap diff entries true lawful later = let rest = later (applied items diff) in record { lawful = (lawful refl, rest.lawful); replay = rest.replay }
effect_reaches items cap diff entries false lawful later = later items

edit_reaches : (items : List ℤ) (cap : ℕ) (edit : Edit) (entries : List Entry) → LeadOn cap entries → let next : Content = edited (Vector items) cap edit in
    Reaches items (filter_map as_list (option_to_list (change_of (Vector items) cap edit) ++ changes_by next cap entries)) (list_in (state next cap entries))
edit_reaches items cap (Edit.Vector diff) entries later =
    effect_reaches items cap diff entries (is_lawful diff (length items) && not (is_long diff (length items) cap)) (λ takes. (and_parts _ _ takes).0) later
edit_reaches items cap edit entries later = later items

changes_reach : (cap : ℕ) (entries : List Entry) → LeadOn cap entries
changes_reach cap [] items = record { lawful = tt; replay = refl }
changes_reach cap (entry ∷ entries) items = edit_reaches items cap entry.edit entries (changes_reach cap entries)

-- where the entries are too many to follow the whole list after them enters
far_reaches : (items : List ℤ) (cap : ℕ) (entries : List Entry) (far : Bool) → let last : List ℤ = list_in (state (Vector items) cap entries) in
    Reaches items (cond far (Replace last ∷ []) (filter_map as_list (changes_by (Vector items) cap entries))) last
far_reaches items cap entries true = record { lawful = (refl, tt); replay = refl }
far_reaches items cap entries false = changes_reach cap entries items

other_kind : (content : Content) (kind : Kind) → kind_of content ≡ kind → kind ≢ Kind.Vector → list_in content ≡ []
other_kind (Vector items) kind is other = absurd (other (sym is))
other_kind content kind is other = refl

nothing_reaches : (content : Content) (kind : Kind) → kind_of content ≡ kind → kind ≢ Kind.Vector → Reaches [] [] (list_in content)
nothing_reaches content kind is other = record { lawful = tt; replay = sym (other_kind content kind is other) }

pub entering_reaches : (content : Content) (cap : ℕ) (entries : List Entry) → Reaches (list_in content) (list_entering content cap entries) (list_in (state content cap entries))
entering_reaches (Cell x) cap entries = nothing_reaches _ Kind.Cell (kind_state (Cell x) cap entries) (λ same. cc)
entering_reaches (Vector items) cap entries = far_reaches items cap entries (is_far entries)
entering_reaches (Map items) cap entries = nothing_reaches _ Kind.Map (kind_state (Map items) cap entries) (λ same. cc)

-- the content behind is the one before after the entries that are passed
pub behind_is : (way : Way) → way.from ≤ way.to → behind way ≡ state (before way) way.source.plan.cap (passed way)
behind_is way ahead =
    let parts : take way.from way.source.history ++ passed way ≡ take way.to way.source.history =
    rw (← (take-take way.from way.to way.source.history ahead)) (take-append-drop way.from (take way.to way.source.history)) in
    sym (ap (state way.source.plan.start way.source.plan.cap) parts) ∙ state_append way.source.plan.start way.source.plan.cap (take way.from way.source.history) (passed way)

-- ---- operators on a list

-- an operator: what it gives for a difference turns its view of the list into its view of the list after that, and no view is
-- longer than its list
pub record KeepsUp {T U : Type 0} (gives : List T → VecDiff T → List (VecDiff U)) (view : List T → List U) : Type 0 where
  pub leads : (xs : List T) (diff : VecDiff T) → IsLawful diff (length xs) → LeadsTo (view xs) (gives xs diff) (view (applied xs diff))
  pub is_short : (xs : List T) → length (view xs) ≤ length xs

module _ {T U : Type 0} {gives : List T → VecDiff T → List (VecDiff U)} {view : List T → List U} (keeps_up : KeepsUp gives view) where
  gives_through : (xs : List T) (diffs : List (VecDiff T)) → through gives xs diffs ≡ all_given applied gives xs diffs
  gives_through xs [] = refl
  gives_through xs (diff ∷ diffs) = ap (λ more. gives xs diff ++ more) (gives_through (applied xs diff) diffs)

  -- it follows differences, one after another
  pub through_follows : (xs : List T) (diffs : List (VecDiff T)) → AreLawful xs diffs →
      Follows (λ (ys zs : List T). ys ≡ zs) (λ (ys zs : List T). view ys) xs xs diffs (replayed xs diffs) (through gives xs diffs)
  through_follows xs diffs lawful =
      rw (gives_through xs diffs)
      (follows (λ (ys zs : List T). ys ≡ zs) applied (λ ys zs diff same takes. ap (λ list. applied list diff) same) (λ (ys zs : List T). view ys) gives
      (λ ys zs diff same takes. keeps_up.leads ys diff (rw same takes)) (λ ys zs same. rw (← same) (keeps_up.is_short ys)) xs xs diffs refl lawful)

  pub through_reaches : (xs : List T) (diffs : List (VecDiff T)) (ys : List T) → Reaches xs diffs ys → Reaches (view xs) (through gives xs diffs) (view ys)
  through_reaches xs diffs ys below =
      let follows_them = through_follows xs diffs below.lawful in
      rw (← below.replay) (record { lawful = follows_them.lawful; replay = follows_them.replay })

pub filter_keeps_up : {T : Type 0} (test : T → Bool) → KeepsUp (filter_gives test) (filter test)
filter_keeps_up test = record { leads = filter_leads test; is_short = filter_is_short test }

pub sorted_keeps_up : (key : ℤ → ℤ) → KeepsUp (sorted_gives key) (in_order (by_key key))
sorted_keeps_up key = record { leads = sorted_leads key; is_short = sorted_is_short key }

module _ {T U : Type 0} (f : T → U) where
  pub map_keeps_up : KeepsUp (λ (xs : List T). map_gives f) (map f)
  map_keeps_up = record { leads = map_leads f; is_short = map_is_short f }

  -- a map gives for each difference by itself
  pub map_through : (xs : List T) (diffs : List (VecDiff T)) → flat_map (map_gives f) diffs ≡ through (λ (ys : List T). map_gives f) xs diffs
  map_through xs [] = refl
  map_through xs (diff ∷ diffs) = ap (λ more. map_gives f diff ++ more) (map_through (applied xs diff) diffs)

  pub map_reaches : (xs : List T) (diffs : List (VecDiff T)) (ys : List T) → Reaches xs diffs ys → Reaches (map f xs) (flat_map (map_gives f) diffs) (map f ys)
  map_reaches xs diffs ys below = rw (map_through xs diffs) (through_reaches map_keeps_up xs diffs ys below)
