-- The numbers of a script that a document says are those of its own sources, shares, writers and views.
use Rattle.std.proofs.Common.{◌≡◌, ℕ, ◌+◌, ◌<◌, List, [], ◌∷◌, length, Bool, true, false, nat_lt, nat_le, nat_eq, if◌then◌else◌, Option, None, Some, codes, refl, arith}
use Rattle.std.proofs.lemmas.Bool.{and_parts}
use Rattle.std.proofs.lemmas.Bool.Decides.{nat_tests}
use Rattle.std.proofs.lemmas.List.Folds.{list_all-append}
use Rattle.std.specs.Cmp.Lexicographic.{pointwise}
use Rattle.std.specs.List.{list_all}
use Rattle.std.specs.Option.{option_map_or, option_or}
use Rattle.serde_json.specs.Data.{Data, Items, no_items, item, Members}
use Rattle.sig_script.proofs.BuiltLeaves.{has_source_vector, optional, view_fits}
use Rattle.sig_script.proofs.Leaving.{all_defs}
use Rattle.sig_script.specs.Building.{defs, event_for, number_for, script_of, share_def, source_def, source_for, view_of}
use Rattle.sig_script.specs.Fields.{item_count, list_at, members_in, text_in, value_at}
use Rattle.sig_script.specs.Grammar.{view_field}
use Rattle.sig_script.specs.Limits.{is_within, limits_fault, list_limits, share_limits, source_limits, view_limits, writer_limits}
use Rattle.sig_script.specs.Names.{all_names, kind_in, meaning, names_from}
use Rattle.sig_script.specs.Paths.{below, here_unless}
use Rattle.sig_script.specs.SelfContained.{IsSelfContained, has_event, has_shown, has_source}
use Rattle.sig_script.specs.declared.grammar.Meaning.{Meaning}
use Rattle.sig_script.specs.declared.grammar.Meaning.TheVariants.{Source, Share, Writer, View}
use Rattle.sig_script.specs.declared.grammar.ViewKind.{ViewKind}
use Rattle.sig_script.specs.declared.grammar.ViewKind.TheVariants as shown
use Rattle.sig_script.specs.declared.types.Script.{Script}

-- ---- limits that are kept

no_either : (first second : Option (List ℕ)) → option_or first second ≡ None → (first ≡ None) × (second ≡ None)
no_either None second none = (refl, none)
no_either (Some path) second none = absurd (cc)

none_below : (step : List ℕ) (fault : Option (List ℕ)) → below step fault ≡ None → fault ≡ None
none_below step None none = refl
none_below step (Some path) none = absurd (cc)

passed : (test : Bool) → here_unless test ≡ None → test ≡ true
passed true none = refl
passed false none = absurd (cc)

has_least : (name : List ℕ) (least most : ℕ) (fault : Data → Option (List ℕ)) (members : Members) → list_limits name least most fault members ≡ None → nat_le least (item_count (list_at name members)) ≡ true
has_least name least most fault members none = (and_parts _ _ (passed (is_within least most (list_at name members)) (no_either _ _ (none_below name _ none)).0)).0

-- ---- meanings

module _ (fits : Meaning → Bool) where
  abbrev fit : List (List ℕ × Meaning) → Bool
  fit names = list_all (λ named. fits named.1) names

  all_fit : (means : ℕ → Data → Meaning) (number : ℕ) (values : Items) → ((k : ℕ) (value : Data) → k < number + item_count values → fits (means k value) ≡ true) → fit (names_from means number values) ≡ true
  all_fit means number no_items each = refl
  all_fit means number (item value values) each = rw (each number value (omega arith)) (all_fit means (number + 1) values (λ k value within. each k value (omega arith)))

  chosen : (same : Bool) (first : Meaning) (rest : Option Meaning) → fits first ≡ true → option_map_or fits rest true ≡ true → option_map_or fits (if same then Some first else rest) true ≡ true
  chosen true first rest here later = here
  chosen false first rest here later = later

  meaning_fits : (names : List (List ℕ × Meaning)) (name : List ℕ) → fit names ≡ true → option_map_or fits (meaning names name) true ≡ true
  meaning_fits [] name all = refl
  meaning_fits (named ∷ names) name all = chosen (pointwise nat_eq named.0 name) named.1 (meaning names name) (and_parts _ _ all).0 (meaning_fits names name (and_parts _ _ all).1)

module _ (sources shares writers views : ℕ) where
  abbrev counts : Meaning → Bool
  counts (Source number kind) = nat_lt number sources
  counts (Share number) = nat_lt number shares
  counts (Writer number) = nat_lt number writers
  counts (View number) = nat_lt number views

  number_within : (found : Option Meaning) → option_map_or counts found true ≡ true → nat_le 1 sources ≡ true → nat_lt (number_for sources found) (sources + shares) ≡ true
  number_within None fits some = grind (arith, nat_tests)
  number_within (Some (Source number kind)) fits some = grind (arith, nat_tests)
  number_within (Some (Share number)) fits some = grind (arith, nat_tests)
  number_within (Some (Writer number)) fits some = grind (arith, nat_tests)
  number_within (Some (View number)) fits some = grind (arith, nat_tests)

  event_within : (names : List (List ℕ × Meaning)) (script : Script) (found : Option Meaning) → length script.shares ≡ shares → length script.writers ≡ writers → length script.views ≡ views
      → option_map_or counts found true ≡ true → nat_le 1 views ≡ true → has_event script (event_for names sources found) ≡ true
  event_within names script None are_shares are_writers are_views fits some = rw are_views (grind (arith, nat_tests))
  event_within names script (Some (Source number kind)) are_shares are_writers are_views fits some = rw are_views (grind (arith, nat_tests))
  event_within names script (Some (Share number)) are_shares are_writers are_views fits some = rw are_shares fits
  event_within names script (Some (Writer number)) are_shares are_writers are_views fits some = rw are_writers fits
  event_within names script (Some (View number)) are_shares are_writers are_views fits some = rw are_views fits

-- ---- the document

length_defs : {T : Type 0} (f : Data → T) (values : Items) → length (defs f values) ≡ item_count values
length_defs f no_items = refl
length_defs f (item value values) = rw (length_defs f values) (omega arith)

module _ (members : Members) where
  abbrev count_of : List ℕ → ℕ
  count_of name = item_count (list_at name members)

  abbrev is_counted : Meaning → Bool
  is_counted = counts (count_of (codes "sources")) (count_of (codes "shares")) (count_of (codes "writers")) (count_of (codes "views"))

  all_counted : fit is_counted (all_names members) ≡ true
  all_counted =
      let each = all_fit is_counted in
      rw (
        list_all-append,
        list_all-append,
        list_all-append,
        each (λ number value. Source number (kind_in value)) 0 (list_at (codes "sources") members) (λ k value within. grind (arith, nat_tests)),
        each (λ number value. Share number) 0 (list_at (codes "shares") members) (λ k value within. grind (arith, nat_tests)),
        each (λ number value. Writer number) 0 (list_at (codes "writers") members) (λ k value within. grind (arith, nat_tests)),
        each (λ number value. View number) 0 (list_at (codes "views") members) (λ k value within. grind (arith, nat_tests)),
      )

  counted : (name : List ℕ) → option_map_or is_counted (meaning (all_names members) name) true ≡ true
  counted name = meaning_fits is_counted (all_names members) name all_counted

  some_sources : limits_fault members ≡ None → nat_le 1 (count_of (codes "sources")) ≡ true
  some_sources none = has_least (codes "sources") 1 16 source_limits members (no_either (list_limits (codes "sources") 1 16 source_limits members) _ none).0

  some_views : limits_fault members ≡ None → nat_le 1 (count_of (codes "views")) ≡ true
  some_views none =
      let after_sources = (no_either (list_limits (codes "sources") 1 16 source_limits members) _ none).1 in
      let after_shares = (no_either (list_limits (codes "shares") 0 8 share_limits members) _ after_sources).1 in
      let after_writers = (no_either (list_limits (codes "writers") 0 16 writer_limits members) _ after_shares).1 in
      has_least (codes "views") 1 16 view_limits members (no_either (list_limits (codes "views") 1 16 view_limits members) _ after_writers).0

pub self_contained : (members : Members) → limits_fault members ≡ None → IsSelfContained (script_of members)
self_contained members none =
    let names = all_names members in
    let sources = item_count (list_at (codes "sources") members) in
    let has = has_source (script_of members) in
    let is_within : (source : ℕ) → nat_lt source (sources + count_of members (codes "shares")) ≡ true → has source ≡ true = λ source within. rw (length_defs source_def, length_defs (share_def names sources)) within in
    let some = some_sources members none in
    let named : (value : Data) → has (source_for names sources value) ≡ true =
    λ value. is_within _ (number_within _ _ _ _ (meaning names (text_in value)) (counted members (text_in value)) some) in
    let first : has 0 ≡ true = is_within 0 (grind (arith, nat_tests, some)) in
    let shows : (kind : ViewKind) (value : Data) → has_shown (script_of members) (view_of names sources kind value) ≡ true = view_fits has names sources named first in
    record {
      writers = all_defs _ _ (λ writer. all_defs _ _ (λ edit. named (value_at (codes "on") (members_in edit))) (list_at (codes "edits") (members_in writer))) (list_at (codes "writers") members);
      shares = all_defs _ _ (λ share. shows shown.Signal (value_at (codes "signal") (members_in share))) (list_at (codes "shares") members);
      views = all_defs _ _
          (λ view. optional (has_shown (script_of members)) (λ (field : ViewKind × Data). view_of names sources field.0 field.1) _ (λ field. shows field.0 field.1) (has_source_vector has 0 first) (view_field (members_in view)))
          (list_at (codes "views") members);
      schedule = all_defs _ _
          (λ event. event_within _ _ _ _ names (script_of members) (meaning names (text_in event)) (length_defs _ _) (length_defs _ _) (length_defs _ _) (counted members (text_in event)) (some_views members none))
          (list_at (codes "schedule") members);
    }
