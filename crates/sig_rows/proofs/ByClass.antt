-- What views that choose by signals give as their parts go on leads from what they show before to what they show after.
use Rattle.std.proofs.Common.{◌≡◌, ◌∙◌, ℕ, zero, suc, ◌+◌, ◌<◌, ◌≤◌, ℤ, pos, List, [], ◌∷◌, ◌++◌, length, map, filter, get_or, slice_set, Option, None, Some, refl, sym, ap, append_assoc, arith, option_and_then}
use Rattle.std.proofs.lemmas.List.{length-append}
use Rattle.std.proofs.Math.Seq.{set-append_seam}
use Rattle.std.specs.List.{flat_map}
use Rattle.std.specs.Option.{option_or, unwrap_or}
use Rattle.sig_bank.specs.Banks.{BySignals, signals_next}
use Rattle.sig_bank.specs.Tables.{filter_by_signal, map_by_signal, pick_gives, switch_gives}
use Rattle.sig_bank.specs.laws.Banks.{filter_by_signal_leads, map_by_signal_leads, pick_gives_leads, switch_gives_value}
use Rattle.sig_diff.specs.Choosing.{chosen, is_let_in, list_for, raised_by, signal_for}
use Rattle.sig_diff.specs.Numbers.{class_of}
use Rattle.sig_diff.specs.Replaying.{StaysShort}
use Rattle.sig_diff.specs.declared.differences.VecDiff.{VecDiff}
use Rattle.sig_ops.specs.laws.Filtering.{filter_is_short}
use Rattle.sig_ops.specs.laws.Mapping.{map_is_short}
use Rattle.sig_ops.specs.Tables.{filter_gives, map_gives}
use Rattle.sig_ops.specs.Leading.{LeadsTo}
use Rattle.sig_ops.specs.laws.Leading.{stays_append, leads_none}
use Rattle.sig_rows.proofs.Entered.{Reaches, filter_keeps_up, reaches_append, map_reaches, through_reaches, leads_reach}
use Rattle.sig_rows.specs.Flow.{by_signals, given_list, through}

-- ---- banks

-- each part of a bank goes from what it was, by what it gives, to what it is
pub data EachGoes {A B : Type 0} (Goes : A → B → A → Type 0) : List A → List B → List A → Type 0 where
  no_part : EachGoes Goes [] [] []
  one_part : {olds news : List A} {each : List B} (was : A) (given : B) (is : A) → Goes was given is → EachGoes Goes olds each news →
      EachGoes Goes (was ∷ olds) (given ∷ each) (is ∷ news)

module _ {A B : Type 0} {Goes : A → B → A → Type 0} (x : A) (nothing : B) (stays : Goes x nothing x) where
  pub part_goes : {olds news : List A} {each : List B} → EachGoes Goes olds each news → (place : ℕ) → Goes (get_or olds place x) (get_or each place nothing) (get_or news place x)
  part_goes no_part place = stays
  part_goes (one_part was given is goes more) zero = goes
  part_goes (one_part was given is goes more) (suc place) = part_goes more place

  pub each_given : {olds news : List A} {each : List B} → EachGoes Goes olds each news → length each ≡ length olds
  each_given no_part = refl
  each_given (one_part was given is goes more) = ap suc (each_given more)

  each_new : {olds news : List A} {each : List B} → EachGoes Goes olds each news → length news ≡ length olds
  each_new no_part = refl
  each_new (one_part was given is goes more) = ap suc (each_new more)

  -- the part that a number chooses goes so, too
  pub chosen_goes : (olds : List A) (each : List B) (news : List A) (chooser : ℤ) → EachGoes Goes olds each news →
      Goes (chosen olds chooser x) (chosen each chooser nothing) (chosen news chooser x)
  chosen_goes olds each news chooser goes = rw (each_given goes, each_new goes) (part_goes goes (class_of (length olds) chooser))

-- a signal's value is the one that it gives, or else the one that it had
abbrev pub IsGivenOrKept : ℤ → Option ℤ → ℤ → Type 0
IsGivenOrKept was given is = is ≡ unwrap_or given was

-- each signal of a bank has the value that it gives, or else the one that it had
abbrev pub SignalsGo : List ℤ → List (Option ℤ) → List ℤ → Type 0
SignalsGo olds values news = EachGoes IsGivenOrKept olds values news

-- ---- a list by signals

-- differences lead from one list to another, and no list on the way has more than `most` items
pub record LeadsWithin {T : Type 0} (most : ℕ) (from : List T) (diffs : List (VecDiff T)) (to : List T) : Type 0 where
  pub reaches : Reaches from diffs to
  pub stays : StaysShort most from diffs

-- an operator on a list by signals: what it gives where a signal goes to a value turns its view into its view after that, and no view
-- is longer than the list
pub record GoesBySignals (gives : BySignals → ℕ → ℤ → List (VecDiff ℤ)) (view : BySignals → List ℤ) : Type 0 where
  pub leads : (op : BySignals) (child : ℕ) (value : ℤ) → child < length op.signals → LeadsTo (view op) (gives op child value) (view (signals_next op child value))
  pub is_short : (op : BySignals) → length (view op) ≤ length op.items

pub filter_goes_by_signals : GoesBySignals filter_by_signal (λ op. filter (is_let_in op.signals) op.items)
filter_goes_by_signals = record { leads = filter_by_signal_leads; is_short = λ op. filter_is_short (is_let_in op.signals) op.items }

pub map_goes_by_signals : GoesBySignals map_by_signal (λ op. map (raised_by op.signals) op.items)
map_goes_by_signals = record { leads = map_by_signal_leads; is_short = λ op. map_is_short (raised_by op.signals) op.items }

module _ {gives : BySignals → ℕ → ℤ → List (VecDiff ℤ)} {view : BySignals → List ℤ} (goes : GoesBySignals gives view) (items : List ℤ) where
  abbrev with : List ℤ → BySignals
  with signals = record { items = items; signals = signals }

  -- the signals behind the first ones give in turn
  abbrev RestLeads : List ℤ → List ℤ → List (Option ℤ) → List ℤ → Type 0
  RestLeads front olds values news = LeadsWithin (length items) (view (with (front ++ olds))) (by_signals gives (with (front ++ olds)) (length front) values) (view (with (front ++ news)))

  one_passed : (front : List ℤ) (x : ℤ) (olds : List ℤ) (values : List (Option ℤ)) (news : List ℤ) → RestLeads (front ++ x ∷ []) olds values news →
      LeadsWithin (length items) (view (with (front ++ x ∷ olds))) (by_signals gives (with (front ++ x ∷ olds)) (length front + 1) values) (view (with (front ++ x ∷ news)))
  one_passed front x olds values news rest = rw (append_assoc front (x ∷ []) olds, append_assoc front (x ∷ []) news, length-append front (x ∷ [])) at rest

  flip_first : (xs ys zs : List ℤ) (diffs more : List (VecDiff ℤ)) → length xs ≤ length items → length ys ≤ length items → LeadsTo xs diffs ys → LeadsWithin (length items) ys more zs → LeadsWithin (length items) xs (diffs ++ more) zs
  flip_first xs ys zs diffs more before after lead rest = record {
    reaches = reaches_append xs ys zs diffs more (leads_reach xs ys diffs lead) rest.reaches;
    stays = stays_append (length items) xs diffs more (lead.short (length items) before after) (rw lead.replay rest.stays);
  }

  -- by whether the first of them gives a value
  first_goes : (front : List ℤ) (was : ℤ) (given : Option ℤ) (is : ℤ) (olds : List ℤ) (values : List (Option ℤ)) (news : List ℤ) → IsGivenOrKept was given is →
      RestLeads (front ++ is ∷ []) olds values news → RestLeads front (was ∷ olds) (given ∷ values) (is ∷ news)
  first_goes front was None is olds values news same rest = rw (← same) (one_passed front is olds values news rest)
  first_goes front was (Some value) is olds values news same rest =
      let op : BySignals = with (front ++ was ∷ olds) in
      let next : slice_set (front ++ was ∷ olds) (length front) value ≡ front ++ value ∷ olds = set-append_seam front was olds value in
      let lead = goes.leads op (length front) value (omega (arith, length-append front (was ∷ olds))) in
      let behind : LeadsWithin (length items) (view (with (front ++ value ∷ olds))) (by_signals gives (with (front ++ value ∷ olds)) (length front + 1) values) (view (with (front ++ value ∷ news))) =
      rw (← same) (one_passed front is olds values news rest) in
      rw (same, next) (flip_first (view op) (view (with (front ++ value ∷ olds))) _ (gives op (length front) value) _ (goes.is_short op) (goes.is_short (with (front ++ value ∷ olds))) (rw next at lead) behind)

  rest_reaches : {olds news : List ℤ} {values : List (Option ℤ)} (front : List ℤ) → SignalsGo olds values news → RestLeads front olds values news
  rest_reaches front no_part = record { reaches = record { lawful = tt; replay = refl }; stays = tt }
  rest_reaches front (one_part {olds = olds} {news = news} {each = values} was given is same more) = first_goes front was given is olds values news same (rest_reaches (front ++ is ∷ []) more)

  -- what it gives where all signals go on leads to its view by their new values
  pub by_signals_reach : {olds news : List ℤ} {values : List (Option ℤ)} → SignalsGo olds values news → LeadsWithin (length items) (view (with olds)) (by_signals gives (with olds) 0 values) (view (with news))
  by_signals_reach signals_go = rest_reaches [] signals_go

-- a filter by signals, where its list and then its signals go on
pub filter_by_reaches : (xs : List ℤ) (diffs : List (VecDiff ℤ)) (ys olds : List ℤ) (values : List (Option ℤ)) (news : List ℤ) → Reaches xs diffs ys → SignalsGo olds values news →
    Reaches (filter (is_let_in olds) xs) (through (filter_gives (is_let_in olds)) xs diffs ++ by_signals filter_by_signal (record { items = ys; signals = olds }) 0 values) (filter (is_let_in news) ys)
filter_by_reaches xs diffs ys olds values news below signals_go =
    reaches_append (filter (is_let_in olds) xs) (filter (is_let_in olds) ys) (filter (is_let_in news) ys) _ _
    (through_reaches (filter_keeps_up (is_let_in olds)) xs diffs ys below) (by_signals_reach filter_goes_by_signals ys signals_go).reaches

-- a map by signals
pub map_by_reaches : (xs : List ℤ) (diffs : List (VecDiff ℤ)) (ys olds : List ℤ) (values : List (Option ℤ)) (news : List ℤ) → Reaches xs diffs ys → SignalsGo olds values news →
    Reaches (map (raised_by olds) xs) (flat_map (map_gives (raised_by olds)) diffs ++ by_signals map_by_signal (record { items = ys; signals = olds }) 0 values) (map (raised_by news) ys)
map_by_reaches xs diffs ys olds values news below signals_go =
    reaches_append (map (raised_by olds) xs) (map (raised_by olds) ys) (map (raised_by news) ys) _ _
    (map_reaches (raised_by olds) xs diffs ys below) (by_signals_reach map_goes_by_signals ys signals_go).reaches

-- ---- one of a bank

-- the chooser of a pick goes on
pub pick_leads : (lists : List (List ℤ)) (was : ℤ) (given : Option ℤ) (is : ℤ) → IsGivenOrKept was given is →
    LeadsTo (list_for lists was) (given_list (pick_gives (record { chooser = was; parts = lists })) given) (list_for lists is)
pick_leads lists was None is same = rw same (leads_none (list_for lists was))
pick_leads lists was (Some value) is same = rw same (pick_gives_leads (record { chooser = was; parts = lists }) value)

-- and then its lists do
pub pick_reaches : (was : ℤ) (given : Option ℤ) (is : ℤ) (olds : List (List ℤ)) (flows : List (List (VecDiff ℤ))) (news : List (List ℤ)) → IsGivenOrKept was given is → EachGoes (Reaches {T = ℤ}) olds flows news →
    Reaches (list_for olds was) (given_list (pick_gives (record { chooser = was; parts = olds })) given ++ chosen flows is []) (list_for news is)
pick_reaches was given is olds flows news same lists_go =
    reaches_append (list_for olds was) (list_for olds is) (list_for news is) _ (chosen flows is [])
    (leads_reach (list_for olds was) (list_for olds is) _ (pick_leads olds was given is same)) (chosen_goes [] [] (record { lawful = tt; replay = refl }) olds flows news is lists_go)

-- the chooser of a switch goes on
switch_chooser : (signals : List ℤ) (was : ℤ) (given : Option ℤ) (is : ℤ) → IsGivenOrKept was given is →
    IsGivenOrKept (signal_for signals was) (option_and_then (switch_gives (record { chooser = was; parts = signals }) 0) given) (signal_for signals is)
switch_chooser signals was None is same = ap (signal_for signals) same
switch_chooser signals was (Some value) is same = ap (signal_for signals) same ∙ sym (switch_gives_value (record { chooser = was; parts = signals }) 0 value (omega arith))

later_or_first : (was : ℤ) (first : Option ℤ) (between : ℤ) (later : Option ℤ) (is : ℤ) → IsGivenOrKept was first between → IsGivenOrKept between later is → IsGivenOrKept was (option_or later first) is
later_or_first was first between None is before after = after ∙ before
later_or_first was first between (Some value) is before after = after

-- and then its signals do
pub switch_reaches : (was : ℤ) (given : Option ℤ) (is : ℤ) (olds : List ℤ) (values : List (Option ℤ)) (news : List ℤ) → IsGivenOrKept was given is → SignalsGo olds values news →
    IsGivenOrKept (signal_for olds was) (option_or (chosen values is None) (option_and_then (switch_gives (record { chooser = was; parts = olds }) 0) given)) (signal_for news is)
switch_reaches was given is olds values news same signals_go =
    later_or_first (signal_for olds was) (option_and_then (switch_gives (record { chooser = was; parts = olds }) 0) given) (signal_for olds is) (chosen values is None) (signal_for news is)
    (switch_chooser olds was given is same) (chosen_goes {Goes = IsGivenOrKept} (pos 0) None refl olds values news is signals_go)
