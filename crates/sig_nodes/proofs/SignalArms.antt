-- A step of a signal's operators on one signal below it, and of a bank's parts: what they need, and what is left.
use Rattle.std.proofs.Common.{ℤ, Option, None, ◌≡◌, ◌∙◌, ℕ, suc, ◌+◌, List, [], ◌∷◌, ◌++◌, length, refl, sym, ap, ap₂, append_assoc, option_and_then, option_map}
use Rattle.std.proofs.lemmas.List.{append-nil}
use Rattle.std.specs.Option.{unwrap_or}
use Rattle.sig_diff.specs.declared.differences.VecDiff.{VecDiff}
use Rattle.sig_expr.proofs.Awaiting.{sig_part_among, vec_part_among}
use Rattle.sig_expr.specs.Functions.{image}
use Rattle.sig_expr.specs.Leaves.{sig_leaves, sigs_leaves, vec_leaves, vecs_leaves}
use Rattle.sig_expr.specs.Trees.{deduped, mapped_signal}
use Rattle.sig_expr.specs.declared.functions.Fun.{Fun}
use Rattle.sig_hist.specs.Ports.{PortState}
use Rattle.sig_hist.specs.Ways.{before}
use Rattle.sig_nodes.proofs.ByChooser.{still_stands}
use Rattle.sig_nodes.proofs.CarryingShort.{same_caps}
use Rattle.sig_nodes.proofs.Parts.{FirstGone, BothGone, list_part, signal_part, signals_part, list_gone, signal_gone, holds_at, gone_by, rest_has, rest_apart, rest_holds, both_gone, both_walked, first_flow, second_flow, all_front, all_back, distinct_front, distinct_back, none_of_both, not_among_fewer, unwalked_holds, less}
use Rattle.sig_nodes.proofs.Standing.{list_stands, signals_stand, signal_stands, lists_stand}
use Rattle.sig_nodes.proofs.OverGiven.{value_first}
use Rattle.sig_nodes.specs.Banks.{values_given}
use Rattle.sig_nodes.specs.declared.banks.Given.{Given}
use Rattle.sig_nodes.specs.Nodes.{ListOps, SignalOps, list_tree, signal_tree, SignalsOps, signal_trees, ListsOps, list_trees, no_list, one_list, image_of, no_signal, one_signal, without_repeats}
use Rattle.sig_nodes.specs.Steps.{ListGone, SignalGone, SignalsGone, ListMayGo, ListsMayGo, ListAtGone, SignalMayGo, SignalsMayGo, SignalAtGone}
use Rattle.sig_ops.specs.Signals.{given}
use Rattle.sig_rows.proofs.Along.{each_agrees}
use Rattle.sig_rows.proofs.Reaching.{signal_reaches}
use Rattle.sig_rows.specs.Flow.{value_flows}
use Rattle.sig_walk.proofs.Composing.{not_walked}
use Rattle.sig_walk.proofs.Holding.{held_before, never_back}
use Rattle.sig_walk.specs.Walking.{HasGone, Progress}

-- ---- one signal below

module _ {s t : PortState} {old new : Progress} {ops after : SignalOps} {value : Option ℤ} (below : SignalGone s t old new ops after value) where
  pub image_gone : (fun : Fun) (result : Option ℤ) → result ≡ option_map (image fun) value → SignalGone s t old new (image_of fun ops) (image_of fun after) result
  image_gone fun result is =
      record { gone = below.gone; walked = below.walked; flow = is ∙ ap (option_map (image fun)) below.flow; stands = below.stands; tree = ap (mapped_signal fun) below.tree }

  pub dedupe_gone : {last : ℤ} → SignalMayGo s old (without_repeats last ops) → (next : ℤ) (result : Option ℤ) → result ≡ option_and_then (given last) value → next ≡ unwrap_or value last →
      SignalGone s t old new (without_repeats last ops) (without_repeats next after) result
  dedupe_gone may next result is next_is =
      let reaches = signal_reaches (gone_by t old new) (never_back s t old new may.can below.gone below.walked.goes_on) (signal_tree ops) in
      record {
        gone = below.gone;
        walked = below.walked;
        flow = is ∙ rw (below.flow, may.stands.0, ← held_before s t old new may.can below.gone) refl;
        stands = (rw (next_is, below.flow, may.stands.0, below.tree, ← held_before s t old new may.can below.gone) (sym reaches), below.stands);
        tree = ap deduped below.tree;
      }

-- ---- the signals of a bank

module _ {s : PortState} {walk : Progress} {of : SignalOps} {bank : SignalsOps} (may : SignalsMayGo s walk (one_signal of bank)) where
  pub first_may_go : SignalMayGo s walk of
  first_may_go = record {
    can = may.can;
    has = all_front (length walk.positions) (sig_leaves (signal_tree of)) (sigs_leaves (signal_trees bank)) may.has;
    apart = distinct_front (sig_leaves (signal_tree of)) (sigs_leaves (signal_trees bank)) may.apart;
    short = (less _ _ 65536 may.short).0;
    stands = may.stands.0;
  }

  pub others_may_go : SignalsMayGo s walk bank
  others_may_go = record {
    can = may.can;
    has = all_back (length walk.positions) (sig_leaves (signal_tree of)) (sigs_leaves (signal_trees bank)) may.has;
    apart = distinct_back (sig_leaves (signal_tree of)) (sigs_leaves (signal_trees bank)) may.apart;
    short = (less _ _ 65536 may.short).1;
    stands = may.stands.1;
  }

pub none_gone : (s : PortState) (walk : Progress) (place : ℕ) (before : List Given) → HasGone s s walk walk → SignalsGone s s walk walk place no_signal no_signal before before
none_gone s walk place before gone = record { gone = gone; walked = not_walked s walk; flow = sym (append-nil before); stands = tt; tree = refl }

pub none_at_gone : (s : PortState) (walk : Progress) (place : ℕ) → HasGone s s walk walk → SignalAtGone s s walk walk place no_signal no_signal None
none_at_gone s walk place gone = record { gone = gone; walked = not_walked s walk; flow = refl; stands = tt; tree = refl }

module _ {s t : PortState} {old mid : Progress} {of after : SignalOps} {bank : SignalsOps} {value : Option ℤ} (may : SignalsMayGo s old (one_signal of bank)) (first : SignalGone s t old mid of after value) where
  abbrev one : FirstGone (signal_part (signal_tree of)) (sigs_leaves (signal_trees bank)) s t old mid value
  one = record { can = may.can; has = may.has; apart = may.apart; first = signal_gone first }

  pub rest_may_go : SignalsMayGo t mid bank
  rest_may_go = record {
    can = first.gone.can;
    has = rest_has one;
    apart = rest_apart one;
    short = rw (same_caps s t old mid may.can first.gone) (less _ _ 65536 may.short).1;
    stands = signals_stand _ _ bank (rest_holds one) may.stands.1;
  }

  pub all_gone : {u : PortState} {new : Progress} {rest : SignalsOps} {place : ℕ} {before between values : List Given} → between ≡ before ++ values_given place (value ∷ []) → SignalsGone t u mid new (place + 1) bank rest between values →
      SignalsGone s u old new place (one_signal of bank) (one_signal after rest) before values
  all_gone {u} {new} {rest} {place} {before} {between} {values} between_is second =
      let both : BothGone (signal_part (signal_tree of)) (signals_part (place + 1) (signal_trees bank)) s t u old mid new value (values_given (place + 1) (value_flows (gone_by u mid new) (signal_trees bank))) =
      record { one = one; second = record { gone = second.gone; walked = second.walked; flow = refl } } in
      let each : List (Option ℤ) = value_flows (gone_by u old new) (signal_trees bank) in
      record {
        gone = both_gone both;
        walked = both_walked both;
        flow = second.flow ∙ ap₂ (λ (first others : List Given). first ++ others) between_is (second_flow both) ∙ append_assoc before (values_given place (value ∷ [])) _
            ∙ ap (λ (given : List Given). before ++ given) (sym (value_first place value each) ∙ ap (λ (value : Option ℤ). values_given place (value ∷ each)) (first_flow both));
        stands = (still_stands first both, second.stands);
        tree = rw (first.tree, second.tree) refl;
      }

  -- where the first is the one at the place, the others hold what they held
  pub first_gone : (place : ℕ) → place ≡ 0 → SignalAtGone s t old mid place (one_signal of bank) (one_signal after bank) value
  first_gone place is = record {
    gone = first.gone;
    walked = rw is first.walked;
    flow = rw is first.flow;
    stands = (first.stands, signals_stand _ _ bank (rest_holds one) may.stands.1);
    tree = rw first.tree refl;
  }

-- where another is, the first holds what it held
pub other_gone : {s t : PortState} {old new : Progress} {of : SignalOps} {bank rest : SignalsOps} {before : ℕ} {value : Option ℤ} → SignalsMayGo s old (one_signal of bank) → SignalAtGone s t old new before bank rest value →
    (place : ℕ) → place ≡ suc before → SignalAtGone s t old new place (one_signal of bank) (one_signal of rest) value
other_gone {s} {t} {old} {new} {of} {bank} {rest} {before} may other place is = record {
  gone = other.gone;
  walked = rw is other.walked;
  flow = rw is other.flow;
  stands = (
    signal_stands _ _ of (each_agrees _ _ (sig_leaves (signal_tree of)) (λ leaf among.
        unwalked_holds s t old new may.can other.gone _ other.walked leaf (not_among_fewer (sig_part_among (holds_at t new) (signal_trees bank) before) leaf (none_of_both (sig_leaves (signal_tree of)) (sigs_leaves (signal_trees bank)) may.apart leaf among)))) may.stands.0,
    other.stands,
  );
  tree = rw other.tree refl;
}

-- ---- the lists of a bank

module _ {s : PortState} {walk : Progress} {of : ListOps} {bank : ListsOps} (may : ListsMayGo s walk (one_list of bank)) where
  pub first_list_may_go : ListMayGo s walk of
  first_list_may_go = record {
    can = may.can;
    has = all_front (length walk.positions) (vec_leaves (list_tree of)) (vecs_leaves (list_trees bank)) may.has;
    apart = distinct_front (vec_leaves (list_tree of)) (vecs_leaves (list_trees bank)) may.apart;
    short = (less _ _ 65536 may.short).0;
    stands = may.stands.0;
  }

  pub other_lists_may_go : ListsMayGo s walk bank
  other_lists_may_go = record {
    can = may.can;
    has = all_back (length walk.positions) (vec_leaves (list_tree of)) (vecs_leaves (list_trees bank)) may.has;
    apart = distinct_back (vec_leaves (list_tree of)) (vecs_leaves (list_trees bank)) may.apart;
    short = (less _ _ 65536 may.short).1;
    stands = may.stands.1;
  }

pub no_list_gone : (s : PortState) (walk : Progress) (place : ℕ) → HasGone s s walk walk → ListAtGone s s walk walk place no_list no_list []
no_list_gone s walk place gone = record { gone = gone; walked = not_walked s walk; flow = refl; stands = tt; tree = refl }

pub first_list_gone : {s t : PortState} {old new : Progress} {of after : ListOps} {bank : ListsOps} {diffs : List (VecDiff ℤ)} → ListsMayGo s old (one_list of bank) → ListGone s t old new of after diffs →
    (place : ℕ) → place ≡ 0 → ListAtGone s t old new place (one_list of bank) (one_list after bank) diffs
first_list_gone {s} {t} {old} {new} {of} {after} {bank} {diffs} may first place is =
    let one : FirstGone (list_part (list_tree of)) (vecs_leaves (list_trees bank)) s t old new diffs = record { can = may.can; has = may.has; apart = may.apart; first = list_gone first } in
    record {
      gone = first.gone;
      walked = rw is first.walked;
      flow = rw is first.flow;
      stands = (first.stands, lists_stand _ _ bank (rest_holds one) may.stands.1);
      tree = rw first.tree refl;
    }

pub other_list_gone : {s t : PortState} {old new : Progress} {of : ListOps} {bank rest : ListsOps} {before : ℕ} {diffs : List (VecDiff ℤ)} → ListsMayGo s old (one_list of bank) → ListAtGone s t old new before bank rest diffs →
    (place : ℕ) → place ≡ suc before → ListAtGone s t old new place (one_list of bank) (one_list of rest) diffs
other_list_gone {s} {t} {old} {new} {of} {bank} {rest} {before} may other place is = record {
  gone = other.gone;
  walked = rw is other.walked;
  flow = rw is other.flow;
  stands = (
    list_stands _ _ of (each_agrees _ _ (vec_leaves (list_tree of)) (λ leaf among.
        unwalked_holds s t old new may.can other.gone _ other.walked leaf (not_among_fewer (vec_part_among (holds_at t new) (list_trees bank) before) leaf (none_of_both (vec_leaves (list_tree of)) (vecs_leaves (list_trees bank)) may.apart leaf among)))) may.stands.0,
    other.stands,
  );
  tree = rw other.tree refl;
}
