-- A switch, where its chooser has gone on, and then the chosen signal.
use Rattle.std.proofs.Common.{ℤ, Option, None, get_or, ◌≡◌, ◌∙◌, ℕ, suc, ◌==◌, List, [], length, true, refl, sym, ap, Some, pos, option_and_then}
use Rattle.std.proofs.lemmas.Bool.{eq-eqb}
use Rattle.std.proofs.lemmas.List.{append-nil}
use Rattle.std.specs.Option.{unwrap_or, option_or}
use Rattle.sig_bank.specs.Banks.{Choice, chosen_place}
use Rattle.sig_bank.specs.Tables.{switch_gives}
use Rattle.sig_diff.specs.Choosing.{chosen}
use Rattle.sig_diff.specs.declared.contents.Content.{Content}
use Rattle.sig_expr.proofs.Awaiting.{length_signals}
use Rattle.sig_expr.specs.Awaited.{each_sig_awaits}
use Rattle.sig_expr.specs.Leaves.{sig_leaves, sigs_leaves}
use Rattle.sig_expr.specs.Evaluation.{signals_of, value_of}
use Rattle.sig_hist.specs.Ports.{PortState}
use Rattle.sig_hist.specs.Ways.{contents_at}
use Rattle.sig_nodes.proofs.ByChooser.{kept_signals, set_given, as_many_signals, chooser_is, same_chooser, still_stands}
use Rattle.sig_nodes.proofs.CarryingShort.{same_caps}
use Rattle.sig_nodes.proofs.Parts.{FirstGone, BothGone, signal_part, signal_at_part, signal_gone, holds_at, gone_by, rest_has, rest_apart, rest_holds, both_gone, both_walked, first_flow, second_flow, held, ahead, all_front, distinct_front, unwalked_holds, less}
use Rattle.sig_nodes.proofs.Standing.{signals_stand}
use Rattle.sig_nodes.specs.Choices.{after_choice}
use Rattle.sig_nodes.specs.Nodes.{SignalOps, signal_tree, SignalsOps, signal_trees, has_no_signal, no_signal, one_signal, switch_of}
use Rattle.sig_nodes.specs.Steps.{SignalGone, SignalMayGo, SignalsMayGo, SignalAtGone}
use Rattle.sig_rows.proofs.Along.{same_signals}
use Rattle.sig_rows.proofs.ByClass.{SignalsGo, each_given, part_goes}
use Rattle.sig_rows.proofs.Reaching.{signals_reach}
use Rattle.sig_rows.specs.Flow.{value_flows}
use Rattle.sig_walk.proofs.Holding.{held_before, never_back}
use Rattle.sig_walk.specs.Walking.{Progress, sources_in}

-- of a switch's child at a place behind the chooser, which is chosen
chosen_gives : (op : Choice ℤ) (place child : ℕ) (given : Option ℤ) → child ≡ suc place → place ≡ chosen_place op.parts op.chooser → option_and_then (switch_gives op child) given ≡ given
chosen_gives op place child None behind is = refl
chosen_gives op place child (Some value) behind is = let same : (chosen_place op.parts op.chooser == place) ≡ true = eq-eqb _ _ (sym is) in rw (behind, same) refl

chosen_next : (op : Choice ℤ) (place child : ℕ) (given : Option ℤ) → child ≡ suc place → after_choice op child given ≡ record op { parts = set_given op.parts place given }
chosen_next op place child None behind = refl
chosen_next op place child (Some value) behind = rw behind refl

chooser_next : (op : Choice ℤ) (value : Option ℤ) → after_choice op 0 value ≡ record op { chooser = unwrap_or value op.chooser }
chooser_next op None = refl
chooser_next op (Some value) = refl

pub switch_may_go : {s : PortState} {walk : Progress} {op : Choice ℤ} {of : SignalOps} {bank : SignalsOps} → SignalMayGo s walk (switch_of op of bank) → SignalMayGo s walk of
switch_may_go {walk = walk} {of = of} {bank = bank} may = record {
  can = may.can;
  has = all_front (length walk.positions) (sig_leaves (signal_tree of)) (sigs_leaves (signal_trees bank)) may.has;
  apart = distinct_front (sig_leaves (signal_tree of)) (sigs_leaves (signal_trees bank)) may.apart;
  short = (less _ _ 65536 may.short).0;
  stands = may.stands.2;
}

module _ {s t : PortState} {old mid : Progress} {op : Choice ℤ} {of after : SignalOps} {bank : SignalsOps} {value : Option ℤ}
    (may : SignalMayGo s old (switch_of op of bank)) (first : SignalGone s t old mid of after value) where
  abbrev one : FirstGone (signal_part (signal_tree of)) (sigs_leaves (signal_trees bank)) s t old mid value
  one = record { can = may.can; has = may.has; apart = may.apart; first = signal_gone first }

  pub switch_bank : SignalsMayGo t mid bank
  switch_bank = record {
    can = first.gone.can;
    has = rest_has one;
    apart = rest_apart one;
    short = rw (same_caps s t old mid may.can first.gone) (less _ _ 65536 may.short).1;
    stands = signals_stand _ _ bank (rest_holds one) may.stands.3;
  }

  -- the switch after its chooser
  module _ (anew : Choice ℤ) (anew_is : anew ≡ after_choice op 0 value) where
    new_chooser : anew.chooser ≡ value_of (holds_at t mid) (signal_tree of)
    new_chooser = ap (λ (op : Choice ℤ). op.chooser) (anew_is ∙ chooser_next op value) ∙ sym (chooser_is first one op.chooser may.stands.0)

    new_parts : anew.parts ≡ signals_of (holds_at t mid) (signal_trees bank)
    new_parts = ap (λ (op : Choice ℤ). op.parts) (anew_is ∙ chooser_next op value) ∙ may.stands.1 ∙ same_signals _ _ (signal_trees bank) (rest_holds one)

    module _ {u : PortState} {new : Progress} {place : ℕ} {rest : SignalsOps} {given : Option ℤ} (second : SignalAtGone t u mid new place bank rest given)
        (chosen_is : place ≡ chosen_place anew.parts anew.chooser) where
      abbrev both : BothGone (signal_part (signal_tree of)) (signal_at_part (signal_trees bank) place) s t u old mid new value given
      both = record { one = one; second = record { gone = second.gone; walked = second.walked; flow = second.flow } }

      abbrev came : ℕ → Content
      came = holds_at t mid

      abbrev ends : ℕ → Content
      ends = holds_at u new

      now_chooser : anew.chooser ≡ value_of ends (signal_tree of)
      now_chooser = new_chooser ∙ same_chooser first both

      count : length anew.parts ≡ length (signals_of ends (signal_trees bank))
      count = ap length new_parts ∙ length_signals ends came (signal_trees bank)

      chosen_there : {A : Type 0} (xs : List A) (default : A) → length xs ≡ length (signals_of ends (signal_trees bank)) → get_or xs place default ≡ chosen xs (value_of ends (signal_tree of)) default
      chosen_there xs default long = rw (chosen_is, count, long, now_chooser) refl

      -- what each signal of the bank gives, on the whole way and after the chooser
      whole_way : SignalsGo (signals_of (contents_at (sources_in u new) old.positions) (signal_trees bank)) (value_flows (gone_by u old new) (signal_trees bank)) (signals_of ends (signal_trees bank))
      whole_way = signals_reach (gone_by u old new) (ahead both) (signal_trees bank)

      given_is : given ≡ chosen (value_flows (gone_by u old new) (signal_trees bank)) (value_of ends (signal_tree of)) None
      given_is = second_flow both ∙ chosen_there (value_flows (gone_by u old new) (signal_trees bank)) None (each_given (pos 0) None refl whole_way ∙ length_signals ends (contents_at (sources_in u new) old.positions) (signal_trees bank))

      rest_way : SignalsGo (signals_of came (signal_trees bank)) (value_flows (gone_by u mid new) (signal_trees bank)) (signals_of ends (signal_trees bank))
      rest_way = rw (← held_before t u mid new first.gone.can second.gone)
          (signals_reach (gone_by u mid new) (never_back t u mid new first.gone.can second.gone second.walked.goes_on) (signal_trees bank))

      kept : signals_of ends (signal_trees bank) ≡ set_given (signals_of came (signal_trees bank)) place given
      kept = kept_signals came ends (signal_trees bank) place given (rest_apart one) (unwalked_holds t u mid new first.gone.can second.gone _ second.walked)
          (rw second.flow (part_goes (pos 0) None refl rest_way place))

      pub switch_gone : (last : Choice ℤ) (child : ℕ) (result : Option ℤ) → child ≡ suc place → last ≡ after_choice anew child given →
          result ≡ option_or (option_and_then (switch_gives anew child) given) (option_and_then (switch_gives op 0) value) → SignalGone s u old new (switch_of op of bank) (switch_of last after rest) result
      switch_gone last child result behind last_is flow =
          let there : last ≡ record anew { parts = set_given anew.parts place given } = last_is ∙ chosen_next anew place child given behind in
          record {
            gone = both_gone both;
            walked = rw (← chosen_there (each_sig_awaits ends (signal_trees bank)) [] (as_many_signals ends (signal_trees bank))) (both_walked both);
            flow = flow ∙ rw (chosen_gives anew place child given behind chosen_is, given_is, held both, ← may.stands.0, ← may.stands.1, ← first_flow both) refl;
            stands = (
              ap (λ (op : Choice ℤ). op.chooser) there ∙ now_chooser ∙ ap (value_of ends) (sym first.tree),
              ap (λ (op : Choice ℤ). op.parts) there ∙ ap (λ (values : List ℤ). set_given values place given) new_parts ∙ sym kept ∙ ap (signals_of ends) (sym second.tree),
              still_stands first both,
              second.stands,
            );
            tree = rw (first.tree, second.tree) refl;
          }

-- an empty bank gives nothing more
pub switch_gone_empty : {s t : PortState} {old mid : Progress} {op : Choice ℤ} {of after : SignalOps} {value : Option ℤ} (bank : SignalsOps) → has_no_signal bank ≡ true → SignalMayGo s old (switch_of op of bank) →
    SignalGone s t old mid of after value → (anew : Choice ℤ) → anew ≡ after_choice op 0 value → (result : Option ℤ) → result ≡ option_and_then (switch_gives op 0) value →
    SignalGone s t old mid (switch_of op of bank) (switch_of anew after bank) result
switch_gone_empty no_signal empty may first anew anew_is result flow = record {
  gone = first.gone;
  walked = rw append-nil first.walked;
  flow = flow ∙ rw (may.stands.0, may.stands.1, first.flow, ← held_before _ _ _ _ may.can first.gone) refl;
  stands = (new_chooser may first anew anew_is ∙ rw first.tree refl, new_parts may first anew anew_is, first.stands, tt);
  tree = rw first.tree refl;
}
switch_gone_empty (one_signal ops bank) empty may first anew anew_is result flow = cc
