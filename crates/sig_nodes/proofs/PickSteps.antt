-- A pick, where its chooser has gone on, and then the chosen list.
use Rattle.std.proofs.Common.{ℤ, Option, get_or, ◌≡◌, ◌∙◌, ℕ, List, [], ◌++◌, length, true, refl, sym, ap, slice_set, ap₂}
use Rattle.std.proofs.lemmas.List.{append-nil}
use Rattle.std.specs.Option.{unwrap_or}
use Rattle.sig_bank.specs.Banks.{Choice, chosen_place, list_at}
use Rattle.sig_bank.specs.Tables.{pick_gives}
use Rattle.sig_diff.specs.Choosing.{chosen}
use Rattle.sig_diff.specs.Replaying.{AreLawful}
use Rattle.sig_diff.specs.declared.contents.Content.{Content}
use Rattle.sig_diff.specs.declared.differences.VecDiff.{VecDiff}
use Rattle.sig_expr.proofs.Awaiting.{length_lists}
use Rattle.sig_expr.specs.Awaited.{each_vec_awaits}
use Rattle.sig_expr.specs.Leaves.{sig_leaves, vecs_leaves}
use Rattle.sig_expr.specs.Evaluation.{lists_of, value_of}
use Rattle.sig_hist.specs.Ports.{PortState}
use Rattle.sig_hist.specs.Ways.{contents_at}
use Rattle.sig_nodes.proofs.ByChooser.{kept_lists, as_many_lists, chooser_is, same_chooser, still_stands}
use Rattle.sig_nodes.proofs.CarryingShort.{same_caps}
use Rattle.sig_nodes.proofs.Parts.{FirstGone, BothGone, signal_part, list_at_part, signal_gone, holds_at, gone_by, rest_has, rest_apart, rest_holds, both_gone, both_walked, first_flow, second_flow, held, ahead, all_front, distinct_front, unwalked_holds, less}
use Rattle.sig_nodes.proofs.Standing.{lists_stand}
use Rattle.sig_nodes.specs.Choices.{after_picked}
use Rattle.sig_nodes.specs.Nodes.{SignalOps, signal_tree, ListsOps, list_trees, no_list, one_list, has_no_list, pick_of}
use Rattle.sig_nodes.specs.Steps.{ListGone, SignalGone, ListMayGo, ListsMayGo, ListAtGone, SignalMayGo}
use Rattle.sig_ops.specs.Signals.{given}
use Rattle.sig_rows.proofs.Along.{same_lists}
use Rattle.sig_rows.proofs.ByClass.{EachGoes, each_given, part_goes}
use Rattle.sig_rows.proofs.Reaching.{lists_reach}
use Rattle.sig_rows.proofs.Entered.{Reaches}
use Rattle.sig_rows.specs.Flow.{list_flows, given_list}
use Rattle.sig_walk.proofs.Holding.{held_before, never_back}
use Rattle.sig_walk.specs.Walking.{Progress, sources_in}

pub pick_may_go : {s : PortState} {walk : Progress} {op : Choice (List ℤ)} {of : SignalOps} {bank : ListsOps} → ListMayGo s walk (pick_of op of bank) → SignalMayGo s walk of
pick_may_go {walk = walk} {of = of} {bank = bank} may = record {
  can = may.can;
  has = all_front (length walk.positions) (sig_leaves (signal_tree of)) (vecs_leaves (list_trees bank)) may.has;
  apart = distinct_front (sig_leaves (signal_tree of)) (vecs_leaves (list_trees bank)) may.apart;
  short = (less _ _ 65536 may.short).0;
  stands = may.stands.2;
}

module _ {s t : PortState} {old mid : Progress} {op : Choice (List ℤ)} {of after : SignalOps} {bank : ListsOps} {value : Option ℤ}
    (may : ListMayGo s old (pick_of op of bank)) (first : SignalGone s t old mid of after value) where
  abbrev one : FirstGone (signal_part (signal_tree of)) (vecs_leaves (list_trees bank)) s t old mid value
  one = record { can = may.can; has = may.has; apart = may.apart; first = signal_gone first }

  pub pick_bank : ListsMayGo t mid bank
  pick_bank = record {
    can = first.gone.can;
    has = rest_has one;
    apart = rest_apart one;
    short = rw (same_caps s t old mid may.can first.gone) (less _ _ 65536 may.short).1;
    stands = lists_stand _ _ bank (rest_holds one) may.stands.3;
  }

  -- the pick after its chooser
  module _ (anew : Choice (List ℤ)) (chooser : anew.chooser ≡ unwrap_or value op.chooser) (parts : anew.parts ≡ op.parts) where
    new_chooser : anew.chooser ≡ value_of (holds_at t mid) (signal_tree of)
    new_chooser = chooser ∙ sym (chooser_is first one op.chooser may.stands.0)

    new_parts : anew.parts ≡ lists_of (holds_at t mid) (list_trees bank)
    new_parts = parts ∙ may.stands.1 ∙ same_lists _ _ (list_trees bank) (rest_holds one)

    module _ {u : PortState} {new : Progress} {place : ℕ} {rest : ListsOps} {diffs : List (VecDiff ℤ)} (second : ListAtGone t u mid new place bank rest diffs)
        (chosen_is : place ≡ chosen_place anew.parts anew.chooser) where
      abbrev both : BothGone (signal_part (signal_tree of)) (list_at_part (list_trees bank) place) s t u old mid new value diffs
      both = record { one = one; second = record { gone = second.gone; walked = second.walked; flow = second.flow } }

      abbrev came : ℕ → Content
      came = holds_at t mid

      abbrev ends : ℕ → Content
      ends = holds_at u new

      now_chooser : anew.chooser ≡ value_of ends (signal_tree of)
      now_chooser = new_chooser ∙ same_chooser first both

      count : length anew.parts ≡ length (lists_of ends (list_trees bank))
      count = ap length new_parts ∙ length_lists ends came (list_trees bank)

      chosen_there : {A : Type 0} (xs : List A) (default : A) → length xs ≡ length (lists_of ends (list_trees bank)) → get_or xs place default ≡ chosen xs (value_of ends (signal_tree of)) default
      chosen_there xs default long = rw (chosen_is, count, long, now_chooser) refl

      -- what each list of the bank gives, on the whole way and after the chooser
      whole_way : EachGoes (Reaches {T = ℤ}) (lists_of (contents_at (sources_in u new) old.positions) (list_trees bank)) (list_flows (gone_by u old new) (list_trees bank)) (lists_of ends (list_trees bank))
      whole_way = lists_reach (gone_by u old new) (ahead both) (list_trees bank)

      diffs_are : diffs ≡ chosen (list_flows (gone_by u old new) (list_trees bank)) (value_of ends (signal_tree of)) []
      diffs_are = second_flow both ∙ chosen_there (list_flows (gone_by u old new) (list_trees bank)) [] (each_given [] [] (record { lawful = tt; replay = refl }) whole_way ∙ length_lists ends (contents_at (sources_in u new) old.positions) (list_trees bank))

      rest_way : EachGoes (Reaches {T = ℤ}) (lists_of came (list_trees bank)) (list_flows (gone_by u mid new) (list_trees bank)) (lists_of ends (list_trees bank))
      rest_way = rw (← held_before t u mid new first.gone.can second.gone)
          (lists_reach (gone_by u mid new) (never_back t u mid new first.gone.can second.gone second.walked.goes_on) (list_trees bank))

      -- the chosen list takes the differences
      part_reaches : Reaches (list_at anew place) diffs (get_or (lists_of ends (list_trees bank)) place [])
      part_reaches = rw (new_parts, second.flow) (part_goes [] [] (record { lawful = tt; replay = refl }) rest_way place)

      pub pick_lawful : AreLawful (list_at anew place) diffs
      pick_lawful = part_reaches.lawful

      kept : lists_of ends (list_trees bank) ≡ slice_set (lists_of came (list_trees bank)) place (get_or (lists_of ends (list_trees bank)) place [])
      kept = kept_lists came ends (list_trees bank) place (rest_apart one) (unwalked_holds t u mid new first.gone.can second.gone _ second.walked)

      pub pick_gone : (given : List (VecDiff ℤ)) → given ≡ given_list (pick_gives op) value → (next : Choice (List ℤ)) (all : List (VecDiff ℤ)) → next ≡ after_picked anew place diffs → all ≡ given ++ diffs →
          ListGone s u old new (pick_of op of bank) (pick_of next after rest) all
      pick_gone given flow next all is all_are = record {
        gone = both_gone both;
        walked = rw (← chosen_there (each_vec_awaits ends (list_trees bank)) [] (as_many_lists ends (list_trees bank))) (both_walked both);
        flow = all_are ∙ ap (λ (given : List (VecDiff ℤ)). given ++ diffs) flow ∙ rw (diffs_are, held both, ← may.stands.0, ← may.stands.1, ← first_flow both) refl;
        stands = (
          ap (λ (op : Choice (List ℤ)). op.chooser) is ∙ now_chooser ∙ ap (value_of ends) (sym first.tree),
          ap (λ (op : Choice (List ℤ)). op.parts) is ∙ ap₂ (λ (lists : List (List ℤ)) (items : List ℤ). slice_set lists place items) new_parts part_reaches.replay ∙ sym kept ∙ ap (lists_of ends) (sym second.tree),
          still_stands first both,
          second.stands,
        );
        tree = rw (first.tree, second.tree) refl;
      }

-- an empty bank gives nothing more
pub pick_gone_empty : {s t : PortState} {old mid : Progress} {op : Choice (List ℤ)} {of after : SignalOps} {value : Option ℤ} (bank : ListsOps) → has_no_list bank ≡ true → ListMayGo s old (pick_of op of bank) →
    SignalGone s t old mid of after value → (anew : Choice (List ℤ)) → anew.chooser ≡ unwrap_or value op.chooser → anew.parts ≡ op.parts → (given : List (VecDiff ℤ)) → given ≡ given_list (pick_gives op) value →
    ListGone s t old mid (pick_of op of bank) (pick_of anew after bank) given
pick_gone_empty no_list empty may first anew chooser parts given flow = record {
  gone = first.gone;
  walked = rw append-nil first.walked;
  flow = flow ∙ rw (may.stands.0, may.stands.1, first.flow, ← held_before _ _ _ _ may.can first.gone) (sym (append-nil _));
  stands = (new_chooser may first anew chooser parts ∙ rw first.tree refl, new_parts may first anew chooser parts, first.stands, tt);
  tree = rw first.tree refl;
}
pick_gone_empty (one_list ops bank) empty may first anew chooser parts given flow = cc
