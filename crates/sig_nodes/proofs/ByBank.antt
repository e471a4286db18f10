-- Lists that go by the signals of a bank: the list has gone on, and then the bank's signals.
use Rattle.std.proofs.Common.{ℤ, Option, None, ◌≡◌, ◌≢◌, ◌∙◌, ℕ, suc, ◌+◌, ◌<◌, ◌≤◌, All, arith, List, [], ◌∷◌, ◌++◌, length, refl, sym, ap, Some, append_assoc, max}
use Rattle.std.proofs.Math.Seq.{set-append_seam}
use Rattle.std.proofs.lemmas.List.{length-append}
use Rattle.std.specs.List.{flat_map, fold}
use Rattle.std.specs.Option.{unwrap_or}
use Rattle.sig_bank.specs.Banks.{BySignals}
use Rattle.sig_bank.specs.Tables.{filter_by_signal, map_by_signal}
use Rattle.sig_diff.specs.Choosing.{is_let_in, raised_by}
use Rattle.sig_diff.specs.Replaying.{AreLawful, replayed}
use Rattle.sig_diff.specs.declared.contents.Content.{Content}
use Rattle.sig_diff.specs.declared.differences.VecDiff.{VecDiff}
use Rattle.sig_expr.specs.Leaves.{sigs_leaves, vec_leaves}
use Rattle.sig_expr.specs.Evaluation.{list_of, signals_of}
use Rattle.sig_hist.specs.Ports.{PortState}
use Rattle.sig_hist.specs.Sources.{AreDistinct}
use Rattle.sig_nodes.proofs.ByList.{list_reaches, list_stays}
use Rattle.sig_nodes.proofs.CarryingShort.{goes_short, same_caps}
use Rattle.sig_nodes.proofs.Parts.{FirstGone, BothGone, list_part, signals_part, list_gone, holds_at, gone_by, rest_has, rest_apart, rest_holds, both_gone, both_walked, first_flow, second_flow, held, ahead, all_front, distinct_front, less}
use Rattle.sig_nodes.proofs.Standing.{signals_stand}
use Rattle.sig_nodes.specs.Choices.{with_items}
use Rattle.sig_nodes.proofs.News.{both_news}
use Rattle.sig_nodes.proofs.OverGiven.{after_values, over_values, values_below}
use Rattle.sig_nodes.specs.Banks.{gives_by, next_by}
use Rattle.sig_nodes.specs.declared.banks.Given.{Given}
use Rattle.sig_nodes.specs.Nodes.{ListOps, list_tree, ListStands, SignalsOps, SignalsStand, let_in, no_signal, one_signal, raised, signal_count, signal_trees}
use Rattle.sig_nodes.specs.Steps.{ListGone, SignalsGone, ListMayGo, SignalsMayGo}
use Rattle.sig_ops.specs.Signals.{given}
use Rattle.sig_ops.specs.Tables.{filter_gives, map_gives}
use Rattle.sig_rows.proofs.ByClass.{SignalsGo, no_part, one_part}
use Rattle.sig_rows.proofs.GoingAlong.{GoesShort, short_after, goes}
use Rattle.sig_rows.specs.Joins.{Goes}
use Rattle.sig_rows.proofs.Reaching.{signals_reach}
use Rattle.sig_rows.proofs.Entered.{Reaches}
use Rattle.sig_rows.specs.Flow.{after_signals, given_along, through, value_flows}
use Rattle.sig_expr.specs.Lengths.{sigs_longest, vec_longest}
use Rattle.sig_walk.specs.Walking.{CanWalk, HasLeaves, HasNews, Progress, sources_in, cap_at}

-- ---- the operator after its signals

-- the signals behind the first ones have the values that they give, or keep theirs
module _ (items front : List ℤ) (was is : ℤ) (olds news : List ℤ) (values : List (Option ℤ)) where
  -- by whether the first of them gives a value
  first_after : (given : Option ℤ) → is ≡ unwrap_or given was → after_signals (record { items = items; signals = front ++ is ∷ olds }) (length front + 1) values ≡ record { items = items; signals = front ++ is ∷ news } →
      after_signals (record { items = items; signals = front ++ was ∷ olds }) (length front) (given ∷ values) ≡ record { items = items; signals = front ++ is ∷ news }
  first_after None same later = rw (← same) later
  first_after (Some value) same later = rw (same, set-append_seam front was olds value) (rw same at later)

after_rest : (items front : List ℤ) {olds news : List ℤ} {values : List (Option ℤ)} → SignalsGo olds values news →
    after_signals (record { items = items; signals = front ++ olds }) (length front) values ≡ record { items = items; signals = front ++ news }
after_rest items front no_part = refl
after_rest items front (one_part {olds = olds} {news = news} {each = values} was given is same more) =
    let later = after_rest items (front ++ is ∷ []) more in
    first_after items front was is olds news values given same (rw (append_assoc front (is ∷ []) olds, append_assoc front (is ∷ []) news, length-append front (is ∷ [])) at later)

pub after_are : (op : BySignals) (news : List ℤ) (values : List (Option ℤ)) → SignalsGo op.signals values news → after_signals op 0 values ≡ record { items = op.items; signals = news }
after_are op news values goes = after_rest op.items [] goes

as_many : {olds news : List ℤ} {values : List (Option ℤ)} → SignalsGo olds values news → length values ≡ length olds
as_many no_part = refl
as_many (one_part was given is same more) = ap suc (as_many more)

-- ---- a step

count_signals : (s : ℕ → Content) (bank : SignalsOps) → length (signals_of s (signal_trees bank)) ≡ signal_count bank
count_signals s no_signal = refl
count_signals s (one_signal of bank) = ap suc (count_signals s bank)

-- what a step of a list by signals needs, whichever it is
pub record ByMayGo (s : PortState) (walk : Progress) (op : BySignals) (of : ListOps) (bank : SignalsOps) : Type 0 where
  pub can : CanWalk s walk
  pub has : HasLeaves walk (vec_leaves (list_tree of) ++ sigs_leaves (signal_trees bank))
  pub apart : AreDistinct (vec_leaves (list_tree of) ++ sigs_leaves (signal_trees bank))
  pub short : max (vec_longest (cap_at (sources_in s walk)) (list_tree of)) (sigs_longest (cap_at (sources_in s walk)) (signal_trees bank)) ≤ 65536
  pub items : op.items ≡ list_of (holds_at s walk) (list_tree of)
  pub signals : op.signals ≡ signals_of (holds_at s walk) (signal_trees bank)
  pub list : ListStands (holds_at s walk) of
  pub others : SignalsStand (holds_at s walk) bank

module _ {s : PortState} {walk : Progress} {op : BySignals} {of : ListOps} {bank : SignalsOps} where
  pub as_let_in : ListMayGo s walk (let_in op of bank) → ByMayGo s walk op of bank
  as_let_in may =
      record { can = may.can; has = may.has; apart = may.apart; short = may.short; items = may.stands.0; signals = may.stands.1; list = may.stands.2; others = may.stands.3 }

  pub as_raised : ListMayGo s walk (raised op of bank) → ByMayGo s walk op of bank
  as_raised may =
      record { can = may.can; has = may.has; apart = may.apart; short = may.short; items = may.stands.0; signals = may.stands.1; list = may.stands.2; others = may.stands.3 }

  pub by_list : ByMayGo s walk op of bank → ListMayGo s walk of
  by_list may = record {
    can = may.can;
    has = all_front (length walk.positions) (vec_leaves (list_tree of)) (sigs_leaves (signal_trees bank)) may.has;
    apart = distinct_front (vec_leaves (list_tree of)) (sigs_leaves (signal_trees bank)) may.apart;
    short = (less _ _ 65536 may.short).0;
    stands = may.list;
  }

module _ {s t : PortState} {old mid : Progress} {op : BySignals} {of after : ListOps} {bank : SignalsOps} {diffs : List (VecDiff ℤ)}
    (may : ByMayGo s old op of bank) (first : ListGone s t old mid of after diffs) where
  abbrev one : FirstGone (list_part (list_tree of)) (sigs_leaves (signal_trees bank)) s t old mid diffs
  one = record { can = may.can; has = may.has; apart = may.apart; first = list_gone first }

  pub by_bank : SignalsMayGo t mid bank
  by_bank = record {
    can = first.gone.can;
    has = rest_has one;
    apart = rest_apart one;
    short = rw (same_caps s t old mid may.can first.gone) (less _ _ 65536 may.short).1;
    stands = signals_stand _ _ bank (rest_holds one) may.others;
  }

  -- the bank has as many signals as the operator knows
  pub by_count : (count : ℕ) → count ≡ length op.signals → 0 + signal_count bank ≡ count
  by_count count is = omega (arith, is ∙ ap length may.signals ∙ count_signals (holds_at s old) bank)

  module _ {u : PortState} {new : Progress} {rest : SignalsOps} {values : List Given} (second : SignalsGone t u mid new 0 bank rest [] values) where
    abbrev both : BothGone (list_part (list_tree of)) (signals_part 0 (signal_trees bank)) s t u old mid new diffs values
    both = record { one = one; second = record { gone = second.gone; walked = second.walked; flow = second.flow } }

    pub by_news : (diffs ≡ [] → values ≢ []) → HasNews u old
    by_news some = both_news both some

    reaches : Reaches op.items diffs (list_of (holds_at u new) (list_tree of))
    reaches = rw may.items (list_reaches first both)

    pub by_lawful : AreLawful op.items diffs
    by_lawful = reaches.lawful

    -- and it stays short
    list_short : GoesShort 65536 op.items diffs
    list_short = rw (may.items, first_flow both) (goes_short s u old new may.can (both_gone both) (both_walked both).goes_on of 65536 (less _ _ 65536 may.short).0)

    pub by_goes : Goes 65536 op.items diffs
    by_goes = goes 65536 reaches list_short

    pub by_few : length (replayed op.items diffs) ≤ 65536
    by_few = rw reaches.replay (short_after 65536 op.items diffs _ reaches list_short)

    -- what each signal gives
    abbrev each : List (Option ℤ)
    each = value_flows (gone_by u old new) (signal_trees bank)

    signals_go : SignalsGo op.signals each (signals_of (holds_at u new) (signal_trees bank))
    signals_go = rw (may.signals, ← held both) (signals_reach (gone_by u old new) (ahead both) (signal_trees bank))

    pub by_each : All (λ (value : Given). value.place < length op.signals) values
    by_each = let few : 0 + length each ≤ length op.signals = omega (arith, as_many signals_go) in rw (second_flow both) (values_below (length op.signals) 0 each few)

    -- the operator stands for the list and the signals after that
    module _ (next : BySignals) (is : next ≡ fold next_by (with_items op diffs) values) where
      there : next ≡ record { items = replayed op.items diffs; signals = signals_of (holds_at u new) (signal_trees bank) }
      there = is ∙ rw (second_flow both) (after_values (with_items op diffs) 0 each) ∙ after_are (with_items op diffs) _ each signals_go

      items_are : next.items ≡ list_of (holds_at u new) (list_tree after)
      items_are = ap (λ (op : BySignals). op.items) there ∙ reaches.replay ∙ ap (list_of (holds_at u new)) (sym first.tree)

      signals_are : next.signals ≡ signals_of (holds_at u new) (signal_trees rest)
      signals_are = ap (λ (op : BySignals). op.signals) there ∙ ap (signals_of (holds_at u new)) (sym second.tree)

      pub let_in_gone : (given : List (VecDiff ℤ)) → given ≡ through (filter_gives (is_let_in op.signals)) op.items diffs ++ given_along (gives_by filter_by_signal) next_by (with_items op diffs) values →
          ListGone s u old new (let_in op of bank) (let_in next after rest) given
      let_in_gone given flow = record {
        gone = both_gone both;
        walked = both_walked both;
        flow = flow ∙ rw (second_flow both, over_values filter_by_signal (with_items op diffs) 0 each, reaches.replay, may.items, may.signals, ← held both, first_flow both) refl;
        stands = (items_are, signals_are, list_stays first both, second.stands);
        tree = rw (first.tree, second.tree) refl;
      }

      pub raised_gone : (given : List (VecDiff ℤ)) → given ≡ flat_map (map_gives (raised_by op.signals)) diffs ++ given_along (gives_by map_by_signal) next_by (with_items op diffs) values →
          ListGone s u old new (raised op of bank) (raised next after rest) given
      raised_gone given flow = record {
        gone = both_gone both;
        walked = both_walked both;
        flow = flow ∙ rw (second_flow both, over_values map_by_signal (with_items op diffs) 0 each, reaches.replay, may.signals, ← held both, first_flow both) refl;
        stands = (items_are, signals_are, list_stays first both, second.stands);
        tree = rw (first.tree, second.tree) refl;
      }
