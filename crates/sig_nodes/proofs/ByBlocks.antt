-- A flattened list: the outer list has gone on, and then the lists of the bank.
use Rattle.std.proofs.Common.{ℤ, ◌≡◌, ◌≢◌, ◌∙◌, ℕ, suc, ◌+◌, List, [], ◌∷◌, ◌++◌, length, refl, sym, ap, ap₂, arith, le_trans, append_assoc}
use Rattle.std.proofs.lemmas.List.{append-nil}
use Rattle.std.specs.List.{fold}
use Rattle.sig_diff.specs.declared.contents.Content.{Content}
use Rattle.sig_diff.specs.declared.differences.VecDiff.{VecDiff}
use Rattle.sig_expr.specs.Bounds.{vec_bound, greatest_bound}
use Rattle.sig_expr.specs.Leaves.{vec_leaves, vecs_leaves}
use Rattle.sig_expr.specs.Evaluation.{list_of, lists_of}
use Rattle.sig_expr.specs.Trees.{VecTree, VecTrees}
use Rattle.sig_flat.specs.Flattening.{Blocks, outer_gives, outer_next}
use Rattle.sig_hist.specs.Ports.{PortState}
use Rattle.sig_hist.specs.Ways.{before}
use Rattle.sig_nodes.proofs.ByList.{list_reaches, list_short, list_stays}
use Rattle.sig_nodes.proofs.CarryingShort.{same_caps, bank_within}
use Rattle.sig_nodes.proofs.Parts.{FirstGone, BothGone, list_part, lists_part, list_gone, holds_at, gone_by, rest_has, rest_apart, rest_holds, both_gone, both_walked, first_flow, second_flow, held, ahead, all_front, distinct_front, less, each_less}
use Rattle.sig_nodes.proofs.Standing.{lists_stand}
use Rattle.sig_nodes.proofs.News.{both_news}
use Rattle.sig_nodes.proofs.OverGiven.{after_lists, list_first, over_lists}
use Rattle.sig_nodes.specs.Banks.{MayFlattenGiven, blocks_give, blocks_next, lists_given}
use Rattle.sig_nodes.specs.declared.banks.GivenList.{GivenList}
use Rattle.sig_nodes.specs.Nodes.{ListOps, list_tree, ListsOps, blocks_of, list_count, list_trees, no_list, one_list}
use Rattle.sig_nodes.specs.Steps.{ListGone, ListMayGo, ListsGone, ListsMayGo}
use Rattle.sig_ops.specs.Signals.{given}
use Rattle.sig_rows.proofs.BlocksReach.{PartShort, all_go, outer_after, parts_after}
use Rattle.sig_rows.proofs.ByClass.{EachGoes}
use Rattle.sig_rows.proofs.GoingAlong.{goes}
use Rattle.sig_rows.proofs.Reaching.{lists_reach}
use Rattle.sig_rows.proofs.Shortening.{bound_within, greatest_within}
use Rattle.sig_rows.proofs.Entered.{Reaches}
use Rattle.sig_rows.specs.Flow.{list_flows, given_along}
use Rattle.sig_rows.specs.Joins.{MayFlatten}
use Rattle.sig_walk.proofs.Composing.{not_walked}
use Rattle.sig_walk.specs.Walking.{HasGone, HasNews, Progress, sources_in, cap_at}

-- ---- all lists of a bank

pub no_lists_gone : (s : PortState) (walk : Progress) (place : ℕ) (before : List GivenList) → HasGone s s walk walk → ListsGone s s walk walk place no_list no_list before before
no_lists_gone s walk place before gone = record { gone = gone; walked = not_walked s walk; flow = sym (append-nil before); stands = tt; tree = refl }

module _ {s t : PortState} {old mid : Progress} {of after : ListOps} {bank : ListsOps} {diffs : List (VecDiff ℤ)}
    (may : ListsMayGo s old (one_list of bank)) (first : ListGone s t old mid of after diffs) where
  abbrev first_list : FirstGone (list_part (list_tree of)) (vecs_leaves (list_trees bank)) s t old mid diffs
  first_list = record { can = may.can; has = may.has; apart = may.apart; first = list_gone first }

  pub rest_lists_may_go : ListsMayGo t mid bank
  rest_lists_may_go = record {
    can = first.gone.can;
    has = rest_has first_list;
    apart = rest_apart first_list;
    short = rw (same_caps s t old mid may.can first.gone) (less _ _ 65536 may.short).1;
    stands = lists_stand _ _ bank (rest_holds first_list) may.stands.1;
  }

  pub all_lists_gone : {u : PortState} {new : Progress} {rest : ListsOps} {place : ℕ} {before between lists : List GivenList} → between ≡ before ++ lists_given place (diffs ∷ []) → ListsGone t u mid new (place + 1) bank rest between lists →
      ListsGone s u old new place (one_list of bank) (one_list after rest) before lists
  all_lists_gone {u} {new} {rest} {place} {before} {between} {lists} between_is second =
      let both : BothGone (list_part (list_tree of)) (lists_part (place + 1) (list_trees bank)) s t u old mid new diffs (lists_given (place + 1) (list_flows (gone_by u mid new) (list_trees bank))) =
      record { one = first_list; second = record { gone = second.gone; walked = second.walked; flow = refl } } in
      let each : List (List (VecDiff ℤ)) = list_flows (gone_by u old new) (list_trees bank) in
      record {
        gone = both_gone both;
        walked = both_walked both;
        flow = second.flow ∙ ap₂ (λ (first others : List GivenList). first ++ others) between_is (second_flow both) ∙ append_assoc before (lists_given place (diffs ∷ [])) _
            ∙ ap (λ (given : List GivenList). before ++ given) (sym (list_first place diffs each) ∙ ap (λ (diffs : List (VecDiff ℤ)). lists_given place (diffs ∷ each)) (first_flow both));
        stands = (list_stays first both, second.stands);
        tree = rw (first.tree, second.tree) refl;
      }

-- ---- the outer list, and the bank

count_lists : (s : ℕ → Content) (bank : ListsOps) → length (lists_of s (list_trees bank)) ≡ list_count bank
count_lists s no_list = refl
count_lists s (one_list of bank) = ap suc (count_lists s bank)

pub outer_may_go : {s : PortState} {walk : Progress} {op : Blocks} {of : ListOps} {bank : ListsOps} → ListMayGo s walk (blocks_of op of bank) → ListMayGo s walk of
outer_may_go {walk = walk} {of = of} {bank = bank} may = record {
  can = may.can;
  has = all_front (length walk.positions) (vec_leaves (list_tree of)) (vecs_leaves (list_trees bank)) may.has;
  apart = distinct_front (vec_leaves (list_tree of)) (vecs_leaves (list_trees bank)) may.apart;
  short = (each_less _ _ _ 65536 may.short).1;
  stands = may.stands.2;
}

module _ {s t : PortState} {old mid : Progress} {op : Blocks} {of after : ListOps} {bank : ListsOps} {diffs : List (VecDiff ℤ)}
    (may : ListMayGo s old (blocks_of op of bank)) (first : ListGone s t old mid of after diffs) where
  abbrev one : FirstGone (list_part (list_tree of)) (vecs_leaves (list_trees bank)) s t old mid diffs
  one = record { can = may.can; has = may.has; apart = may.apart; first = list_gone first }

  pub blocks_bank : ListsMayGo t mid bank
  blocks_bank = record {
    can = first.gone.can;
    has = rest_has one;
    apart = rest_apart one;
    short = rw (same_caps s t old mid may.can first.gone) (each_less _ _ _ 65536 may.short).2;
    stands = lists_stand _ _ bank (rest_holds one) may.stands.3;
  }

  -- the bank has as many lists as the operator knows
  pub blocks_count : (count : ℕ) → count ≡ length op.parts → 0 + list_count bank ≡ count
  blocks_count count is = omega (arith, is ∙ ap length may.stands.1 ∙ count_lists (holds_at s old) bank)

  module _ {u : PortState} {new : Progress} {rest : ListsOps} {given_lists : List GivenList} (second : ListsGone t u mid new 0 bank rest [] given_lists) where
    abbrev both : BothGone (list_part (list_tree of)) (lists_part 0 (list_trees bank)) s t u old mid new diffs given_lists
    both = record { one = one; second = record { gone = second.gone; walked = second.walked; flow = second.flow } }

    pub blocks_news : (diffs ≡ [] → given_lists ≢ []) → HasNews u old
    blocks_news some = both_news both some

    abbrev holds : ℕ → Content
    holds = holds_at s old

    abbrev ends : ℕ → Content
    ends = holds_at u new

    abbrev caps : ℕ → ℕ
    caps = cap_at (sources_in s old)

    -- what each list gives
    abbrev lists : List (List (VecDiff ℤ))
    lists = list_flows (gone_by u old new) (list_trees bank)

    bank_reaches : EachGoes (Reaches {T = ℤ}) (lists_of holds (list_trees bank)) lists (lists_of ends (list_trees bank))
    bank_reaches = rw (← held both) (lists_reach (gone_by u old new) (ahead both) (list_trees bank))

    bank_short : EachGoes (PartShort (greatest_bound caps (list_trees bank))) (lists_of holds (list_trees bank)) lists (lists_of ends (list_trees bank))
    bank_short = (bank_within s u old new may.can (both_gone both) (both_walked both).goes_on bank (greatest_bound caps (list_trees bank)) (omega arith))

    may_flatten : MayFlatten op diffs lists
    may_flatten = record {
      most = vec_bound caps (list_tree of);
      most_part = greatest_bound caps (list_trees bank);
      few = (each_less _ _ _ 65536 may.short).0;
      few_part = le_trans (greatest_within caps (list_trees bank)) (each_less _ _ _ 65536 may.short).2;
      few_outer = le_trans (bound_within caps (list_tree of)) (each_less _ _ _ 65536 may.short).1;
      outer_goes = rw may.stands.0 (goes (vec_bound caps (list_tree of)) (list_reaches first both) (list_short first both (vec_bound caps (list_tree of)) (omega arith)));
      parts_go = rw may.stands.1 (all_go (greatest_bound caps (list_trees bank)) bank_short);
    }

    pub blocks_may_flatten : MayFlattenGiven op diffs given_lists
    blocks_may_flatten = record { lists = lists; given_is = second_flow both; may = may_flatten }

    op_is : op ≡ record { outer = list_of holds (list_tree of); parts = lists_of holds (list_trees bank) }
    op_is = λ i. record { outer = may.stands.0 i; parts = may.stands.1 i }

    between_is : fold outer_next op diffs ≡ record { outer = list_of ends (list_tree of); parts = lists_of holds (list_trees bank) }
    between_is = rw op_is (outer_after _ _ diffs _ (list_reaches first both))

    pub blocks_gone : (next : Blocks) (given : List (VecDiff ℤ)) → next ≡ fold blocks_next (fold outer_next op diffs) given_lists →
        given ≡ given_along outer_gives outer_next op diffs ++ given_along blocks_give blocks_next (fold outer_next op diffs) given_lists → ListGone s u old new (blocks_of op of bank) (blocks_of next after rest) given
    blocks_gone next given is flow =
        let there : next ≡ record { outer = list_of ends (list_tree of); parts = lists_of ends (list_trees bank) } = is ∙ rw (second_flow both, between_is) (after_lists _ 0 lists ∙ parts_after _ diffs _ (list_reaches first both) _ lists _ bank_reaches) in
        record {
          gone = both_gone both;
          walked = both_walked both;
          flow = flow ∙ rw (second_flow both, over_lists (fold outer_next op diffs) 0 lists, between_is, op_is, ← held both, first_flow both) refl;
          stands = (
            ap (λ (op : Blocks). op.outer) there ∙ ap (λ (e : VecTree ℕ). list_of ends e) (sym first.tree),
            ap (λ (op : Blocks). op.parts) there ∙ ap (λ (e : VecTrees ℕ). lists_of ends e) (sym second.tree),
            list_stays first both,
            second.stands,
          );
          tree = rw (first.tree, second.tree) refl;
        }
