-- Two lists, one behind the other: the left one has gone on, and then the right one.
use Rattle.std.proofs.Common.{ℤ, ◌≡◌, ◌≢◌, ◌∙◌, ℕ, List, [], ◌++◌, length, refl, sym, ap, arith}
use Rattle.std.specs.List.{fold}
use Rattle.sig_diff.specs.declared.contents.Content.{Content}
use Rattle.sig_diff.specs.declared.differences.VecDiff.{VecDiff}
use Rattle.sig_expr.specs.Bounds.{vec_bound}
use Rattle.sig_expr.specs.Leaves.{vec_leaves}
use Rattle.sig_expr.specs.Evaluation.{list_of}
use Rattle.sig_expr.specs.Trees.{VecTree}
use Rattle.sig_flat.specs.Joining.{Halves, joined_next}
use Rattle.sig_hist.specs.Ports.{PortState}
use Rattle.sig_nodes.proofs.ByList.{list_reaches, list_short, list_stays}
use Rattle.sig_nodes.proofs.Carrying.{carries}
use Rattle.sig_nodes.proofs.CarryingShort.{goes_within, same_caps}
use Rattle.sig_nodes.proofs.Parts.{FirstGone, BothGone, list_part, list_gone, holds_at, rest_has, rest_apart, rest_holds, both_gone, both_walked, first_flow, second_flow, held, all_front, distinct_front, each_less}
use Rattle.sig_nodes.proofs.News.{both_news}
use Rattle.sig_nodes.proofs.Standing.{list_stands}
use Rattle.sig_nodes.specs.Nodes.{ListOps, list_tree, halves_of}
use Rattle.sig_nodes.specs.Steps.{ListGone, ListMayGo}
use Rattle.sig_ops.specs.Signals.{given}
use Rattle.sig_rows.proofs.GoingAlong.{GoesShort, goes}
use Rattle.sig_rows.proofs.HalvesReach.{left_after, lengths, right_after}
use Rattle.sig_rows.proofs.Entered.{Reaches}
use Rattle.sig_rows.specs.Flow.{half_flow}
use Rattle.sig_rows.specs.Joins.{MayJoin}
use Rattle.sig_walk.specs.Walking.{HasNews, Progress, sources_in, cap_at}

pub left_may_go : {s : PortState} {walk : Progress} {op : Halves} {of other : ListOps} → ListMayGo s walk (halves_of op of other) → ListMayGo s walk of
left_may_go {walk = walk} {of = of} {other = other} may = record {
  can = may.can;
  has = all_front (length walk.positions) (vec_leaves (list_tree of)) (vec_leaves (list_tree other)) may.has;
  apart = distinct_front (vec_leaves (list_tree of)) (vec_leaves (list_tree other)) may.apart;
  short = (each_less _ _ _ 65536 may.short).1;
  stands = may.stands.2;
}

module _ {s t : PortState} {old mid : Progress} {op : Halves} {of after right : ListOps} {diffs : List (VecDiff ℤ)}
    (may : ListMayGo s old (halves_of op of right)) (first : ListGone s t old mid of after diffs) where
  abbrev one : FirstGone (list_part (list_tree of)) (vec_leaves (list_tree right)) s t old mid diffs
  one = record { can = may.can; has = may.has; apart = may.apart; first = list_gone first }

  pub right_may_go : ListMayGo t mid right
  right_may_go = record {
    can = first.gone.can;
    has = rest_has one;
    apart = rest_apart one;
    short = rw (same_caps s t old mid may.can first.gone) (each_less _ _ _ 65536 may.short).2;
    stands = list_stands _ _ right (rest_holds one) may.stands.3;
  }

  module _ {u : PortState} {new : Progress} {rest : ListOps} {others : List (VecDiff ℤ)} (second : ListGone t u mid new right rest others) where
    abbrev both : BothGone (list_part (list_tree of)) (list_part (list_tree right)) s t u old mid new diffs others
    both = record { one = one; second = list_gone second }

    pub halves_news : (diffs ≡ [] → others ≢ []) → HasNews u old
    halves_news some = both_news both some

    abbrev holds : ℕ → Content
    holds = holds_at s old

    abbrev ends : ℕ → Content
    ends = holds_at u new

    abbrev bound : VecTree ℕ → ℕ
    bound = vec_bound (cap_at (sources_in s old))

    right_reaches : Reaches (list_of holds (list_tree right)) others (list_of ends (list_tree right))
    right_reaches = rw (second_flow both) (carries s u old new may.can (both_gone both) (both_walked both).goes_on right)

    right_short : GoesShort (bound (list_tree right)) (list_of holds (list_tree right)) others
    right_short = rw (second_flow both) (goes_within s u old new may.can (both_gone both) (both_walked both).goes_on right (bound (list_tree right)) (omega arith))

    pub halves_may_join : MayJoin op diffs others
    halves_may_join = record {
      left = list_of holds (list_tree of);
      right = list_of holds (list_tree right);
      left_is = sym may.stands.0;
      right_is = sym may.stands.1;
      most_left = bound (list_tree of);
      most_right = bound (list_tree right);
      few = (each_less _ _ _ 65536 may.short).0;
      left_goes = goes (bound (list_tree of)) (list_reaches first both) (list_short first both (bound (list_tree of)) (omega arith));
      right_goes = goes (bound (list_tree right)) right_reaches right_short;
    }

    op_is : op ≡ lengths (list_of holds (list_tree of)) (list_of holds (list_tree right))
    op_is = λ i. record { left = may.stands.0 i; right = may.stands.1 i }

    between_is : fold (λ (op : Halves). joined_next op 0) op diffs ≡ lengths (list_of ends (list_tree of)) (list_of holds (list_tree right))
    between_is = rw op_is (left_after _ diffs _ _ others _ (list_reaches first both) right_reaches)

    pub halves_gone : (next : Halves) (given : List (VecDiff ℤ)) → next ≡ fold (λ (op : Halves). joined_next op 1) (fold (λ (op : Halves). joined_next op 0) op diffs) others →
        given ≡ half_flow 0 op diffs ++ half_flow 1 (fold (λ (op : Halves). joined_next op 0) op diffs) others → ListGone s u old new (halves_of op of right) (halves_of next after rest) given
    halves_gone next given is flow =
        let there : next ≡ lengths (list_of ends (list_tree of)) (list_of ends (list_tree right)) = is ∙ rw between_is (right_after _ diffs _ _ others _ (list_reaches first both) right_reaches) in
        record {
          gone = both_gone both;
          walked = both_walked both;
          flow = flow ∙ rw (between_is, op_is, ← held both, first_flow both, second_flow both) refl;
          stands = (
            ap (λ (op : Halves). op.left) there ∙ ap (λ (e : VecTree ℕ). length (list_of ends e)) (sym first.tree),
            ap (λ (op : Halves). op.right) there ∙ ap (λ (e : VecTree ℕ). length (list_of ends e)) (sym second.tree),
            list_stays first both,
            second.stands,
          );
          tree = rw (first.tree, second.tree) refl;
        }
