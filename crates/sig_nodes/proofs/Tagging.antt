-- A list with tags along the differences of its list, and as a view.
use Rattle.std.proofs.Common.{◌≡◌, ◌∙◌, ℕ, ◌+◌, ◌^◌, ◌<◌, ◌≤◌, ℤ, List, ◌∷◌, ◌++◌, length, drop, get_or, nat_lt, true, refl, sym, ap, add-one, append_assoc}
use Rattle.std.proofs.Math.Seq.{drop-cons}
use Rattle.std.proofs.lemmas.Bool.{ltb-true}
use Rattle.std.proofs.lemmas.List.{length-map}
use Rattle.sig_diff.specs.Replaying.{AreLawful, StaysShort}
use Rattle.sig_diff.specs.declared.contents.Tagged.{Tagged}
use Rattle.sig_diff.specs.declared.differences.VecDiff.{VecDiff}
use Rattle.sig_expr.specs.Evaluation.{list_of}
use Rattle.sig_hist.specs.Ports.{PortState}
use Rattle.sig_ops.specs.laws.Enumerating.{EnumerateStep, values_next}
use Rattle.sig_ops.specs.Enumerating.{Enumeration, IsEnumeration, enumerate_gives, enumeration_next, values_of}
use Rattle.sig_ops.specs.Following.{after_all, all_given}
use Rattle.sig_nodes.proofs.Carrying.{carries}
use Rattle.sig_nodes.proofs.CarryingShort.{carries_short}
use Rattle.sig_rows.proofs.Tags.{tags_stand}
use Rattle.sig_rows.proofs.Entered.{Reaches}
use Rattle.sig_expr.specs.Lengths.{vec_longest}
use Rattle.sig_nodes.specs.Nodes.{ListOps, list_tree}
use Rattle.sig_hist.specs.Ways.{contents_at}
use Rattle.sig_nodes.specs.Steps.{ListGone}
use Rattle.sig_walk.specs.Walking.{CanWalk, Progress, cap_at, sources_in}

-- ---- the loop

values_count : (elements : List Tagged) → length (values_of elements) ≡ length elements
values_count elements = length-map elements (λ (element : Tagged). element.value)

-- what holds while differences are given with tags: those up to a place were given, and the list takes the others
pub record Tagging (op initial : Enumeration) (index : ℕ) (diffs : List (VecDiff ℤ)) (given : List (VecDiff Tagged)) : Type 0 where
  pub given_is : given ++ all_given enumeration_next enumerate_gives op (drop index diffs) ≡ all_given enumeration_next enumerate_gives initial diffs
  pub op_is : after_all enumeration_next op (drop index diffs) ≡ after_all enumeration_next initial diffs
  pub lawful : AreLawful (values_of op.elements) (drop index diffs)
  pub short : StaysShort 65536 (values_of op.elements) (drop index diffs)

module _ (op initial : Enumeration) (index : ℕ) (diffs : List (VecDiff ℤ)) (given : List (VecDiff Tagged)) (diff : VecDiff ℤ) (tagging : Tagging op initial index diffs given) (below : index < length diffs) (is : diff ≡ get_or diffs index diff) where
  split : drop index diffs ≡ diff ∷ drop (index + 1) diffs
  split = drop-cons diffs index diff below ∙ rw (← is, add-one) refl

  first_lawful : AreLawful (values_of op.elements) (diff ∷ drop (index + 1) diffs)
  first_lawful = rw split at tagging.lawful

  first_short : StaysShort 65536 (values_of op.elements) (diff ∷ drop (index + 1) diffs)
  first_short = rw split at tagging.short

  pub may_tag : nat_lt (op.next + 65536) (2 ^ 128) ≡ true → EnumerateStep op diff
  may_tag left = record {
    lawful = rw (values_count op.elements) at first_lawful.0;
    short = rw (← values_count (enumeration_next op diff).elements, values_next op diff) (first_short first_lawful.0).0;
    tags = ltb-true (op.next + 65536) (2 ^ 128) left;
  }

  pub one_tagged : (next : Enumeration) (all : List (VecDiff Tagged)) → next ≡ enumeration_next op diff → all ≡ given ++ enumerate_gives op diff → Tagging next initial (index + 1) diffs all
  one_tagged next all next_is all_is = record {
    given_is = rw (all_is, next_is) (append_assoc given (enumerate_gives op diff) _ ∙ ap (λ (diffs : List (VecDiff ℤ)). given ++ all_given enumeration_next enumerate_gives op diffs) (sym split) ∙ tagging.given_is);
    op_is = rw next_is (ap (after_all enumeration_next op) (sym split) ∙ tagging.op_is);
    lawful = rw (next_is, values_next op diff) first_lawful.1;
    short = rw (next_is, values_next op diff) (first_short first_lawful.0).1;
  }

-- ---- the view

-- the list below has stepped
module _ {s t : PortState} {old new : Progress} {of after : ListOps} {diffs : List (VecDiff ℤ)} (below : ListGone s t old new of after diffs) (can : CanWalk s old)
    (few : vec_longest (cap_at (sources_in s old)) (list_tree of) ≤ 65536) {op : Enumeration} (stands : IsEnumeration op (list_of (contents_at (sources_in s old) old.positions) (list_tree of))) where
  reaches : Reaches (list_of (contents_at (sources_in s old) old.positions) (list_tree of)) diffs (list_of (contents_at (sources_in t new) new.positions) (list_tree of))
  reaches = rw below.flow (carries s t old new can below.gone below.walked.goes_on of)

  pub tagged_lawful : AreLawful (values_of op.elements) diffs
  tagged_lawful = rw stands.values reaches.lawful

  pub tagged_short : StaysShort 65536 (values_of op.elements) diffs
  tagged_short = rw (stands.values, below.flow) (carries_short s t old new can below.gone below.walked.goes_on of 65536 few)

  pub tagged_stands : (next : Enumeration) → next ≡ after_all enumeration_next op diffs → IsEnumeration next (list_of (contents_at (sources_in t new) new.positions) (list_tree after))
  tagged_stands next is = rw (is, below.tree) (tags_stand op _ _ diffs stands reaches)
