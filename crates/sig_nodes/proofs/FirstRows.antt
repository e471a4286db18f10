-- A view's first row.
use Rattle.std.proofs.Common.{◌≡◌, ℕ, ◌+◌, ◌<◌, ◌≤◌, ℤ, List, [], ◌∷◌, length, take, slice_index, Some, refl, ap, arith, le_trans}
use Rattle.sig_diff.specs.Contents.{entries_in, list_in}
use Rattle.sig_diff.specs.declared.contents.Content.{Content}
use Rattle.sig_diff.specs.declared.contents.Content.TheVariants.{Cell, Vector, Map}
use Rattle.sig_hist.specs.Changes.{size_of}
use Rattle.sig_hist.specs.Ports.{IsSoundPort, PortState}
use Rattle.sig_hist.specs.declared.plans.SourcePlan.{SourcePlan}
use Rattle.sig_rows.proofs.MapShortening.{state_within}
use Rattle.sig_walk.proofs.Staying.{source_of_leaf}
use Rattle.sig_ops.specs.laws.Enumerating.{enumeration_stands}
use Rattle.sig_ops.specs.Enumerating.{enumeration_of, tagged_from}
use Rattle.sig_expr.specs.Trees.{VecTree, tagged_view}
use Rattle.sig_diff.specs.declared.differences.VecDiff.TheVariants.{Replace}
use Rattle.sig_rows.proofs.Tags.{as_many_tags}
use Rattle.sig_nodes.specs.Nodes.{ListOps, ViewOps, tagged}
use Rattle.sig_nodes.specs.Starting.{IsListStarted, IsViewStarted, leaf_length}
use Rattle.sig_rows.specs.declared.rows.Body.{Body}
use Rattle.sig_hist.specs.Ways.{state_at, contents_at}
use Rattle.sig_walk.specs.Walking.{seen_source, seen_sources}

-- ---- no list or map is too long

content_length : (content : Content) → length (list_in content) + length (entries_in content) ≤ size_of content
content_length (Cell x) = omega arith
content_length (Vector items) = omega arith
content_length (Map entries) = omega arith

-- a source's list or map is never longer than its cap
pub leaf_within : (s : PortState) (first count leaf : ℕ) (positions : List ℕ) → IsSoundPort s → leaf < count → leaf_length (contents_at (seen_sources s first count) positions) leaf ≤ (s.plan (s.source (first + leaf))).cap
leaf_within s first count leaf positions sound below =
    let number : ℕ = s.source (first + leaf) in
    let plan : SourcePlan = s.plan number in
    let is = (sound number).of_plan in
    let same : contents_at (seen_sources s first count) positions leaf ≡ state_at (seen_source s (first + leaf)) (slice_index positions leaf) = ap (λ source. state_at source (slice_index positions leaf)) (source_of_leaf s first count leaf below) in
    rw same (le_trans (content_length _) (state_within plan.start plan.cap (take (slice_index positions leaf) (s.seen number)) is.in_order is.within_cap))

-- a list with tags as a view, started on its items
pub enumerated : (s : ℕ → Content) (tree : VecTree ℕ) (ops : ListOps) (items : List ℤ) → IsListStarted s tree ops items → (made : ViewOps) (body : Body) → made ≡ tagged (enumeration_of items) ops →
    body ≡ Body.Tagged (Replace (tagged_from 0 items) ∷ []) → IsViewStarted s (tagged_view tree) made body
enumerated s tree ops items started made body made_is body_is =
    let count : 0 + (length (tagged_from 0 items) + 0) ≡ length items = omega (arith, as_many_tags 0 items) in
    rw (made_is, body_is) (record {
      tree_is = ap tagged_view started.tree_is;
      stands = (rw (started.tree_is, ← started.items_are) (enumeration_stands items), started.stands);
      body_is = rw (← started.items_are) refl;
      tags = ap (λ (next : ℕ). Some (record { elements = tagged_from 0 items; next = next })) count;
    })
