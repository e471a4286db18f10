use Rattle.std.proofs.Common.{◌≡◌, ◌∙◌, ap, map}
use Rattle.std.specs.Vec.{with_items}
use Rattle.sig_hist.specs.Bells.{changed_at, wait_ended}
use Rattle.sig_hist.specs.Plain.{leaf_settled}
use Rattle.sig_hist.proofs.Knowing.{all_written}
use Rattle.sig_hist.proofs.Listing.{listed_settled, settle_all}
use Rattle.sig_hist.proofs.bells.Bells.settle.Goals as goal

ended : (c : goal.After-clear) → (with_items c.self.inside.leaves c.end_waits.new.leaves).items ≡ changed_at wait_ended c.self.inside.waiting.items c.self.inside.leaves.items
ended c =
    all_written c.self.inside.leaves.items c.end_waits.new.leaves _ (c.end_waits.auto.leaves ∙ c.as_mut_slice.ensures.len)
    ∙ rw (c.as_mut_slice.ensures.value, c.as_slice.ensures.value) at c.end_waits.ensures

settled : (c : goal.After-clear) → (with_items (with_items c.self.inside.leaves c.end_waits.new.leaves) c.begin_waits.new.leaves).items ≡ map leaf_settled c.self.inside.leaves.items
settled c =
    all_written (with_items c.self.inside.leaves c.end_waits.new.leaves).items c.begin_waits.new.leaves _ (c.begin_waits.auto.leaves ∙ c.as_mut_slice-2.ensures.len)
    ∙ rw (c.as_mut_slice-2.ensures.value, c.as_slice-2.ensures.value, ended c) at c.begin_waits.ensures
    ∙ settle_all c.self.invariant

pub invariant_of-self : goal.invariant_of-self
invariant_of-self c =
    rw (settled c, c.clear.ensures.items, c.clear.ensures.capacity, c.swap.ensures.x_after, c.swap.ensures.y_after) (listed_settled c.self.invariant)

pub returns : goal.returns
returns c = settled c ∙ ap (map leaf_settled) c.self.view_is
